-- Serves private functions: the next operation that is to fail.
use Rattle.std.specs.Prelude.{ℕ, ◌≡◌, ◌≢◌, ◌-◌, ◌^◌, ◌<◌, true, false, List}
use Rattle.flash_words.specs.Operations.{is_listed}

-- greater than the number of any operation
abbrev pub never : ℕ
never = 2 ^ 64 - 1

-- next is the least listed number behind op, or never where there is none
pub record IsNextListed (failing : List ℕ) (op next : ℕ) : Type 0 where
  pub ahead : op < next
  pub listed : next ≢ never → is_listed failing next ≡ true
  pub none_before : (n : ℕ) → op < n → n < next → is_listed failing n ≡ false
