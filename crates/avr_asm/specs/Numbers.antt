-- Numbers as they are written.
use Rattle.std.specs.Prelude.{ℕ, ◌&&◌, Bool, nat_le, nat_eq, if◌then◌else◌, List, length, drop, codes, Option, Some, None}
use Rattle.std.specs.List.{list_all, starts_with}
use Rattle.std.specs.Char.{is_digit}
use Rattle.std.specs.Str.Parse.{digits_value}

-- there is a digit, there are no more than `most`, and nothing else
abbrev pub are_digits : (radix most : ℕ) → List ℕ → Bool
are_digits radix most text = nat_le 1 (length text) && nat_le (length text) most && list_all (λ b. is_digit b radix) text

-- the number that digits of a base write, of which there may be so many
abbrev pub digits_of : (radix most : ℕ) → List ℕ → Option ℕ
digits_of radix most text = if are_digits radix most text then Some (digits_value radix text) else None

-- the number that a text writes: 1 to 10 decimal digits, or `0x` and 1 to 8 hexadecimal digits, in either case
unfoldable pub number_of : List ℕ → Option ℕ
number_of text = if starts_with nat_eq text (codes "0x") then digits_of 16 8 (drop 2 text) else digits_of 10 10 text
