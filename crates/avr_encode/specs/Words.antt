-- Serves the contract of `encode`: the words of an instruction among the words of a program.
use Rattle.std.specs.Prelude.{◌≡◌, ℕ, MatchOption, ⊤}
use Rattle.avr_encode.specs.declared.Words.{Words}

-- The two words begin with these: where there is no second word, it is any.
pub record BeginWith (words : Words) (first second : ℕ) : Type 0 where
  pub opcode : first ≡ words.first
  pub address : MatchOption words.second ⊤ (λ a. second ≡ a)
