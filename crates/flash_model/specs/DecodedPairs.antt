-- Serves private functions: pairs of words that were decoded already.
use Rattle.std.specs.Prelude.{◌≡◌, ℕ}
use Rattle.flash_model.specs.declared.decoded.Decoded.{Decoded}
use Rattle.flash_model.specs.Code.{decoded_of}

-- two words, and what is kept with them
pub record DecodedPair : Type 0 where
  pub first : ℕ
  pub second : ℕ
  pub decoded : Decoded

-- it is what they are decoded to
abbrev pub IsDecodedPair : DecodedPair → Type 0
IsDecodedPair pair = pair.decoded ≡ decoded_of pair.first pair.second
