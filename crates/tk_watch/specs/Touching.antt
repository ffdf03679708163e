-- Serves private functions: which bytes of memory what an instruction asks for may change.
use Rattle.std.specs.Prelude.{◌≡◌, ◌⊎◌, ℕ, ◌+◌, ◌<◌, List}
use Rattle.avr_decode.specs.Decoding.{size_by_first_word}
use Rattle.avr_exec.specs.declared.ask.Ask.{Ask}
use Rattle.avr_exec.specs.declared.ask.Ask.TheVariants.{Store, PushByte, PushReturn}
use Rattle.flash_words.specs.declared.layout.Layout.{Layout}
use Rattle.flash_words.specs.Pages.{word_at}

-- two words lie in the image, or one that begins no instruction of two
abbrev pub LiesInImage : Layout → (words : List ℕ) → ℕ → Type 0
LiesInImage layout words a = (a + 1 < layout.image_words) ⊎ ((a + 1 ≡ layout.image_words) × (size_by_first_word (word_at words a) ≡ 1))

-- the byte at this address
abbrev pub IsTouched : Ask → ℕ → Type 0
IsTouched (Store a v) b = b ≡ a
IsTouched (PushByte sp v) b = b ≡ sp
IsTouched (PushReturn sp ret) b = (b ≡ sp) ⊎ (b + 1 ≡ sp)
IsTouched _ b = ⊥
