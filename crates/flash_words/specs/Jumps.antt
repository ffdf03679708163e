-- Jumps among the words of a page.
use Rattle.std.specs.Prelude.{◌≡◌, ℕ, ◌+◌, ◌*◌, ◌/◌, ◌<◌, ◌==◌, ◌&&◌, Bool, false, List}
use Rattle.flash_words.specs.Pages.{page_words, word_at}

-- JMP, the first of its two words (AVR Instruction Set Manual, "JMP")
abbrev pub jump_word : ℕ
jump_word = 0x940C

-- at word address a stands a jump into this page
abbrev pub is_jump_into : List ℕ → (target a : ℕ) → Bool
is_jump_into words target a = word_at words a == jump_word && word_at words (a + 1) / page_words == target

-- none stands in a page
abbrev pub HasNoJumpInto : List ℕ → (page target : ℕ) → Type 0
HasNoJumpInto words page target = (k : ℕ) → k + 1 < page_words → is_jump_into words target (page_words * page + k) ≡ false
