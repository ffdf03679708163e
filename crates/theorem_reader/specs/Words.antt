-- What words mean, by the manual's table (`avr_isa/InstructionTable`), whose rows go from an instruction to its words.
use Rattle.std.specs.Prelude.{◌≡◌, ℕ, ◌<◌, ◌⊎◌, ◌↔◌}
use Rattle.avr_isa.specs.Encoding.{IsDecoded, BeginsTwoWords}
use Rattle.avr_decode.specs.Decoding.{the_form, size_by_first_word}

-- Two words mean the one valid instruction whose row they are, or nothing where there is none.
abbrev pub AreReadByTable : Type 0
AreReadByTable = (first second : ℕ) → first < 65536 → second < 65536 → IsDecoded first second (the_form first second)

-- What begins with a word has two just where a row of two words has it for its first, and else one.
abbrev pub AreSizedByTable : Type 0
AreSizedByTable = (word : ℕ) → word < 65536 → ((size_by_first_word word ≡ 2) ↔ BeginsTwoWords word) × ((size_by_first_word word ≡ 1) ⊎ (size_by_first_word word ≡ 2))
