-- A text has one list of words.
use Rattle.std.proofs.Common.{◌≡◌, ℕ, ◌+◌, ◌<◌, ◌≤◌, List, [], ◌∷◌, length, drop, ap₂, refl, sym, ◌∙◌, arith}
use Rattle.std.specs.Prelude.{None, Some, Option, Result, Ok, Err, MatchOption}
use Rattle.std.specs.Bool.{⊤}
use Rattle.std.specs.Result.{IsOkAnd}
use Rattle.std.proofs.lemmas.List.{drop_more, drop_all}
use Rattle.std.proofs.lemmas.Option.{get_or_from_slice_get, slice_get_within}
use Rattle.text_lines.specs.Lines.{lines_of}
use Rattle.avr_isa.specs.declared.form.Form.{Form}
use Rattle.avr_isa.specs.Encoding.{second_word}
use Rattle.avr_isa.specs.Image.{word}
use Rattle.avr_isa.specs.Instruction.{size_of}
use Rattle.avr_asm.specs.declared.fault.AsmFault.{AsmFault}
use Rattle.avr_asm.specs.declared.line.Line.{Line}
use Rattle.avr_asm.specs.declared.statement.Statement.{Statement}
use Rattle.avr_asm.specs.declared.statement.Statement.TheVariants.{Ready, To, Word}
use Rattle.avr_asm.specs.SourceLines.{line_of}
use Rattle.avr_asm.specs.Addresses.{Label, Place, start, after, behind_line, words_of_statement}
use Rattle.avr_asm.specs.AsmText.{AreLines, AsmText, IsInstruction, IsStatement, labels_of}
use Rattle.avr_asm.specs.Targets.{jump_of}
use Rattle.avr_asm.proofs.SizeLaws.{jump_words}
use Rattle.avr_asm.proofs.WordLaws.{size_by, words_by}

-- Two lists of words are the same from an address on.
abbrev SameFrom : (a b : List ℕ) → ℕ → Type 0
SameFrom a b at = drop at a ≡ drop at b

word_step : (a b : List ℕ) (at : ℕ) → at < length a → at < length b → word a at ≡ word b at → SameFrom a b (at + 1) → SameFrom a b at
word_step a b at in_a in_b same rest = drop_more a at 0xFFFF in_a ∙ ap₂ (λ w ws. w ∷ ws) same rest ∙ sym (drop_more b at 0xFFFF in_b)

by_second : (second : Option ℕ) (a b : List ℕ) (at : ℕ) → at + words_by second ≤ length a → at + words_by second ≤ length b → word a at ≡ word b at
    → MatchOption second ⊤ (λ s. word a (at + 1) ≡ s) → MatchOption second ⊤ (λ s. word b (at + 1) ≡ s) → SameFrom a b (at + words_by second) → SameFrom a b at
by_second None a b at in_a in_b first there_a there_b rest = word_step a b at (omega arith) (omega arith) first rest
by_second (Some s) a b at in_a in_b first there_a there_b rest =
    let two : at + 2 ≡ (at + 1) + 1 = omega arith in
    word_step a b at (omega arith) (omega arith) first (word_step a b (at + 1) (omega arith) (omega arith) (there_a ∙ sym there_b) (rw two at rest))

instruction_step : (a b : List ℕ) (at : ℕ) (form : Form) → IsInstruction a at form → IsInstruction b at form → SameFrom a b (at + size_of form) → SameFrom a b at
instruction_step a b at form is_a is_b rest =
    let size = size_by form in
    let row_a = is_a.decoded.row.1 in
    let row_b = is_b.decoded.row.1 in
    by_second (second_word form) a b at (rw size at is_a.inside) (rw size at is_b.inside) (row_a.opcode ∙ sym row_b.opcode) row_a.address row_b.address (rw size at rest)

jump_step : (a b : List ℕ) (at size : ℕ) (jump : Result Form AsmFault) → ((form : Form) → jump ≡ Ok form → size_of form ≡ size) → IsOkAnd jump (IsInstruction a at) → IsOkAnd jump (IsInstruction b at)
    → SameFrom a b (at + size) → SameFrom a b at
jump_step a b at size (Ok form) sized is_a is_b rest = instruction_step a b at form is_a is_b (rw (sized form refl) rest)
jump_step a b at size (Err fault) sized is_a is_b rest = absurd is_a

statement_step : (labels : List Label) (a b : List ℕ) (at : ℕ) (statement : Option Statement) → IsStatement labels a at statement → IsStatement labels b at statement
    → SameFrom a b (at + words_of_statement statement) → SameFrom a b at
statement_step labels a b at None is_a is_b rest =
    let none : at + 0 ≡ at = omega arith in
    rw none at rest
statement_step labels a b at (Some (Word n)) is_a is_b rest =
    word_step a b at (slice_get_within a at n is_a) (slice_get_within b at n is_b) (get_or_from_slice_get a at n 0xFFFF is_a ∙ sym (get_or_from_slice_get b at n 0xFFFF is_b)) rest
statement_step labels a b at (Some (Ready form)) is_a is_b rest = instruction_step a b at form is_a is_b rest
statement_step labels a b at (Some (To kind target)) is_a is_b rest =
    jump_step a b at _ (jump_of labels at kind target) (λ form is. jump_words labels at kind target form is) is_a is_b rest

line_step : (labels : List Label) (a b : List ℕ) (place : Place) (line : Result Line AsmFault) → IsOkAnd line (λ said. IsStatement labels a place.at said.statement)
    → IsOkAnd line (λ said. IsStatement labels b place.at said.statement)
    → SameFrom a b (behind_line place line).at → SameFrom a b place.at
line_step labels a b place (Ok line) is_a is_b rest = statement_step labels a b place.at line.statement is_a is_b rest
line_step labels a b place (Err fault) is_a is_b rest = absurd is_a

lines_same : (labels : List Label) (a b : List ℕ) (place : Place) (lines : List (List ℕ)) → AreLines labels a place lines → AreLines labels b place lines → SameFrom a b place.at
lines_same labels a b place [] are_a are_b = drop_all place.at a (omega arith) ∙ sym (drop_all place.at b (omega arith))
lines_same labels a b place (line ∷ lines) are_a are_b =
    line_step labels a b place (line_of line) are_a.0 are_b.0 (lines_same labels a b (after place line) lines are_a.1 are_b.1)

pub same_words : (text a b : List ℕ) → AsmText text a → AsmText text b → a ≡ b
same_words text a b is_a is_b = lines_same (labels_of text) a b start (lines_of text) is_a is_b
