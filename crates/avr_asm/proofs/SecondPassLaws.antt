-- The second pass: its start, one line more, and the end.
use Rattle.std.proofs.Common.{◌≡◌, ℕ, ◌+◌, ◌≤◌, List, [], ◌∷◌, ◌++◌, length, ap, refl, sym, ◌∙◌, arith}
use Rattle.std.specs.Prelude.{None, Some, Option, Result, Ok}
use Rattle.std.specs.Result.{IsOkAnd}
use Rattle.std.proofs.lemmas.List.{append_assoc, append-nil}
use Rattle.text_lines.specs.Lines.{lines_of}
use Rattle.text_lines.specs.Faults.{after_lines}
use Rattle.text_lines.proofs.FaultLaws.{fault_behind}
use Rattle.avr_asm.specs.declared.fault.AsmFault.{AsmFault}
use Rattle.avr_asm.specs.declared.line.Line.{Line}
use Rattle.avr_asm.specs.declared.mnemonic.Jump.TheVariants.{Jmp}
use Rattle.avr_asm.specs.declared.statement.Statement.{Statement}
use Rattle.avr_asm.specs.declared.statement.Statement.TheVariants.{Ready, To}
use Rattle.avr_isa.proofs.Laws.{size_of-range}
use Rattle.avr_asm.specs.SourceLines.{line_of}
use Rattle.avr_asm.specs.Addresses.{Label, Place, start, after, behind_line, words_of_statement}
use Rattle.avr_asm.specs.Targets.{fault_of_line, target_fault_at}
use Rattle.avr_asm.specs.AsmText.{AreLines, IsStatement, labels_of}
use Rattle.avr_asm.specs.Passes.{IsAssembled, IsLineAdded, IsSecondPart}

-- the place behind a line that was added
after_at : (place : Place) (text : List ℕ) (line : Line) → line_of text ≡ Ok line → (after place text).at ≡ place.at + words_of_statement line.statement
after_at place text line is = ap (λ (r : Result Line AsmFault). (behind_line place r).at) is

pub second_part_start : (text : List ℕ) → IsSecondPart text text 0 []
second_part_start text = record {
  place = start;
  at_is = refl;
  faults = refl;
  ends = refl;
  onward = λ more lines. lines;
}

pub second_part_more : {text line rest behind : List ℕ} {number : ℕ} {old new : List ℕ} → IsSecondPart text rest number old → lines_of rest ≡ line ∷ lines_of behind
    → IsLineAdded (labels_of text) line old new → IsSecondPart text behind (number + 1) new
second_part_more {text} {line} {rest} {behind} {number} {old} {new} part cut has =
    let labels : List Label = labels_of text in
    let place = part.place in
    let here : fault_of_line labels place.at (line_of line) ≡ None =
    ap (λ at. fault_of_line labels at (line_of line)) (sym part.at_is) ∙ ap (fault_of_line labels (length old)) has.line_is ∙ has.added.sound in
    record {
      place = after place line;
      at_is = has.added.size ∙ ap (λ n. n + words_of_statement has.line.statement) part.at_is ∙ sym (after_at place line has.line has.line_is);
      faults = sym (fault_behind (target_fault_at labels) after (number + 1) place line (lines_of rest) (lines_of behind) cut here) ∙ part.faults;
      ends = sym (ap (after_lines after place) cut) ∙ part.ends;
      onward = λ more others.
          let joined : old ++ (has.added.code ++ more) ≡ new ++ more = sym (append_assoc old has.added.code more) ∙ ap (λ w. w ++ more) (sym has.added.joined) in
          let stands : IsOkAnd (line_of line) (λ said. IsStatement labels (new ++ more) place.at said.statement) = rw has.line_is (rw part.at_is at (has.added.stands more)) in
          let from_here : AreLines labels (new ++ more) place (lines_of rest) = rw cut (stands, others) in
          rw joined at (part.onward (has.added.code ++ more) (rw joined from_here));
    }

-- the text has no line more
pub second_part_whole : (text rest : List ℕ) (number : ℕ) (words : List ℕ) → length rest ≡ 0 → IsSecondPart text rest number words → IsAssembled text words
second_part_whole text [] number words none part = record {
  sound = sym part.faults;
  words_are = rw (append-nil words) at (part.onward [] (ap length (append-nil words) ∙ part.at_is));
  size = part.at_is ∙ ap (λ place. place.at) part.ends;
}
second_part_whole text (b ∷ rest) number words none part = absurd (omega arith)

-- a statement has at most two words
two_at_most : (statement : Option Statement) → words_of_statement statement ≤ 2
two_at_most None = omega arith
two_at_most (Some (Ready form)) = (size_of-range form).1
two_at_most (Some (To Jmp target)) = omega arith
two_at_most _ = omega arith

pub few_more : {labels : List Label} {line old new : List ℕ} → IsLineAdded labels line old new → length new ≤ length old + 2
few_more has = omega (arith, has.added.size, two_at_most has.line.statement)
