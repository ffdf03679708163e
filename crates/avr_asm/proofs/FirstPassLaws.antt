-- The first pass: its start, and one line more.
use Rattle.std.proofs.Common.{◌≡◌, ℕ, ◌+◌, List, [], ◌∷◌, ap, refl, sym, ◌∙◌, arith}
use Rattle.text_lines.specs.Lines.{lines_of}
use Rattle.text_lines.specs.Faults.{after_lines}
use Rattle.text_lines.proofs.FaultLaws.{fault_behind}
use Rattle.avr_asm.specs.declared.first_pass.Pass.{Pass}
use Rattle.avr_asm.specs.Addresses.{start, after, fault_at}
use Rattle.avr_asm.specs.declared.labels.Labels.{Labels}
use Rattle.avr_asm.specs.Labels.{HasLabels}
use Rattle.avr_asm.specs.Passes.{IsFirstPart, IsTaken}

pub first_part_start : (text : List ℕ) (labels : Labels) → HasLabels labels [] → IsFirstPart text text 0 (record { labels = labels; at = 0 })
first_part_start text labels none = record {
  place = start;
  is = record { at_is = refl; labels_are = none };
  few = omega arith;
  faults = refl;
  ends = refl;
}

pub first_part_more : {text line rest behind : List ℕ} {number : ℕ} {old new : Pass} → IsFirstPart text rest number old → lines_of rest ≡ line ∷ lines_of behind → IsTaken line old new
    → IsFirstPart text behind (number + 1) new
first_part_more {line} {rest} {behind} {number} part cut taken =
    let step = taken part.place part.is in
    record {
      place = after part.place line;
      is = step.1;
      few = step.2;
      faults = sym (fault_behind fault_at after (number + 1) part.place line (lines_of rest) (lines_of behind) cut step.0) ∙ part.faults;
      ends = sym (ap (after_lines after part.place) cut) ∙ part.ends;
    }
