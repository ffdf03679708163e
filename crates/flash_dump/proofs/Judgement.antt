-- A text is a dump of one flash, or has one first fault, and not both.
use Rattle.std.proofs.Common.{◌≡◌, ℕ, List, sym, ◌∙◌}
use Rattle.std.specs.Prelude.{Some}
use Rattle.text_lines.proofs.FaultLaws.{same_fault, not_both}
use Rattle.flash_dump.specs.declared.dump_line.DumpFault.{DumpFault}
use Rattle.flash_dump.specs.Dumps.{IsDump, dump_fault}

pub one_dump : (text a b : List ℕ) → IsDump text a → IsDump text b → a ≡ b
one_dump text a b first second = first.words_are ∙ sym second.words_are

pub one_fault : (text : List ℕ) (n m : ℕ) (a b : DumpFault) → dump_fault text ≡ Some (n, a) → dump_fault text ≡ Some (m, b) → (n ≡ m) × (a ≡ b)
one_fault text n m a b first second = same_fault (dump_fault text) n m a b first second

pub never_both : (text words : List ℕ) (n : ℕ) (fault : DumpFault) → IsDump text words → dump_fault text ≡ Some (n, fault) → ⊥
never_both text words n fault is first = not_both (dump_fault text) n fault is.sound first
