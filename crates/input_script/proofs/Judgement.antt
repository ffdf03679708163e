-- A text schedules one thing, or has one first fault, and not both.
use Rattle.std.proofs.Common.{◌≡◌, ℕ, List, sym, ◌∙◌}
use Rattle.std.specs.Prelude.{Some}
use Rattle.text_lines.proofs.FaultLaws.{same_fault, not_both}
use Rattle.input_script.specs.declared.fault.ScriptFault.{ScriptFault}
use Rattle.input_script.specs.Script.{Schedule, IsScript, script_fault}

pub one_schedule : (text : List ℕ) (a b : Schedule) → IsScript text a → IsScript text b → a ≡ b
one_schedule text a b first second = first.schedule_is ∙ sym second.schedule_is

pub one_fault : (text : List ℕ) (n m : ℕ) (a b : ScriptFault) → script_fault text ≡ Some (n, a) → script_fault text ≡ Some (m, b) → (n ≡ m) × (a ≡ b)
one_fault text n m a b first second = same_fault (script_fault text) n m a b first second

pub never_both : (text : List ℕ) (schedule : Schedule) (n : ℕ) (fault : ScriptFault) → IsScript text schedule → script_fault text ≡ Some (n, fault) → ⊥
never_both text schedule n fault is first = not_both (script_fault text) n fault is.sound first
