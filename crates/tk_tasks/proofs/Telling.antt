-- What is told of the tasks, as it is gathered and put.
use Rattle.std.proofs.Common.{◌≡◌, ℕ, ◌/◌, List, ◌++◌, refl, sym, ap, ap₂, ◌∙◌}
use Rattle.std.specs.Prelude.{Option, Some, None}
use Rattle.std.proofs.lemmas.List.{append-nil}
use Rattle.std.proofs.lemmas.Grind.{flat_map-append}
use Rattle.printed_text.specs.Ends.{end_text}
use Rattle.mote_devices.specs.declared.line.Line.{Line}
use Rattle.printed_text.specs.TaskTexts.{device_told, stop_told}
use Rattle.printed_text.specs.StopLines.{how_text, end_line}
use Rattle.text_lines.specs.Pieces.{task_text}
use Rattle.printed_text.proofs.StopLines.{line_of}
use Rattle.parked_tasks.specs.declared.task.TaskEnd.{TaskEnd}
use Rattle.parked_tasks.specs.declared.task.TaskEnd.TheVariants.{Spent}
use Rattle.task_turns.specs.Turns.{Told}
use Rattle.parked_tasks.specs.Ends.{flat_end}
use Rattle.tk_tasks.specs.Plays.{shown_text, told_text}
use Rattle.tk_tasks.specs.Trying.{line_told, end_told, tried_told}
use Rattle.tk_tasks.specs.Running.{end_shown, end_shown_of}

shown_as : (end : TaskEnd) → how_text (end_shown end) ≡ end_text (flat_end end)
shown_as Spent = refl
shown_as _ = refl

-- a stop line
end_line_is : (quantum task : ℕ) (end : TaskEnd) (steps crossings : ℕ) → task_text task
    ++ end_line (end_shown end) steps (crossings / quantum) ≡ told_text quantum (end_told task (Some end) steps crossings)
end_line_is quantum task end steps crossings =
    ap (λ l. task_text task ++ l) (line_of (end_shown end) (flat_end end) steps (crossings / quantum) (shown_as end)) ∙ sym (append-nil _)

-- texts behind one another
pub told_text_on : (quantum : ℕ) (a b : List Told) → told_text quantum (a ++ b) ≡ told_text quantum a ++ told_text quantum b
told_text_on quantum a b = flat_map-append (λ (one : Told). task_text one.task ++ shown_text quantum one.shown) a b

-- what is told of one at once
line_is : (quantum task : ℕ) (line : Option Line) → device_told task line ≡ told_text quantum (line_told task line)
line_is quantum task None = refl
line_is quantum task (Some line) = sym (append-nil _)

stop_is : (quantum task : ℕ) (end : Option TaskEnd) (steps crossings : ℕ) → stop_told task (end_shown_of end) steps (crossings / quantum) ≡ told_text quantum (end_told task end steps crossings)
stop_is quantum task None steps crossings = refl
stop_is quantum task (Some end) steps crossings = end_line_is quantum task end steps crossings

pub told_as : (quantum task : ℕ) (line : Option Line) (end : Option TaskEnd) (steps crossings : ℕ)
    → device_told task line ++ stop_told task (end_shown_of end) steps (crossings / quantum) ≡ told_text quantum (tried_told task line end steps crossings)
told_as quantum task line end steps crossings =
    ap₂ (λ a b. a ++ b) (line_is quantum task line) (stop_is quantum task end steps crossings) ∙ sym (told_text_on quantum (line_told task line) (end_told task end steps crossings))
