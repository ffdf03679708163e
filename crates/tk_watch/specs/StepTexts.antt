-- What a view tells of the steps of the original program's run, one behind the other.
use Rattle.std.specs.Prelude.{ℕ, zero, suc, ◌+◌, List, [], ◌++◌, flat_map, slice_index}
use Rattle.mote_devices.specs.declared.line.Line.{Line}
use Rattle.flat_machine.specs.FlatMachine.{FlatState, Moment, Program, Run}
use Rattle.tk_watch.specs.declared.view.View.{View}
use Rattle.tk_watch.specs.declared.view.View.TheVariants.{Lines, Trace, Visits, Changes, Accesses}
use Rattle.tk_watch.specs.NumberedLines.{lines_behind, numbered_line}
use Rattle.tk_watch.specs.TraceText.{trace_text}
use Rattle.tk_watch.specs.VisitsText.{visit_text}
use Rattle.tk_watch.specs.ChangesText.{changes_text}
use Rattle.tk_watch.specs.AccessesText.{accesses_text, next_access}

-- in front of all steps, of the state that they begin in
abbrev pub front_text : View → FlatState → List ℕ
front_text (Trace first count) s = trace_text first count 0 s.cpu.pc s.cpu.sp s.cpu.sreg s.cpu.r
front_text (Visits places) s = visit_text places.items 0 s.cpu.pc
front_text _ s = []

-- of the step of this number, which wrote these lines, and led from one state to the other
abbrev pub step_text : View → (step : ℕ) → List Line → (before after : FlatState) → List ℕ
step_text Lines step lines before after = flat_map (numbered_line step) lines
step_text (Trace first count) step lines before after = trace_text first count step after.cpu.pc after.cpu.sp after.cpu.sreg after.cpu.r
step_text (Visits places) step lines before after = visit_text places.items step after.cpu.pc
step_text (Changes at count) step lines before after = changes_text at count step before.cpu.pc (λ i. slice_index before.memory (at + i)) (λ i. slice_index after.memory (at + i))
step_text _ step lines before after = []

-- .. of this program, from one moment to the other
abbrev pub moment_text : View → Program → (step : ℕ) → List Line → (before after : Moment) → List ℕ
moment_text (Accesses first count) program step lines before after =
    accesses_text first count step before.now.cpu.pc before.now.cpu.sreg (next_access program before) after.now.cpu
moment_text view program step lines before after = step_text view step lines before.now after.now

-- `runs n` is the run of the first n steps. What is told of them.
abbrev pub told_text : View → Program → (runs : ℕ → Run) → (n : ℕ) → List ℕ
told_text view program runs zero = front_text view (runs 0).state.now
told_text view program runs (suc k) = told_text view program runs k ++ moment_text view program (suc k) (lines_behind runs k) (runs k).state (runs (suc k)).state
