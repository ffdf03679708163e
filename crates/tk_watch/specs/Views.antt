-- What is shown of a watched run: a plain function of the original program's run, and behind it the stop line of `tkernel run`.
use Rattle.std.specs.Prelude.{◌≡◌, ℕ, ◌≤◌, List, [], ◌++◌, length}
use Rattle.byte_streams.specs.Faults.{Rose}
use Rattle.byte_streams.specs.Streams.{CutShort}
use Rattle.printed_text.specs.Ends.{stop_text}
use Rattle.printed_text.specs.StopLines.{end_line}
use Rattle.flat_machine.specs.FlatMachine.{FlatState, Moment}
use Rattle.kernel_entry.specs.declared.kernel.End.TheVariants as ends
use Rattle.program_steps.specs.Machines.{Machine}
use Rattle.cli_words.specs.declared.request.Request.{Request}
use Rattle.cli_words.specs.declared.status.Status.{Status}
use Rattle.cli_words.specs.declared.status.Status.TheVariants as status
use Rattle.cli_words.specs.Stream.{Stream}
use Rattle.tkernel_cli.specs.DumpRuns.{silent}
use Rattle.tkernel_cli.specs.Runs.{Says, AreUnlisted, RunsToTheEnd, RunsIntoAFault, first_start, original_of, own_program, whole_run, checkpoints_of, status_of_end}
use Rattle.tk_watch.specs.declared.view.View.{View}
use Rattle.tk_watch.specs.declared.view.View.TheVariants.{State, Memory, Profile}
use Rattle.tk_watch.specs.MemoryText.{memory_text}
use Rattle.tk_watch.specs.ProfileText.{profile_text, times_at}
use Rattle.tk_watch.specs.StateText.{state_text}
use Rattle.tk_watch.specs.StepTexts.{told_text}

-- What a view tells at the end, of the state that the run leaves. The script has so many events, and the program may store to as
-- many pages of the heap as there are slots; `times a` steps began at address a. The operations on flash are the machine's own.
abbrev pub left_text : View → (slots events : ℕ) → (times : ℕ → ℕ) → (operations : ℕ) → FlatState → List ℕ
left_text State slots events times operations s = state_text slots events operations s
left_text Memory slots events times operations s = memory_text s.memory
left_text Profile slots events times operations s = profile_text times
left_text _ slots events times operations s = []

-- What a view shows of the original program's run up to a moment: what it tells of each step, and at the end.
abbrev pub shown : View → Request → (operations : ℕ) → Moment → List ℕ
shown view request operations s =
    told_text view (own_program request) (original_of request) s.now.steps
    ++ left_text view request.options.swap (length request.script.events) (λ a. times_at (original_of request) a s.now.steps) operations s.now

-- The text of a view, where the run comes to the original's end: behind what is shown of all of it stands the stop line of
-- `run`.
abbrev pub ended_text : View → Request → (operations : ℕ) → List ℕ
ended_text view request operations =
    shown view request operations (whole_run request).state
    ++ stop_text (whole_run request).end (whole_run request).state.now.steps (checkpoints_of request (whole_run request))

-- .. and where an operation on flash is refused after n steps, which is the last that was tried
abbrev pub failed_text : View → Request → (op n : ℕ) → List ℕ
failed_text view request op n =
    shown view request op (original_of request n).state ++ end_line (ends.Flash op) n (checkpoints_of request (original_of request n))

-- the sink failed while steps were told, and what went out is cut short of what is told of some
pub record ShowsCut (view : View) (request : Request) (before now : Stream) (told : Status) : Type 0 where
  pub status_is : told ≡ status.WriteFault
  pub rose : Rose before.faults now.faults
  pub done : ℕ
  pub within : done ≤ request.options.steps
  pub put : CutShort before.told now.told (told_text view (own_program request) (original_of request) done)

-- A machine runs as that of `run` does (`Runs`), but its own lines go nowhere. What the view shows of it is said, with the stop
-- line and the status of `run`.
pub data Shows (view : View) (request : Request) (before now : Stream) (told : Status) : Type 0 where
  Ended : (m : Machine) (own : Status) → AreUnlisted request m → RunsToTheEnd request (first_start request) [] silent silent own m
      → Says (status_of_end (whole_run request).end) (ended_text view request m.kernel.mote.flash.ops) before now told → Shows view request before now told
  Failed : (m : Machine) (own : Status) → (run : RunsIntoAFault request silent silent own m) → Says status.FlashFault (failed_text view request run.op m.steps) before now told
      → Shows view request before now told
  Cut : ShowsCut view request before now told → Shows view request before now told
