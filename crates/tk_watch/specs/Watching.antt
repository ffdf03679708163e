-- Serves private functions: what the steps of a watched run leave, and what is said of them.
use Rattle.std.specs.Prelude.{◌≡◌, ℕ, ◌*◌, ◌/◌, ◌<◌, ◌≤◌, false, List, length, slice_index, [], ◌++◌, Option, Some, None, Result, Ok, Err}
use Rattle.std.specs.Io.KnownBytes.{Appends}
use Rattle.byte_streams.specs.declared.failure.Failed.{Failed}
use Rattle.byte_streams.specs.Faults.{Rose}
use Rattle.byte_streams.specs.Streams.{CutShort, IsSent}
use Rattle.printed_text.specs.Gathering.{turn_steps}
use Rattle.printed_text.specs.StopLines.{end_line}
use Rattle.kernel_entry.specs.Seen.{program as program_of}
use Rattle.kernel_entry.specs.declared.kernel.End.{End}
use Rattle.kernel_entry.specs.declared.kernel.End.TheVariants as ends
use Rattle.program_steps.specs.Machines.{Machine, flat_of}
use Rattle.program_steps.specs.Ready.{IsKept}
use Rattle.tk_run.specs.Running.{HasAdvanced, original_from}
use Rattle.cli_words.specs.declared.status.Status.{Status}
use Rattle.cli_words.specs.declared.status.Status.TheVariants as status
use Rattle.cli_words.specs.Stream.{Stream}
use Rattle.tkernel_cli.specs.Runs.{Says, status_of_stop}
use Rattle.tk_watch.specs.declared.view.View.{View}
use Rattle.tk_watch.specs.declared.view.View.TheVariants.{Profile}
use Rattle.tk_watch.specs.ProfileText.{times_at}
use Rattle.tk_watch.specs.StepTexts.{told_text}
use Rattle.tk_watch.specs.Views.{left_text}

-- The machine has run as one that isn't watched (`HasAdvanced`), and what a view tells of its steps was told: some of that text
-- went out, and the rest is gathered.
pub record HasTold (view : View) (old new : Machine) (n : ℕ) (gathered : List ℕ) (before after : Option (List ℕ)) (end : End) : Type 0 where
  pub text : List ℕ
  pub advanced : HasAdvanced old new n (Some []) (Some text) (Ok end)
  pub sent : IsSent (told_text view (program_of old.kernel) (original_from old) new.steps) gathered before after

-- the sink failed, and what went out is cut short of what is told of some steps, at most as many as there were to be
pub record IsCut (view : View) (old : Machine) (n : ℕ) (before after : Option (List ℕ)) : Type 0 where
  pub done : ℕ
  pub within : done ≤ n
  pub put : CutShort before after (told_text view (program_of old.kernel) (original_from old) done)

abbrev pub HasWatched : View → (old new : Machine) → ℕ → List ℕ → (before after : Option (List ℕ)) → Result End Failed → Type 0
HasWatched view old new n gathered before after (Ok end) = HasTold view old new n gathered before after end
HasWatched view old new n gathered before after (Err e) = IsCut view old n before after

-- the sink was one that had taken all that is told of the first so many steps, behind what it had taken before
pub record HadAll {K : Type 0} (taken : K → Option (List ℕ)) (view : View) (old : Machine) (before : K) (steps : ℕ) : Type 0 where
  pub sink : K
  pub put : Appends (taken before) (taken sink) (told_text view (program_of old.kernel) (original_from old) steps)

-- .. at each turn in so many steps
abbrev pub GoOutInTurn : {K : Type 0} → (K → Option (List ℕ)) → View → Machine → K → ℕ → Type 0
GoOutInTurn taken view old before steps = (turn : ℕ) → turn_steps * turn < steps → HadAll taken view old before (turn_steps * turn)

-- The machine has run so, and the steps that began at each address were counted.
pub record HasCounted (old new : Machine) (n : ℕ) (counts : List ℕ) (end : End) : Type 0 where
  pub text : List ℕ
  pub advanced : HasAdvanced old new n (Some []) (Some text) (Ok end)
  pub counted : (a : ℕ) → a < 65536 → slice_index counts a ≡ times_at (original_from old) a new.steps

-- .. where the view tells how many they were
abbrev pub AreCounted : View → (times : ℕ → ℕ) → List ℕ → Type 0
AreCounted Profile times counts = (a : ℕ) → a < 65536 → slice_index counts a ≡ times a
AreCounted _ times counts = Unit {0}

-- what was told of the steps, and what was counted
abbrev pub HasRun : View → (old new : Machine) → ℕ → (counts gathered : List ℕ) → (before after : Option (List ℕ)) → Result End Failed → Type 0
HasRun view old new n counts gathered before after (Ok end) = HasTold view old new n gathered before after end × AreCounted view (λ a. times_at (original_from old) a new.steps) counts
HasRun view old new n counts gathered before after (Err e) = IsCut view old n before after

-- how a machine has ended that keeps this end, or goes on
abbrev pub kept_end : Option End → End
kept_end None = ends.Spent
kept_end (Some end) = end

-- the stop line of a machine that came to this end
abbrev pub stop_of : End → Machine → List ℕ
stop_of end m = end_line end m.steps (m.crossings / m.kernel.quantum)

-- what a view tells of a machine at the end of its run, by the counts, and the stop line
abbrev pub end_text : View → (slots events : ℕ) → (times : ℕ → ℕ) → End → Machine → List ℕ
end_text view slots events times end m = left_text view slots events times m.kernel.mote.flash.ops (flat_of m).now ++ stop_of end m

-- The machine has run so, and what the view tells of its steps and at the end was said, with its stop line; or the sink failed
-- before that.
pub data HasShown (view : View) (slots events : ℕ) (old new : Machine) (n : ℕ) (before now : Stream) (told : Status) : Type 0 where
  Whole : (text : List ℕ) (end : End) → HasAdvanced old new n (Some []) (Some text) (Ok end)
      → Says (status_of_stop end) (told_text view (program_of old.kernel) (original_from old) new.steps ++ end_text view slots events (λ a. times_at (original_from old) a new.steps) end new) before now told
      → HasShown view slots events old new n before now told
  Cut : told ≡ status.WriteFault → Rose before.faults now.faults → IsCut view old n before.told now.told → HasShown view slots events old new n before now told

-- a machine that has done nothing yet, and no step was counted
pub record IsStart (m : Machine) (counts : List ℕ) : Type 0 where
  pub kept : IsKept m
  pub going : m.end ≡ None
  pub whole : m.broken ≡ false
  pub begins : m.steps ≡ 0
  pub quantum : 1 ≤ m.kernel.quantum
  pub size : length counts ≡ 65536
  pub zero : (a : ℕ) → a < 65536 → slice_index counts a ≡ 0
