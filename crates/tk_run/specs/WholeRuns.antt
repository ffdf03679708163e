-- A whole run, from boot or another start to its answer, beside the original program (docs/MACHINE.md, "The original
-- program").
use Rattle.std.specs.Prelude.{◌≡◌, ◌≢◌, ℕ, ◌<◌, ◌≤◌, true, false, List, [], Option, Some, None, Result, Ok, Err}
use Rattle.std.specs.Io.KnownBytes.{Appends}
use Rattle.input_script.specs.Script.{Schedule}
use Rattle.flash_words.specs.Memory.{Memory}
use Rattle.flash_words.specs.Operations.{is_listed}
use Rattle.flat_machine.specs.FlatMachine.{Program, whole_part, End as FlatEnd, Run, original}
use Rattle.flat_machine.specs.FlatMachine as flat_ends
use Rattle.byte_streams.specs.declared.failure.Failed.{Failed}
use Rattle.byte_streams.specs.Streams.{CutShort}
use Rattle.kernel_entry.specs.declared.kernel.End.{End}
use Rattle.kernel_entry.specs.declared.kernel.End.TheVariants as ends
use Rattle.kernel_entry.specs.Seen.{program as program_of}
use Rattle.program_steps.specs.Machines.{Machine, flat_of}
use Rattle.printed_text.specs.DeviceLines.{lines_text}
use Rattle.program_steps.specs.Ready.{IsReady, IsSound}
use Rattle.tk_run.specs.Running.{Leads, states_of, IsByStep, flat_end}
use Rattle.tk_run.specs.Booted.{booted, started_over}

-- the original program, which may store to as many pages of heap as there are slots
abbrev pub program_at : (image : List ℕ) (quantum slots : ℕ) → Program
program_at image quantum slots = record { image = image; part = whole_part image; page_limit = slots; quantum = quantum }

-- an end is kept, unless the bound of steps was reached
abbrev pub IsKeptEnd : FlatEnd → End → Option End → Type 0
IsKeptEnd flat_ends.Spent end kept = kept ≡ None
IsKeptEnd _ end kept = kept ≡ Some end

-- The machine stands where the original program, which is this one, stands after so many steps of its run. Moves lead to it
-- from the start, step by step, and write the run's lines.
pub record IsAt (start : Machine) (own : Program) (run : ℕ → Run) (steps : ℕ) (m : Machine) : Type 0 where
  pub state : flat_of m ≡ (run steps).state
  pub program : program_of m.kernel ≡ own
  pub quantum : m.kernel.quantum ≡ own.quantum
  pub path : Leads start (run steps).lines m
  pub by_step : IsByStep (states_of run) start m m.steps path.moves
  pub began : m.began ≡ start.began
  pub others : m.others ≡ start.others

-- The run ended as the original program's n steps do, with no more steps done, and with all of them where the program goes on;
-- and all their lines were put. No operation on flash that was tried was to fail.
pub record IsExactRun (start : Machine) (own : Program) (run : ℕ → Run) (failing : List ℕ) (n : ℕ) (before after : Option (List ℕ)) (end : End) (m : Machine) : Type 0 where
  pub within : m.steps ≤ n
  pub all : (run n).end ≡ flat_ends.Spent → m.steps ≡ n
  pub put : Appends before after (lines_text (run n).lines)
  pub same : flat_end end ≡ (run n).end
  pub at : IsAt start own run n m
  pub unbroken : m.broken ≡ false
  pub ready : IsReady m
  pub kept : IsKeptEnd (flat_end end) end m.end
  pub unlisted : (op : ℕ) → 1 ≤ op → op ≤ m.kernel.mote.flash.ops → is_listed failing op ≡ false
  pub unrefused : m.kernel.mote.flash.refused ≡ None

-- With steps left, an operation on flash was refused: the first of those that were tried that are listed. Up to
-- there the run is the original program's.
pub record IsFailedRun (start : Machine) (own : Program) (run : ℕ → Run) (failing : List ℕ) (n : ℕ) (before after : Option (List ℕ)) (op : ℕ) (m : Machine) : Type 0 where
  pub fewer : m.steps < n
  pub put : Appends before after (lines_text (run m.steps).lines)
  pub same : (run m.steps).end ≡ flat_ends.Spent
  pub at : IsAt start own run m.steps m
  pub unbroken : m.broken ≡ false
  pub ready : IsReady m
  pub kept : m.end ≡ Some (ends.Flash op)
  pub last : op ≡ m.kernel.mote.flash.ops
  pub listed : is_listed failing op ≡ true
  pub first : (earlier : ℕ) → 1 ≤ earlier → earlier < op → is_listed failing earlier ≡ false
  pub refused : m.kernel.mote.flash.refused ≢ None

-- Gathered lines could not be put: what went out is cut short of the lines of the steps that were done. An end that is kept all
-- the same, but by flash, is that of the original program's n steps.
pub record IsCutRun (start : Machine) (own : Program) (run : ℕ → Run) (n : ℕ) (before after : Option (List ℕ)) (m : Machine) : Type 0 where
  pub within : m.steps ≤ n
  pub put : CutShort before after (lines_text (run m.steps).lines)
  pub at : IsAt start own run m.steps m
  pub over : (end : End) → m.end ≡ Some end → ((op : ℕ) → end ≢ ends.Flash op) → (run n).end ≡ flat_end end
  pub broken : m.broken ≡ true
  pub sound : IsSound m

-- what a run from a start leaves
abbrev pub HasWholeFrom : (start : Machine) (own : Program) (run : ℕ → Run) (failing : List ℕ) (n : ℕ) (before after : Option (List ℕ)) → Result End Failed → Machine → Type 0
HasWholeFrom start own run failing n before after (Ok (ends.Flash op)) m = IsFailedRun start own run failing n before after op m
HasWholeFrom start own run failing n before after (Ok end) m = IsExactRun start own run failing n before after end m
HasWholeFrom start own run failing n before after (Err e) m = IsCutRun start own run n before after m

-- .. from boot
abbrev pub HasWhole : (image : List ℕ) (script : Schedule) (quantum slots n : ℕ) (before after : Option (List ℕ)) → Result End Failed → Machine → Type 0
HasWhole image script quantum slots n before after result m =
    HasWholeFrom (booted image script quantum slots) (program_at image quantum slots) (original (program_at image quantum slots) script.events) script.failing n before after result m

-- .. over a flash with a faithful pool, whose operations are counted anew, and of which none is to fail
abbrev pub HasWholeOver : (image : List ℕ) (flash : Memory) (script : Schedule) (quantum slots n : ℕ) (before after : Option (List ℕ)) → Result End Failed → Machine → Type 0
HasWholeOver image flash script quantum slots n before after result m =
    HasWholeFrom (started_over image flash script quantum slots) (program_at image quantum slots) (original (program_at image quantum slots) script.events) [] n before after result m
