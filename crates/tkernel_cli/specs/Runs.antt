-- A program that is run: what was printed, what is kept, and how both follow the original program.
use Rattle.std.specs.Prelude.{◌≡◌, ◌≢◌, ◌⊎◌, ℕ, ◌+◌, ◌*◌, ◌/◌, ◌<◌, ◌≤◌, ◌++◌, true, false, List, [], Option, Some, None}
use Rattle.std.specs.Io.KnownBytes.{Appends}
use Rattle.byte_streams.specs.Faults.{Rose}
use Rattle.byte_streams.specs.Streams.{CutShort}
use Rattle.flash_words.specs.Operations.{is_listed}
use Rattle.flat_machine.specs.FlatMachine.{End, Spent, Halted, Asleep, Program, Run, original}
use Rattle.preempt_count.specs.Counting.{bound_per_crossing}
use Rattle.printed_text.specs.Ends.{stop_text}
use Rattle.printed_text.specs.StopLines.{end_line}
use Rattle.kernel_entry.specs.declared.kernel.End.{End as MachineEnd}
use Rattle.kernel_entry.specs.declared.kernel.End.TheVariants as ends
use Rattle.program_steps.specs.Machines.{Machine}
use Rattle.program_steps.specs.Ready.{IsReady, IsSound}
use Rattle.printed_text.specs.DeviceLines.{lines_text}
use Rattle.tk_run.specs.Running.{flat_end}
use Rattle.tk_run.specs.Booted.{booted}
use Rattle.tk_run.specs.WholeRuns.{program_at, IsAt}
use Rattle.cli_words.specs.declared.request.Request.{Request}
use Rattle.cli_words.specs.declared.status.Status.{Status}
use Rattle.cli_words.specs.declared.status.Status.TheVariants as status
use Rattle.cli_words.specs.Stream.{Stream}
use Rattle.printed_text.specs.Counts.{count_text}

-- A text goes out whole, and the status is its own; or the sink fails, and the text is cut short.
abbrev pub Says : Status → List ℕ → Stream → Stream → Status → Type 0
Says own text before now told =
    ((told ≡ own) × Appends before.told now.told text)
    ⊎ ((told ≡ status.WriteFault) × Rose before.faults now.faults × CutShort before.told now.told text)

-- the original program, which may store to as many pages of the heap as swap slots are asked for
abbrev pub own_program : Request → Program
own_program request = program_at request.image request.options.quantum request.options.swap

-- its first n steps, with the script's events
abbrev pub original_of : Request → ℕ → Run
original_of request = original (own_program request) request.script.events

-- those up to the bound that was asked for
abbrev pub whole_run : Request → Run
whole_run request = original_of request request.options.steps

-- the status of an end of the original program
abbrev pub status_of_end : End → Status
status_of_end Spent = status.Spent
status_of_end (Halted pc) = status.Done
status_of_end (Asleep pc) = status.Done
status_of_end _ = status.Fault

-- the same of an end of the machine, which may also be a refused operation on flash
abbrev pub status_of_stop : MachineEnd → Status
status_of_stop (ends.Flash op) = status.FlashFault
status_of_stop end = status_of_end (flat_end end)

-- the checkpoints of a run: every crossing that ends a quantum
abbrev pub checkpoints_of : Request → Run → ℕ
checkpoints_of request r = r.state.now.crossings / request.options.quantum

-- the stop line of a machine that came to this end, its count line, and both, which are the last two lines
abbrev pub stop_line_of : MachineEnd → Machine → List ℕ
stop_line_of end m = end_line end m.steps (m.crossings / m.kernel.quantum)

abbrev pub count_line_of : Machine → List ℕ
count_line_of m = count_text m.natural m.entries m.pages

abbrev pub last_text : MachineEnd → Machine → List ℕ
last_text end m = stop_line_of end m ++ count_line_of m

-- the text of a run: the device lines, a stop line, and the count line with the machine's own counts
abbrev pub run_text : Run → (stop : List ℕ) → Machine → List ℕ
run_text r stop m = lines_text r.lines ++ stop ++ count_line_of m

-- the text of a run to the original's end, and of one that flash ends after m's steps
abbrev pub ended_text : Request → Machine → List ℕ
ended_text request m = run_text (whole_run request) (stop_text (whole_run request).end (whole_run request).state.now.steps (checkpoints_of request (whole_run request))) m

abbrev pub failed_text : Request → (op : ℕ) → Machine → List ℕ
failed_text request op m = run_text (original_of request m.steps) (end_line (ends.Flash op) m.steps (checkpoints_of request (original_of request m.steps))) m

-- the machine that a run begins with: at boot
abbrev pub first_start : Request → Machine
first_start request = booted request.image request.script request.options.quantum request.options.swap

-- The machine stands where the original program stands after its first n steps: registers, memory,
-- devices, and the counts of steps and crossings. It has the image, the slots and the quantum that were
-- asked for. Moves lead to it from the start, step by step, and write the original's lines; between two services there were
-- at most `bound_per_crossing` plain steps for each crossing of a quantum. Each step made one page at most, and the arrival
-- behind the last one.
pub record Follows (request : Request) (start : Machine) (n : ℕ) (m : Machine) : Type 0 where
  pub at : IsAt start (own_program request) (original_of request) n m
  pub sound : IsSound m
  pub longest : m.longest ≤ bound_per_crossing * m.kernel.quantum
  pub pages : m.pages ≤ start.pages + m.steps + 1

-- the end that the machine keeps is the original's, and none where the bound of steps was reached
abbrev pub KeepsEnd : End → Machine → Type 0
KeepsEnd Spent m = m.end ≡ None
KeepsEnd end m = (kept : MachineEnd) × (m.end ≡ Some kept) × (flat_end kept ≡ end)

-- what went out begins with this text
abbrev pub Begins : (before now : Option (List ℕ)) → List ℕ → Type 0
Begins before now text = (rest : List ℕ) × Appends before now (text ++ rest)

-- The run from this start ended as the original program's first steps do, with no more steps done than were asked for, and with
-- all of them where the program goes on; its text was said behind this one, and its device lines went out whole. No operation on
-- flash was refused.
pub record RunsToTheEnd (request : Request) (start : Machine) (front : List ℕ) (before now : Stream) (told : Status) (m : Machine) : Type 0 where
  pub said : Says (status_of_end (whole_run request).end) (front ++ ended_text request m) before now told
  pub begun : Begins before.told now.told (front ++ lines_text (whole_run request).lines)
  pub within : m.steps ≤ request.options.steps
  pub all : (whole_run request).end ≡ Spent → m.steps ≡ request.options.steps
  pub end : KeepsEnd (whole_run request).end m
  pub unrefused : m.kernel.mote.flash.refused ≡ None
  pub follows : Follows request start request.options.steps m
  pub unbroken : m.broken ≡ false
  pub ready : IsReady m

-- none of the operations on flash that were tried is one that the script lists
abbrev pub AreUnlisted : Request → Machine → Type 0
AreUnlisted request m = (op : ℕ) → 1 ≤ op → op ≤ m.kernel.mote.flash.ops → is_listed request.script.failing op ≡ false

-- With steps left, an operation on flash was refused: the first that was tried and that the script lists. Up to there
-- the run is the original program's, and its device lines went out whole.
pub record RunsIntoAFault (request : Request) (before now : Stream) (told : Status) (m : Machine) : Type 0 where
  pub op : ℕ
  pub said : Says status.FlashFault (failed_text request op m) before now told
  pub begun : Begins before.told now.told (lines_text (original_of request m.steps).lines)
  pub fewer : m.steps < request.options.steps
  pub spent : (original_of request m.steps).end ≡ Spent
  pub end : m.end ≡ Some (ends.Flash op)
  pub last : op ≡ m.kernel.mote.flash.ops
  pub listed : is_listed request.script.failing op ≡ true
  pub first : (earlier : ℕ) → 1 ≤ earlier → earlier < op → is_listed request.script.failing earlier ≡ false
  pub refused : m.kernel.mote.flash.refused ≢ None
  pub follows : Follows request (first_start request) m.steps m
  pub unbroken : m.broken ≡ false
  pub ready : IsReady m

-- Gathered lines could not be put: what went out begins with this text, and is cut short of the lines up to the step where the
-- machine stands, and it stands where the original program stands after that step. At each multiple of 65,536 steps before that
-- all lines up to there had gone out, so behind these it did at most 65,536 steps. An end that it keeps all the same, but by flash,
-- is that of the original program.
pub record RunsUntilCut (request : Request) (start : Machine) (front : List ℕ) (before now : Stream) (told : Status) (m : Machine) : Type 0 where
  pub status_is : told ≡ status.WriteFault
  pub rose : Rose before.faults now.faults
  pub put : CutShort before.told now.told (front ++ lines_text (original_of request m.steps).lines)
  pub begun : Begins before.told now.told front
  pub turns : (turn : ℕ) → 65536 * turn < m.steps → Begins before.told now.told (front ++ lines_text (original_of request (65536 * turn)).lines)
  pub broken : m.broken ≡ true
  pub over : (end : MachineEnd) → m.end ≡ Some end → ((op : ℕ) → end ≢ ends.Flash op) → (whole_run request).end ≡ flat_end end
  pub within : m.steps ≤ request.options.steps
  pub follows : Follows request start m.steps m

pub data Runs (request : Request) (before now : Stream) (told : Status) (m : Machine) : Type 0 where
  Ended : AreUnlisted request m → RunsToTheEnd request (first_start request) [] before now told m → Runs request before now told m
  Failed : RunsIntoAFault request before now told m → Runs request before now told m
  Cut : RunsUntilCut request (first_start request) [] before now told m → Runs request before now told m

-- the machine of the run is kept
pub record HasRun (request : Request) (before now : Stream) (told : Status) (held : Option Machine) : Type 0 where
  pub machine : Machine
  pub kept : held ≡ Some machine
  pub runs : Runs request before now told machine
