-- What a run leaves.
use Rattle.std.specs.Prelude.{◌≡◌, ◌≢◌, ℕ, ◌+◌, ◌*◌, ◌/◌, ◌<◌, ◌≤◌, List, [], ◌∷◌, ◌++◌, codes, decimal, flat_map, length, drop, true, false, Option, Some, None}
use Rattle.input_script.specs.declared.input.Event.{Event}
use Rattle.input_script.specs.declared.input.Input.TheVariants.{Uart}
use Rattle.flash_words.specs.Layouts.{layout_of}
use Rattle.flash_words.specs.Operations.{is_listed}
use Rattle.flat_machine.specs.FlatMachine.{Spent, Run, whole_part, original}
use Rattle.mote_core.specs.declared.mote.Mote.{Mote}
use Rattle.kernel_entry.specs.declared.kernel.End.{End as MachineEnd}
use Rattle.kernel_entry.specs.declared.kernel.End.TheVariants as ends
use Rattle.program_generator.specs.Generated.{generated}
use Rattle.program_steps.specs.Machines.{Machine}
use Rattle.hex_image.specs.HexText.{HexText}
use Rattle.input_script.specs.Script.{IsScript}
use Rattle.cli_words.specs.declared.command.Command.{Command}
use Rattle.cli_words.specs.declared.command.Command.TheVariants.{Run as RunCommand, Generate}
use Rattle.cli_words.specs.declared.command.RunOptions.{RunOptions}
use Rattle.cli_words.specs.Commands.{IsCommand}
use Rattle.theorem_reader.specs.Acts.{HasActs, IsBoot}
use Rattle.theorem_reader.specs.Pools.{AreFaithfulBut}
use Rattle.theorem_reader.specs.Steps.{IsByStep}
use Rattle.theorem_reader.specs.Memory.{HasState}
use Rattle.theorem_reader.specs.Ends.{end_of, IsKeptEnd}
use Rattle.theorem_reader.specs.Wear.{IsWellKept}
use Rattle.theorem_reader.specs.Telling.{Sink, Fails, IsTold, IsToldPast}
use Rattle.theorem_reader.specs.Texts.{device_line, end_words, stop_line, count_line, end_status, no_memory}

-- a program, its inputs, the operations on flash that are to fail, and how it is run
pub record Asked : Type 0 where
  pub image : List ℕ
  pub events : List Event
  pub failing : List ℕ
  pub steps : ℕ
  pub quantum : ℕ
  pub slots : ℕ

-- the options that say how it is run
abbrev pub options_of : Asked → RunOptions
options_of asked = record { steps = asked.steps; quantum = asked.quantum; swap = asked.slots }

-- the original program's first n steps
abbrev pub original_of : Asked → ℕ → Run
original_of asked n = original (record { image = asked.image; part = whole_part asked.image; page_limit = asked.slots; quantum = asked.quantum }) asked.events n

-- the last two lines of a run, the first with this end
abbrev pub last_lines : Run → (how : List ℕ) → (quantum : ℕ) → Machine → List ℕ
last_lines r how quantum m = stop_line how r.state.now.steps (r.state.now.crossings / quantum) ++ count_line m

-- how a machine began: with a mote of which this is so, where so many pages of the pool were made before, and behind this text
pub record Start : Type 1 where
  pub IsFirst : Mote → Type 0
  pub pages : ℕ
  pub front : List ℕ

-- at boot, where the pool has none, and nothing was told
abbrev pub boot_of : Asked → Start
boot_of asked = record { IsFirst = IsBoot asked.image asked.failing asked.events asked.quantum asked.slots; pages = 0; front = [] }

-- The machine stands where the original program stands: registers, SREG, stack pointer, pc, the 65,536 bytes, devices, the
-- counts of steps and crossings, and whether an interrupt is due. Its flash is laid out for an image of this length, its slots
-- are as many, and its quantum is the one that were asked for. It did at most as many steps as are allowed, and came there by
-- acts, step by step, from where it began; each step made one page at most, and so did the arrival behind the last. Nor did it
-- try more than 1,000 operations on flash for each step and one more, or make more than 40 instructions of rewritten code and
-- two services.
pub record Stands (start : Start) (asked : Asked) (r : Run) (m : Machine) : Type 0 where
  pub state : HasState r.state.now m.kernel.mote
  pub pc : m.at ≡ r.state.now.cpu.pc
  pub steps : m.steps ≡ r.state.now.steps
  pub crossings : m.crossings ≡ r.state.now.crossings
  pub due : m.due ≡ r.state.due
  pub layout : m.kernel.layout ≡ layout_of (length asked.image)
  pub slots : length m.kernel.mote.swap ≡ asked.slots
  pub quantum : m.kernel.quantum ≡ asked.quantum
  pub most_steps : m.steps ≤ asked.steps
  pub most_operations : m.kernel.mote.flash.ops ≤ 1000 * (m.steps + 1)
  pub most_pages : m.pages ≤ start.pages + m.steps + 1
  pub acts : HasActs start.IsFirst start.pages asked.image asked.quantum m.natural m.entries m.pages r.lines m.kernel.mote
  pub by_step : IsByStep asked.image asked.quantum (λ k. (original_of asked k).state) acts.first acts.acts m.steps m.kernel.mote m.end
  pub most_natural : m.natural ≤ 40 * (m.steps + 1)
  pub most_entries : m.entries ≤ 2 * (m.steps + 1)

-- The run came to the original's end, which the machine keeps, or through all its steps. It isn't broken; no operation on flash
-- was refused, and none that was tried is to fail; flash was kept well (`IsWellKept`).
pub record EndsWell (start : Start) (asked : Asked) (m : Machine) : Type 0 where
  pub stands : Stands start asked (original_of asked asked.steps) m
  pub end : IsKeptEnd (original_of asked asked.steps).end m.end
  pub unbroken : m.broken ≡ false
  pub unrefused : m.kernel.mote.flash.refused ≡ None
  pub none_failed : (op : ℕ) → 1 ≤ op → op ≤ m.kernel.mote.flash.ops → is_listed stands.acts.first.flash.failing op ≡ false
  pub flash : IsWellKept asked.image m.pages stands.acts.first.flash m.kernel.mote.flash

-- With steps left an operation on flash was refused, the last that was tried: the first that is to fail. Flash is faithful, but
-- that an erased page of the pool may lack its words.
pub record EndsInAFault (start : Start) (asked : Asked) (m : Machine) : Type 0 where
  pub stands : Stands start asked (original_of asked m.steps) m
  pub fewer : m.steps < asked.steps
  pub going : (original_of asked m.steps).end ≡ Spent
  pub listed : is_listed stands.acts.first.flash.failing m.kernel.mote.flash.ops ≡ true
  pub first : (op : ℕ) → 1 ≤ op → op < m.kernel.mote.flash.ops → is_listed stands.acts.first.flash.failing op ≡ false
  pub end : m.end ≡ Some (ends.Flash m.kernel.mote.flash.ops)
  pub unbroken : m.broken ≡ false
  pub faithful : AreFaithfulBut asked.image m.kernel.mote.flash.words

-- The sink failed behind the text in front, before the last lines: of the device lines of the steps that were done it took a
-- part. The machine is broken, and stands where the original program stands after them. An end that it keeps is the original
-- program's, but where flash refused an operation. Flash is faithful, but that a page may lack its words; where none was refused
-- it was kept well.
pub record IsCutShort (start : Start) (asked : Asked) (status : ℕ) (taken : List ℕ) (m : Machine) : Type 0 where
  pub told : IsToldPast Fails 6 start.front (flat_map device_line (original_of asked m.steps).lines) status taken
  pub stands : Stands start asked (original_of asked m.steps) m
  pub broken : m.broken ≡ true
  pub over : (end : MachineEnd) → m.end ≡ Some end → ((op : ℕ) → end ≢ ends.Flash op) → end_of end ≡ (original_of asked asked.steps).end
  pub lacking : AreFaithfulBut asked.image m.kernel.mote.flash.words
  pub flash : ((op : ℕ) → m.end ≢ Some (ends.Flash op)) → IsWellKept asked.image m.pages stands.acts.first.flash m.kernel.mote.flash

-- Behind the text in front the text is the original program's: its device lines, which went out whole, its stop line, and the
-- machine's own counts; and the status is its end's, where the sink serves.
pub record ToTheEnd (start : Start) (sink : Sink) (asked : Asked) (status : ℕ) (taken : List ℕ) (m : Machine) : Type 0 where
  pub told : IsToldPast sink (end_status (original_of asked asked.steps).end) (start.front ++ flat_map device_line (original_of asked asked.steps).lines)
      (last_lines (original_of asked asked.steps) (end_words (original_of asked asked.steps).end) asked.quantum m) status taken
  pub run : EndsWell start asked m

-- .. up to the refused operation
pub record IntoAFault (start : Start) (sink : Sink) (asked : Asked) (status : ℕ) (taken : List ℕ) (m : Machine) : Type 0 where
  pub told : IsToldPast sink 9 (start.front ++ flat_map device_line (original_of asked m.steps).lines)
      (last_lines (original_of asked m.steps) (codes "flash fault " ++ decimal m.kernel.mote.flash.ops) asked.quantum m) status taken
  pub run : EndsInAFault start asked m

-- memory was wanted, which is all that is told, and no machine is kept; or the program was run to the original's end or through
-- all its steps, or into a fault of flash; or up to a step by which the sink had failed
pub data IsRun (start : Start) (sink : Sink) (asked : Asked) (status : ℕ) (taken : List ℕ) (kept : Option Machine) : Type 0 where
  NoMemory : IsTold sink 8 no_memory status taken → kept ≡ None → IsRun start sink asked status taken kept
  Ended : (m : Machine) → kept ≡ Some m → ToTheEnd start sink asked status taken m → IsRun start sink asked status taken kept
  Failed : (m : Machine) → kept ≡ Some m → IntoAFault start sink asked status taken m → IsRun start sink asked status taken kept
  Cut : (m : Machine) → kept ≡ Some m → sink ≡ Fails → IsCutShort start asked status taken m → IsRun start sink asked status taken kept

-- a text of at most 2,097,152 bytes, and in front a HEX text of the image, up to this position
pub record HasHex (text image : List ℕ) : Type 0 where
  pub position : ℕ
  pub hex : HexText text image position
  pub short : length text ≤ 2097152

-- The words are those of a command that takes these options, and the text has the program, and behind it a script of these inputs
-- and operations that are to fail.
pub record AsksAs (kind : RunOptions → Command) (words : List (List ℕ)) (text : List ℕ) (asked : Asked) : Type 0 where
  pub command : IsCommand words (kind (options_of asked))
  pub front : HasHex text asked.image
  pub script : IsScript (drop front.position text) (record { events = asked.events; failing = asked.failing })

-- .. of `run`
abbrev pub Asks : (words : List (List ℕ)) (text : List ℕ) (asked : Asked) → Type 0
Asks words text asked = AsksAs RunCommand words text asked

-- a program without inputs, run by the word `run` alone
abbrev pub plainly : List ℕ → Asked
plainly image = record { image = image; events = []; failing = []; steps = 1000000; quantum = 255; slots = 128 }

-- the program of a seed, without inputs, and how it is run (docs/FORMATS.md)
abbrev pub generated_by : (seed : ℕ) → Asked
generated_by seed = record { image = generated seed; events = []; failing = []; steps = 10000000; quantum = 255; slots = 128 }

-- the words are those of `generate` with this seed, whatever the text is
abbrev pub AsksGenerate : (words : List (List ℕ)) (seed : ℕ) → Type 0
AsksGenerate words seed = IsCommand words (Generate seed)

-- an example: `ldi r16, 0x0F`, `out 0x1B, r16`, `rjmp .-2`, with an input, an operation that is to fail, and options
abbrev pub example : Asked
example = record {
  image = 0xE00F ∷ 0xBB0B ∷ 0xCFFF ∷ [];
  events = record { at = 22; input = Uart 0x41 } ∷ [];
  failing = 12 ∷ [];
  steps = 100;
  quantum = 7;
  slots = 0;
}
