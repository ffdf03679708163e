-- What several programs did on one mote: stint after stint, each a try of one program, told by the motes before and after it.
use Rattle.std.specs.Prelude.{◌≡◌, ℕ, ◌+◌, ◌-◌, ◌≤◌, ◌==◌, if◌then◌else◌, Bool, true, false, List, [], ◌∷◌, length, flat_map, slice_get, slice_index, slice_set, Some, None}
use Rattle.std.specs.Option.{option_map}
use Rattle.flat_machine.specs.FlatMachine.{Moment, End, Spent, Wild, Read}
use Rattle.mote_core.specs.declared.mote.Mote.{Mote}
use Rattle.parked_tasks.specs.declared.parked.Parked.{Parked}
use Rattle.parked_tasks.specs.declared.task.Task.{Task}
use Rattle.parked_tasks.specs.declared.task.TaskEnd.{TaskEnd}
use Rattle.parked_tasks.specs.declared.task.TaskEnd.TheVariants as task_ends
use Rattle.tk_tasks.specs.Plays.{lines_told}
use Rattle.tk_tasks.specs.States.{Tasks}
use Rattle.task_turns.specs.Turns.{Player, Turns, Played, Over, Gone, played, once}
use Rattle.theorem_reader.specs.Acts.{Act, Follow, steps_in, services_in, lines_in, StopsLast}
use Rattle.kernel_entry.specs.Seen.{end_of as end_of_stop}
use Rattle.theorem_reader.specs.Memory.{sram_byte, Keeps, HasState}
use Rattle.theorem_reader.specs.Steps.{AreOfStep, IsBetween}

-- the number of a program, and its acts in one try
pub record Stint : Type 0 where
  pub task : ℕ
  pub acts : List Act

-- A program is tried next. Flash, and SRAM at 0x0142 to 0x03FF, are as the stint before left them; its core, its
-- devices, its swap area and the other bytes of SRAM are as its own last stint did.
pub record ComesBack (left own now : Mote) : Type 0 where
  pub stays : now ≡ record own { flash = left.flash; sram = now.sram }
  pub shared : Keeps 0x0142 0x03FF left now
  pub low : Keeps 0x0100 0x0141 own now
  pub high : Keeps 0x0400 0x10FF own now

-- The acts of a try of a program that stands at s, which comes to this: those of the step that it makes, or of the one in which
-- it stops (`Steps`); none where it has done all its steps, or has left its words.
abbrev pub AreOfTry : (image : List ℕ) → (s : Moment) → (before : Mote) → List Act → Played → Type 0
AreOfTry image s before acts (Over Spent) = acts ≡ []
AreOfTry image s before acts (Over (Wild pc)) = acts ≡ []
AreOfTry image s before acts (Over _) = AreOfStep image s before acts × StopsLast true acts
AreOfTry image s before acts (Gone line checkpoint next) = AreOfStep image s before acts × StopsLast false acts

-- The motes, one for each program as it was left, go by the stints to the last ones. The mote was left as this one. Each stint is
-- a try of the programs in turn, which stand at `turns` (`task_turns/Turns`): of the one that is stepped then, and before it the
-- mote stands where this program does, between two steps. Its acts write the lines that the try tells. They lead to the turns
-- `to`, and leave the mote `end`.
abbrev pub TakeTurns : (image : List ℕ) (quantum : ℕ) → Turns → (left : Mote) → List Mote → List Stint → (to : Turns) → (end : Mote) → (last : List Mote) → Type 0
TakeTurns image quantum turns left motes [] to end last = (turns ≡ to) × (left ≡ end) × (motes ≡ last)
TakeTurns image quantum turns left motes (stint ∷ stints) to end last =
    (p : Player) × (own before after : Mote) × (slice_get turns.players turns.running ≡ Some p) × (p.end ≡ None) × (stint.task ≡ turns.running) × (slice_get motes stint.task ≡ Some own)
    × ComesBack left own before × HasState p.moment.now before × IsBetween quantum p.moment before × AreOfTry image p.moment before stint.acts (played p)
    × (lines_in stint.acts ≡ lines_told (once turns p).told) × Follow image quantum before stint.acts after
    × TakeTurns image quantum (once turns p).turns after (slice_set motes stint.task after) stints to end last

-- What is parked of a program while it hasn't the mote is as its last stint left it.
pub record IsParked (own : Mote) (parked : Parked) : Type 0 where
  pub stays : parked ≡ record parked { cpu = own.cpu; devices = own.devices; swap = own.swap }
  pub low : (a : ℕ) → 0x0100 ≤ a → a ≤ 0x0141 → slice_index parked.low (a - 0x0100) ≡ sram_byte own a
  pub high : (a : ℕ) → 0x0400 ≤ a → a ≤ 0x10FF → slice_index parked.high (a - 0x0400) ≡ sram_byte own a

-- A program of those that are kept: the mote is back with it, which runs, or what it has of the mote is parked.
pub data HasPart (left own kept : Mote) (runs : Bool) (task : Task) : Type 0 where
  Here : runs ≡ true → task.parked ≡ None → ComesBack left own kept → HasPart left own kept runs task
  Away : runs ≡ false → (parked : Parked) → task.parked ≡ Some parked → IsParked own parked → HasPart left own kept runs task

-- how a task that is kept ended
abbrev pub task_end : TaskEnd → End
task_end task_ends.Spent = Spent
task_end (task_ends.Wild pc) = Wild pc
task_end (task_ends.Read pc a) = Read pc a
task_end (task_ends.Stopped stop) = end_of_stop stop

-- how often another program is next: from this first one, stint after stint, to that last one
abbrev pub changes_from : (task : ℕ) → List Stint → (last : ℕ) → ℕ
changes_from task [] last = if last == task then 0 else 1
changes_from task (stint ∷ stints) last = (if stint.task == task then 0 else 1) + changes_from stint.task stints last

-- the acts of one program, one behind the other
abbrev pub acts_of_task : (task : ℕ) → List Stint → List Act
acts_of_task task stints = flat_map (λ stint. if stint.task == task then stint.acts else []) stints

-- What is left of a program, whose player is this one at the last turns. Its own mote stands where the player does, and has as
-- many slots as the program. Its task, which is kept, has its part of the mote, and the player's address, counts and end; its own
-- numbers of instructions of rewritten code and of services are those of the program's acts.
pub record IsLeft (left : Mote) (last : List Mote) (stints : List Stint) (t : Tasks) (task : ℕ) (p : Player) : Type 0 where
  pub own : Mote
  pub its : Task
  pub own_is : slice_get last task ≡ Some own
  pub its_is : slice_get t.tasks task ≡ Some its
  pub state : HasState p.moment.now own
  pub slots : length own.swap ≡ p.program.page_limit
  pub part : HasPart left own t.kernel.mote (task == t.running) its
  pub end : option_map task_end its.end ≡ p.end
  pub due : its.due ≡ p.moment.due
  pub pc : its.at ≡ p.moment.now.cpu.pc
  pub steps : its.steps ≡ p.moment.now.steps
  pub crossings : its.crossings ≡ p.moment.now.crossings
  pub natural : its.natural ≡ steps_in (acts_of_task task stints)
  pub entries : its.entries ≡ services_in (acts_of_task task stints)
