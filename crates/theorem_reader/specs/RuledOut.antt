-- What the definitions of the other files rule out, so that none of them is so of everything: an answer, an act, a page, a call.
use Rattle.std.specs.Prelude.{◌≡◌, ◌≢◌, ◌⊎◌, ◌<◌, ◌≤◌, ◌/◌, ℕ, suc, ◌++◌, [], List, length, slice_index, false, Option, Some, None}
use Rattle.mote_devices.specs.declared.line.Line.{Line}
use Rattle.mote_core.specs.declared.mote.Mote.{Mote}
use Rattle.avr_decode.specs.Program.{instruction_at}
use Rattle.flat_machine.specs.FlatMachine.{Moment, Run}
use Rattle.kernel_entry.specs.declared.kernel.End.TheVariants as ends
use Rattle.program_steps.specs.Machines.{Machine}
use Rattle.parked_tasks.specs.declared.task.Task.{Task}
use Rattle.tk_tasks.specs.States.{Tasks as KeptTasks}
use Rattle.cli_words.specs.declared.command.Command.TheVariants.{Run as RunCommand, Asm}
use Rattle.cli_words.specs.declared.command.RunOptions.{RunOptions}
use Rattle.cli_words.specs.Commands.{IsCommand}
use Rattle.page_draft.specs.Runs.{address, ends_at}
use Rattle.page_draft.specs.CodePages.{page_size}
use Rattle.theorem_reader.specs.Acts.{Act, IsStep, Executes, Relinks, IsNext, GoesNoFurther, KeepsLink, program_address, ring_of}
use Rattle.theorem_reader.specs.Calls.{IsAsked, AreCovered}
use Rattle.theorem_reader.specs.Checks.{IsChecked}
use Rattle.theorem_reader.specs.Dumps.{HasEnded, IsDumped}
use Rattle.theorem_reader.specs.Memory.{core_at}
use Rattle.theorem_reader.specs.Pools.{IsInPool, IsErased, AreFaithful, AreFaithfulBut, IsExit, IsPlaceOf, KeepsWord}
use Rattle.theorem_reader.specs.Refusals.{IsSaid, IsRefused, ReadsText}
use Rattle.theorem_reader.specs.Restarts.{IsLost, IsRestarted}
use Rattle.theorem_reader.specs.Runs.{Asked, Asks, boot_of, EndsWell, Stands, IsRun}
use Rattle.theorem_reader.specs.Steps.{AreUnmade}
use Rattle.theorem_reader.specs.Stints.{HasPart}
use Rattle.theorem_reader.specs.Tasks.{AskedTasks, AreRun}
use Rattle.theorem_reader.specs.Telling.{Serves}
use Rattle.theorem_reader.specs.Texts.{count_line}

-- two texts are the same but for the numbers of a last line
pub record DifferInCounts (text other : List ℕ) : Type 0 where
  pub front : List ℕ
  pub one : Machine
  pub another : Machine
  pub is : text ≡ front ++ count_line one
  pub other_is : other ≡ front ++ count_line another

-- Two answers of which this is so agree in that, unless memory was wanted for one of them.
abbrev pub Agree : {A : Type 0} → (Is : ℕ → List ℕ → A → Type 0) → (So : (status other : ℕ) (taken another : List ℕ) → Type 0) → Type 0
Agree {A} Is So = (status other : ℕ) (taken another : List ℕ) (kept held : A) → Is status taken kept → Is other another held → (status ≡ 8) ⊎ ((other ≡ 8) ⊎ So status other taken another)

-- Two answers to the same, where the sinks serve, have the same status; of `check`, and where a line is told, also the same text. So has
-- a run, unless flash refused an operation (9), but for its counts.
pub record AnswersAgree : Type 0 where
  pub run : (asked : Asked) → Agree (IsRun (boot_of asked) Serves asked) (λ status other taken another. (status ≡ 9) ⊎ ((other ≡ 9) ⊎ ((status ≡ other) × DifferInCounts taken another)))
  pub dump : (asked : Asked) → Agree (IsDumped Serves asked) (λ status other taken another. status ≡ other)
  pub restart : (asked : Asked) → Agree (IsRestarted Serves asked) (λ status other taken another. status ≡ other)
  pub tasks : (asked : AskedTasks) → Agree (λ status taken (kept : Option Machine × Option KeptTasks). AreRun Serves asked status taken kept.0 kept.1) (λ status other taken another. status ≡ other)
  pub check : (image flash : List ℕ) → Agree (IsChecked Serves image flash) (λ status other taken another. (status ≡ other) × (taken ≡ another))
  pub said : (own : ℕ) (whole : List ℕ) → Agree (λ status taken (kept : Option Machine × Option KeptTasks). IsSaid Serves own whole status taken kept.0 kept.1)
      (λ status other taken another. (status ≡ other) × (taken ≡ another))

-- two machines stand alike, whatever their pages and frames are
pub record StandAlike (m n : Machine) : Type 0 where
  pub core : core_at m.kernel.mote m.at ≡ core_at n.kernel.mote n.at
  pub steps : m.steps ≡ n.steps
  pub crossings : m.crossings ≡ n.crossings
  pub due : m.due ≡ n.due
  pub layout : m.kernel.layout ≡ n.kernel.layout
  pub slots : length m.kernel.mote.swap ≡ length n.kernel.mote.swap
  pub quantum : m.kernel.quantum ≡ n.kernel.quantum
  pub devices : m.kernel.mote.devices ≡ n.kernel.mote.devices

-- Two machines that stand where the original program does stand alike. Where two came to its end they are broken alike, and one has an
-- end where the other has. A step of rewritten code has one outcome.
pub record MachinesAgree : Type 0 where
  pub stand : (asked : Asked) (r : Run) (m n : Machine) → Stands (boot_of asked) asked r m → Stands (boot_of asked) asked r n → StandAlike m n
  pub ended : (asked : Asked) (m n : Machine) → EndsWell (boot_of asked) asked m → EndsWell (boot_of asked) asked n → (m.broken ≡ n.broken) × (m.end ≡ None → n.end ≡ None)
  pub step : (from : ℕ) (line other : Option Line) (before after later : Mote) → IsStep from line before after → IsStep from other before later → (after ≡ later) × (line ≡ other)

-- Nothing is executed where the program has no instruction. Where no call stands nothing is linked. A word stays where no exit stub is, of
-- a page that an arrival or a restart keeps. RING stays where a page of the pool is erased. A page goes on where the next instruction is
-- one of the image behind it, has no place elsewhere, and fits. Where no page of the pool is erased, no page lacks its words. Where a run
-- hasn't ended, no step was begun. A program that runs has no part that is parked. Whatever ended, flash is faithful but for a page. Where
-- no operation was refused, flash is as the run left it. What `run` is asked is run or refused; and `asm` reads a text.
pub record ActsAreNone : Type 0 where
  pub executed : (image : List ℕ) (quantum : ℕ) (line : Option Line) (before after : Mote) → instruction_at image (program_address before) ≡ None → ¬ Executes image quantum line false before after
  pub linked : (before after : List ℕ) (place : ℕ) → ((s : ℕ) → slice_index before s ≢ 0x940E) → Relinks before after place → after ≡ before
  pub stays : (image : List ℕ) (target : ℕ) (before after : Mote) (a : ℕ) → ((s : ℕ) → ¬ IsExit before.flash.words s) → KeepsLink image target before after a
      → slice_index after.flash.words a ≡ slice_index before.flash.words a
  pub kept : (before after : List ℕ) (a : ℕ) → ((s : ℕ) → ¬ IsExit before s) → KeepsWord before after a → slice_index after a ≡ slice_index before a
  pub next : (image : List ℕ) (target : ℕ) (before after : Mote) (page : ℕ) → IsInPool image page → IsErased before.flash.words page → IsNext image target before after page
      → ring_of after ≡ ring_of before
  pub far : (image flash : List ℕ) (page t last : ℕ) → ends_at image (address image t last) ≡ false → address image t (suc last) / 128 ≡ t / 128 → address image t (suc last) < length image
      → ((place : ℕ) → ¬ IsPlaceOf image flash (address image t (suc last)) place) → page_size image t (suc last) ≤ 128 → ¬ GoesNoFurther image flash page t last
  pub lacks : (image flash : List ℕ) → ((page : ℕ) → IsInPool image page → ¬ IsErased flash page) → AreFaithfulBut image flash → AreFaithful image flash
  pub begun : (image : List ℕ) (s : Moment) (before : Mote) (acts : List Act) → AreUnmade image s before acts None → acts ≡ []
  pub parked : (left own kept : Mote) (task : Task) → HasPart left own kept false task → task.parked ≢ None
  pub ended : (asked : Asked) (m : Machine) → HasEnded asked m → AreFaithfulBut asked.image m.kernel.mote.flash.words
  pub lost : (image : List ℕ) (m : Machine) (flash erases : List ℕ) → ((op : ℕ) → m.end ≢ Some (ends.Flash op)) → IsLost image m flash erases → flash ≡ m.kernel.mote.flash.words
  pub asked : (words : List (List ℕ)) (text : List ℕ) (options : RunOptions) → IsCommand words (RunCommand options) → IsAsked words text
      → ((asked : Asked) × Asks words text asked) ⊎ ((line : List ℕ) × IsRefused words text line)
  pub covered : (words : List (List ℕ)) → IsCommand words Asm → AreCovered words → ReadsText words
