-- Serves private functions: what a view keeps from one step to the next, and what is told by it.
use Rattle.std.specs.Prelude.{⊤, ◌≡◌, ◌==◌, ℕ, ◌+◌, ◌<◌, ◌≤◌, false, List, slice_index, Option}
use Rattle.mote_devices.specs.declared.line.Line.{Line}
use Rattle.flat_machine.specs.FlatMachine.{FlatState, Moment, On, Program, is_taken, next_of}
use Rattle.kernel_entry.specs.Seen.{program as program_of}
use Rattle.program_steps.specs.Interrupts.{is_taken_now}
use Rattle.program_steps.specs.Machines.{Machine, flat_of}
use Rattle.tk_watch.specs.declared.view.View.{View}
use Rattle.tk_watch.specs.declared.view.View.TheVariants.{Trace, Visits, Changes, Accesses}
use Rattle.tk_watch.specs.StepTexts.{step_text}
use Rattle.tk_watch.specs.TraceText.{has_row}
use Rattle.tk_watch.specs.VisitsText.{is_among}
use Rattle.tk_watch.specs.ChangesText.{changes_text}
use Rattle.tk_watch.specs.AccessesText.{accesses_text, next_access, next_by}
use Rattle.tk_watch.specs.declared.accesses.Access.{Access}

-- there are so many bytes at these addresses, and not too many
abbrev pub IsPossible : View → Type 0
IsPossible (Changes at count) = (count ≤ 64) × (at + count ≤ 65536)
IsPossible _ = ⊤

-- nothing is told of the step of this number, unless it writes a line
abbrev pub IsUntold : View → (step : ℕ) → Type 0
IsUntold (Trace first count) step = has_row first count step ≡ false
IsUntold (Visits places) step = ⊥
IsUntold (Changes at count) step = ⊥
IsUntold (Accesses at count) step = ⊥
IsUntold _ step = ⊤

-- just the places are marked, by a 1
abbrev pub AreMarked : (places marks : List ℕ) → Type 0
AreMarked places marks = (a : ℕ) → a < 65536 → (slice_index marks a == 1) ≡ is_among places a

-- .. where visits are told
abbrev pub IsMarked : View → (marks : List ℕ) → Type 0
IsMarked (Visits places) marks = AreMarked places.items marks
IsMarked _ marks = ⊤

-- a number is one of those from one on in front of another
abbrev pub IsWithin : (from to i : ℕ) → Type 0
IsWithin from to i = (from ≤ i) × (i < to)

-- the next step of the original program, where it is no interrupt, leaves the byte at an address
abbrev pub Spares : Machine → ℕ → Type 0
Spares m a = is_taken (flat_of m) ≡ false → (line : Option Line) (next : Moment) → next_of (program_of m.kernel) (flat_of m) ≡ On line next
    → slice_index next.now.memory a ≡ slice_index (flat_of m).now.memory a

-- .. each of the watched bytes but those from one on in front of another, which are all where the step is an interrupt
abbrev pub IsSpared : View → Machine → (from to : ℕ) → Type 0
IsSpared (Changes at count) m from to = (from ≤ to) × (to ≤ count) × ((i : ℕ) → i < count → ¬ IsWithin from to i → (is_taken_now m ≡ false) × Spares m (at + i))
IsSpared _ m from to = ⊤

-- these are the bytes of a memory that are watched
abbrev pub AreHeld : View → (memory bytes : List ℕ) → Type 0
AreHeld (Changes at count) memory bytes = (i : ℕ) → i < count → slice_index bytes i ≡ slice_index memory (at + i)
AreHeld _ memory bytes = ⊤

-- .. but for those from one on in front of another
abbrev pub AreHeldBeside : View → (memory : List ℕ) → (from to : ℕ) → (bytes : List ℕ) → Type 0
AreHeldBeside (Changes at count) memory from to bytes = (from ≤ to) × (to ≤ count) × ((i : ℕ) → i < count → ¬ IsWithin from to i → slice_index bytes i ≡ slice_index memory (at + i))
AreHeldBeside _ memory from to bytes = ⊤

-- this is what the next step reads and writes by address, where that is told
abbrev pub IsForeseen : View → Machine → Access → Type 0
IsForeseen (Accesses at count) m access = access ≡ next_by (is_taken_now m) (program_of m.kernel).image (flat_of m).now.cpu
IsForeseen _ m access = ⊤

-- .. at a moment of the original program
abbrev pub IsNext : View → Program → Moment → Access → Type 0
IsNext (Accesses at count) program m access = access ≡ next_access program m
IsNext _ program m access = ⊤

-- what is told of a step that began at this pc with this SREG, these bytes held, and was to read and write this
abbrev pub step_told : View → (step : ℕ) → List Line → (pc sreg : ℕ) → (bytes : List ℕ) → Access → FlatState → List ℕ
step_told (Changes at count) step lines pc sreg bytes access after = changes_text at count step pc (slice_index bytes) (λ i. slice_index after.memory (at + i))
step_told (Accesses first count) step lines pc sreg bytes access after = accesses_text first count step pc sreg access after.cpu
step_told view step lines pc sreg bytes access after = step_text view step lines after after
