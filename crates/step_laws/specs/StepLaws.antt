-- The law of a step: the moves from an entry's place on make exactly the original program's next step
-- (docs/RUN.md, "The law of a step").
use Rattle.std.specs.Prelude.{◌≡◌, ℕ, ◌+◌, ◌<◌, ◌≤◌, max, Bool, true, false, ◌||◌, List, [], ◌∷◌, length, Option, Some, None, if◌then◌else◌, map}
use Rattle.avr_isa.specs.Crossing.{is_crossing}
use Rattle.sram_layout.specs.Bytes.{byte_at}
use Rattle.sram_layout.specs.Cells.{vsp_cell, kernel_stack_top}
use Rattle.sram_layout.specs.Regions.{place_cells, KeepsRegion}
use Rattle.heap_frames.specs.Paged.{IsPaged}
use Rattle.mote_devices.specs.declared.line.Line.{Line}
use Rattle.nat_template.specs.declared.shapes.TemplateShape.{TemplateShape}
use Rattle.page_draft.specs.Runs.{shape_at}
use Rattle.flat_machine.specs.FlatMachine.{FlatState, Tried, Stops, Goes, Wakes, tried}
use Rattle.preempt_count.specs.Counting.{count_over, is_checkpoint}
use Rattle.kernel_entry.specs.declared.kernel.Stop.{Stop}
use Rattle.kernel_entry.specs.declared.kernel.End.TheVariants as ends
use Rattle.step_laws.specs.Moves.{Inner, Move, Begin, lines_of, line_before, count_plain, count_serve, count_stop, Within}
use Rattle.step_laws.specs.Numbers.{Numbers, numbered}
use Rattle.step_laws.specs.States.{State, mote_of}
use Rattle.step_laws.specs.Walks.{WalkFrom}
use Rattle.step_laws.specs.Links.{Links, links_of, OfStub}
use Rattle.step_laws.specs.Settings.{IsSetting, IsAtEntry}
use Rattle.kernel_entry.specs.Parts.{image_held}
use Rattle.kernel_entry.specs.Seen.{program, state_at, count_of, end_of}

-- what the original program's next instruction does, at address a and with these counts
abbrev pub tried_at : State → (a steps crossings : ℕ) → Tried
tried_at x a steps crossings = tried (program x.kernel) (state_at x.kernel a steps crossings)

-- crossings after a step between these addresses
abbrev pub crossings_over : (from to crossings : ℕ) → ℕ
crossings_over from to crossings = if is_crossing from to then crossings + 1 else crossings

-- where a crossing ends the quantum, no plain step has been made since the last service
abbrev pub IsReset : State → Bool → List Inner → Type 0
IsReset x crosses rest = crosses ≡ true → count_of x.kernel ≡ 1 → (n : Numbers) → (numbered (map Within rest) n).since ≡ 0

-- Control has reached a place of t; or an arrival at t is owed, of an unresolved link to t or of none. Only in the last
-- case may an interrupt be due.
pub data Reaches (links : Links) (t : ℕ) (due : Bool) (z : State) : Type 0 where
  Placed : due ≡ false → z.owed ≡ None → links.enters t (mote_of z).cpu.pc → Reaches links t due z
  Owing : (stub : Option ℕ) → (due ≡ true → stub ≡ None) → z.owed ≡ Some (record { target = t; stub = stub; due = due })
      → OfStub links (mote_of z).flash.words stub t → Reaches links t due z

-- what every step leaves: the layout, the program's part and the quantum, flash, the number of slots and of registers, a heap
-- in order, the kernel's stack empty, one poll more at most, or as many as an event's number may be, and the tables of
-- places
pub record Keeps (x z : State) : Type 0 where
  pub layout : z.kernel.layout ≡ x.kernel.layout
  pub part : z.kernel.part ≡ x.kernel.part
  pub quantum : z.kernel.quantum ≡ x.kernel.quantum
  pub flash : (mote_of z).flash ≡ (mote_of x).flash
  pub slots : length (mote_of z).swap ≡ length (mote_of x).swap
  pub paged : IsPaged (mote_of z).sram (mote_of z).swap
  pub registers : length (mote_of z).cpu.r ≡ length (mote_of x).cpu.r
  pub top : (mote_of z).cpu.sp ≡ kernel_stack_top
  pub polls : (mote_of z).devices.polls ≤ max ((mote_of x).devices.polls + 1) 4294967295
  pub tables : KeepsRegion place_cells (mote_of x).sram (mote_of z).sram
  pub pointer : byte_at (mote_of z).sram vsp_cell < 256

-- the original program's step: the instruction is executed, or is a SLEEP that an interrupt ends
abbrev pub tried_as : (wakes : Bool) → Option Line → FlatState → Tried
tried_as false line next = Goes line next
tried_as true line next = Wakes next

-- The instruction at a is executed: the original program's step to the address `to`, with its line. An interrupt is due
-- behind it where it is a checkpoint or a SLEEP; a SLEEP writes no line, ends with a service, and alone may raise the
-- count of polls by more than one.
pub record GoesTo (links : Links) (x : State) (a : ℕ) (line : Option Line) (rest : List Inner) (to : ℕ) (z : State) : Type 0 where
  pub wakes : Bool
  pub silent : wakes ≡ true → line ≡ None
  pub fresh : wakes ≡ true → (n : Numbers) → (numbered (map Within rest) n).since ≡ 0
  pub polls : wakes ≡ false → (mote_of z).devices.polls ≤ (mote_of x).devices.polls + 1
  pub going : z.end ≡ None
  pub original : (s c : ℕ) → tried_at x a s c ≡ tried_as wakes line (state_at z.kernel to (s + 1) (crossings_over a to c))
  pub reaches : Reaches links to (wakes || is_checkpoint a to (count_of x.kernel)) z
  pub count : count_of z.kernel ≡ count_over x.kernel.quantum a to (count_of x.kernel)
  pub unstopped : count_stop rest ≡ 0
  pub reset : IsReset x (is_crossing a to) rest

-- The instruction at a stops the original program, and nothing that the program sees changes.
pub record StopsAt (x : State) (a : ℕ) (line : Option Line) (rest : List Inner) (stop : Stop) (z : State) : Type 0 where
  pub ended : z.end ≡ Some (ends.Stopped stop)
  pub free : z.owed ≡ None
  pub silent : line ≡ None
  pub original : (s c : ℕ) → tried_at x a s c ≡ Stops (end_of stop)
  pub same : (s c : ℕ) → state_at z.kernel a s c ≡ state_at x.kernel a s c
  pub count : count_of z.kernel ≡ count_of x.kernel
  pub stopped : count_stop rest ≡ 1

-- the original program, and nothing else, decides which it is
pub data Outcome (links : Links) (x : State) (a : ℕ) (line : Option Line) (rest : List Inner) (z : State) : Type 0 where
  Went : (to : ℕ) → GoesTo links x a line rest to z → Outcome links x a line rest z
  Stopped : (stop : Stop) → StopsAt x a line rest stop z → Outcome links x a line rest z

-- From an entry's place of a there is a walk that begins there and makes one step: its first move is plain,
-- at most 39 further plain steps and two services follow it, no other begins at an entry's place, and none
-- is an arrival. It writes at most one line.
pub record StepLaw (links : Links) (x : State) (a : ℕ) : Type 0 where
  pub end : State
  pub first : Option Line
  pub rest : List Inner
  pub line : Option Line
  pub walk : WalkFrom x true first rest end
  pub few : count_plain rest ≤ 39
  pub serves : count_serve rest ≤ 2
  pub lines : line_before first (lines_of (map Within rest)) ≡ line_before line []
  pub keeps : Keeps x end
  pub outcome : Outcome links x a line rest end

-- all its moves
abbrev pub moves_of : {links : Links} {x : State} {a : ℕ} → StepLaw links x a → List Move
moves_of law = Begin law.first ∷ map Within law.rest

-- the law of a shape of template, whatever the links
abbrev pub ShapeLaw : TemplateShape → Type 1
ShapeLaw shape = (links : Links) → (x : State) → (a v : ℕ) → IsSetting links x a v → shape_at (image_held x.kernel) a ≡ shape → StepLaw links x a

-- the links of the pool that a machine runs in
abbrev pub links_at : State → Links
links_at x = links_of x.kernel.part x.kernel.layout (mote_of x).flash.words

-- Each shape has its law in the pool that the machine runs in. A contract can say no more, since no clause
-- ranges over relations; the lemma `shape_law` has the law for all links.
abbrev pub HasShapeLaws : Type 0
HasShapeLaws = (shape : TemplateShape) → (x : State) → (a v : ℕ) → IsSetting (links_at x) x a v → shape_at (image_held x.kernel) a ≡ shape → StepLaw (links_at x) x a

-- each entry of rewritten code has its step's law
abbrev pub HasEntryLaws : Type 0
HasEntryLaws = (x : State) → (a : ℕ) → IsAtEntry x a → StepLaw (links_at x) x a
