-- When a machine is sound, and when it is ready to go on (docs/MACHINE.md, "What always holds").
use Rattle.std.specs.Prelude.{◌≡◌, ◌≢◌, ℕ, ◌+◌, ◌-◌, ◌*◌, ◌%◌, ◌<◌, ◌≤◌, ◌^◌, true, false, min, List, length, Option, Some, None, IfSome}
use Rattle.sram_layout.specs.Bytes.{byte_at}
use Rattle.sram_layout.specs.Cells.{vsp_cell, kernel_stack_top}
use Rattle.heap_frames.specs.Paged.{IsPaged}
use Rattle.flash_words.specs.Layouts.{IsRight, layout_of}
use Rattle.flash_words.specs.declared.layout.Layout.{Layout}
use Rattle.flash_words.specs.Memory.{Memory, IsWhole}
use Rattle.page_index.specs.Maps.{IsPool}
use Rattle.nat_page.specs.Faithful.{IsFaithful}
use Rattle.nat_page.specs.Used.{used_pages}
use Rattle.nat_page.specs.Parts.{IsParted}
use Rattle.flat_machine.specs.declared.part.Part.{Part}
use Rattle.step_laws.specs.Links.{part_number}
use Rattle.addr_tables.specs.Tables.{IsTables}
use Rattle.branch_bridge.specs.Operating.{with_torn}
use Rattle.flash_words.specs.Operations.{is_listed}
use Rattle.branch_bridge.specs.Tried.{IsTorn}
use Rattle.branch_bridge.specs.Arrivals.{ring_of}
use Rattle.kernel_entry.specs.Parts.{image_held}
use Rattle.kernel_entry.specs.Seen.{count_of}
use Rattle.kernel_entry.specs.declared.kernel.Owed.{Owed}
use Rattle.kernel_entry.specs.declared.kernel.End.{End}
use Rattle.kernel_entry.specs.declared.kernel.Kernel.{Kernel}
use Rattle.branch_bridge.specs.declared.rewriting.Torn.{Torn}
use Rattle.kernel_entry.specs.declared.kernel.End.TheVariants as ends
use Rattle.step_laws.specs.Numbers.{Numbers}
use Rattle.step_laws.specs.Bounds.{AreBounded, AreEnded}
use Rattle.step_laws.specs.StepLaws.{Reaches, links_at}
use Rattle.program_steps.specs.Machines.{Machine, state_of, numbers_of, awaits}

-- COUNT, the crossings that are left in the quantum
abbrev pub count_in : Machine → ℕ
count_in m = count_of m.kernel

-- the words of flash, with those put in that a torn page lacks
abbrev pub mended_words : Kernel → Option Torn → List ℕ
mended_words k torn = with_torn k.mote.flash.words torn

-- the operation on flash of some number was refused, and ended the run
abbrev pub IsByFlash : Option End → Type 0
IsByFlash end = (op : ℕ) × (end ≡ Some (ends.Flash op))

abbrev pub HasFault : Machine → Type 0
HasFault m = IsByFlash m.end

-- Of the operations on flash that were tried, none is listed to fail and none was refused, but for the last of a
-- run that this ended; it concerns a page of the pool. Only then a page may be torn.
pub record AreTried (layout : Layout) (flash : Memory) (end : Option End) (lacks : Option Torn) : Type 0 where
  pub listed : (op : ℕ) → 1 ≤ op → op ≤ flash.ops → is_listed flash.failing op ≡ true → end ≡ Some (ends.Flash op)
  pub refused : flash.refused ≢ None → IsByFlash end
  pub pool : IfSome flash.refused (IsPool layout)
  pub torn : IfSome lacks (λ torn. IsTorn layout flash.words torn × IsByFlash end)

-- The program's part is all of the image; or, where it is shut, a quarter that lies in the image.
pub record IsRightPart (part : Part) (words : ℕ) : Type 0 where
  pub whole : part.shut ≡ false → (part.first ≡ 0) × (part.count ≡ words)
  pub quarter : part.shut ≡ true → (q : ℕ) × (part.first ≡ 4096 * q) × (part.count ≡ 4096) × (part.first + part.count ≤ words)

-- The layout is that of the image's length; flash, with the words that a torn page lacks, holds the image and its
-- faithful rewritten code, whose links keep to the parts of the image; the tables and the heap are in order; as many pages are used as were made, up to the whole
-- pool; r0 to r31 are there, and the low half of the program's stack pointer is a byte. The rest of a machine has no part in it.
pub record IsOrder (k : Kernel) (end : Option End) (lacks : Option Torn) (made : ℕ) : Type 0 where
  pub layout : k.layout ≡ layout_of k.layout.image_words
  pub right : IsRight k.layout
  pub faithful : IsFaithful k.layout (image_held k) (mended_words k lacks)
  pub part : IsRightPart k.part k.layout.image_words
  pub parted : IsParted k.layout (image_held k) (mended_words k lacks) (part_number k.part.shut)
  pub tables : IsTables k.layout k.mote.sram (mended_words k lacks)
  pub paged : IsPaged k.mote.sram k.mote.swap
  pub whole : IsWhole k.mote.flash
  pub registers : 31 < length k.mote.cpu.r
  pub pointer : byte_at k.mote.sram vsp_cell < 256
  pub quantum : k.quantum < 256
  pub pages : used_pages k.layout (mended_words k lacks) ≡ min made k.layout.pool_pages
  pub ring : ring_of k.mote.sram < k.layout.pool_pages
  pub tried : AreTried k.layout k.mote.flash end lacks

abbrev pub IsInOrder : Machine → Type 0
IsInOrder m = IsOrder m.kernel m.end m.torn m.pages

-- How far the numbers go, also in a machine that stopped in the midst of a step. No arrival, also of other programs on the
-- same mote, tries more than 1,000 operations.
pub record IsBounded (n : Numbers) (crossings quantum polled : ℕ) : Type 0 where
  pub moves : AreEnded n crossings quantum
  pub polls : polled ≤ n.steps + (2 ^ 32 + 1)
  pub pages : n.pages ≤ n.began + n.others + n.steps + 1
  pub ops : n.ops ≤ 1000 * (n.others + n.steps + 1)

abbrev pub HasBounds : Machine → Type 0
HasBounds m = IsBounded (numbers_of m) m.crossings m.kernel.quantum m.kernel.mote.devices.polls

pub record IsSound (m : Machine) : Type 0 where
  pub order : IsInOrder m
  pub bounded : HasBounds m
  pub steps : m.steps ≤ 10 ^ 12

-- how many arrivals there may have been: one for each step, and one more where none is owed
abbrev pub most_arrivals : Option Owed → ℕ → ℕ
most_arrivals (Some owed) steps = steps
most_arrivals None steps = steps + 1

-- Each, and each of other programs on the same mote, makes one page at most, beside those of the beginning, and tries at
-- most 1,000 operations on flash.
pub record AreArrivals (n : Numbers) (most : ℕ) : Type 0 where
  pub pages : n.pages ≤ n.began + n.others + most
  pub ops : n.ops ≤ 1000 * (n.others + most)
  pub few : n.began + n.others ≤ 10 ^ 13

-- COUNT is what the crossings leave of the quantum
abbrev pub IsExact : Machine → Type 0
IsExact m = count_in m ≡ m.kernel.quantum - m.crossings % m.kernel.quantum

-- The next step may begin: no page is torn, the kernel's stack is empty, and control stands at the place of `at`, or
-- an arrival at `at` is owed, of a stub to it or of none.
pub record IsGoing (m : Machine) : Type 0 where
  pub order : IsInOrder m
  pub going : m.end ≡ None
  pub untorn : m.torn ≡ None
  pub top : m.kernel.mote.cpu.sp ≡ kernel_stack_top
  pub some : 1 ≤ count_in m
  pub most : count_in m ≤ m.kernel.quantum
  pub stands : Reaches (links_at (state_of m)) m.at (awaits m) (state_of m)
  pub counted : AreBounded (numbers_of m) m.crossings m.kernel.quantum (count_in m) m.at
  pub arrivals : AreArrivals (numbers_of m) (most_arrivals m.owed m.steps)
  pub polls : m.kernel.mote.devices.polls ≤ m.steps + 2 ^ 32
  pub exact : IsExact m
  pub fresh : awaits m ≡ true → m.since ≡ 0

-- where nothing is owed, no interrupt is due
abbrev pub IsQuiet : Machine → Type 0
IsQuiet m = m.owed ≡ None → m.due ≡ false

pub record IsReady (m : Machine) : Type 0 where
  pub sound : IsSound m
  pub exact : IsExact m
  pub going : m.end ≡ None → IsGoing m
  pub quiet : m.end ≡ None → IsQuiet m

-- what the type `Machine` keeps: also that its program has the whole image
pub record IsKept (m : Machine) : Type 0 where
  pub sound : IsSound m
  pub unshut : m.kernel.part.shut ≡ false
  pub ready : m.broken ≡ false → IsReady m

-- the program has ended
pub record IsEnded (m : Machine) : Type 0 where
  pub order : IsInOrder m
  pub bounded : HasBounds m
  pub ended : m.end ≢ None
  pub exact : IsExact m
