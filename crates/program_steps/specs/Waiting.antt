-- Serves private functions: a program that waits while another one runs on the same mote (docs/TASKS.md, "While a task waits").
use Rattle.std.specs.Prelude.{◌≡◌, ℕ, ◌+◌, ◌≤◌, ◌^◌, false, List}
use Rattle.sram_layout.specs.Regions.{place_cells, KeepsRegion}
use Rattle.flash_words.specs.Operations.{is_listed}
use Rattle.branch_bridge.specs.Arrivals.{KeepsOtherBytes}
use Rattle.kernel_entry.specs.Parts.{image_held}
use Rattle.program_steps.specs.Machines.{Machine, numbers_of}
use Rattle.program_steps.specs.Ready.{IsInOrder, AreArrivals, HasFault, most_arrivals}

-- the machine y with the flash and the pages of x, these bytes of SRAM, and so many arrivals that others may have made
abbrev pub over : (y x : Machine) → (sram : List ℕ) → (others : ℕ) → Machine
over y x sram others = record y { kernel = record y.kernel { mote = record y.kernel.mote { flash = x.kernel.mote.flash; sram = sram } }; pages = x.pages; others = others }

-- The program that runs has come to x: it is in order, its arrivals are counted, and flash refused nothing.
pub record IsLeft (x : Machine) : Type 0 where
  pub order : IsInOrder x
  pub arrivals : AreArrivals (numbers_of x) (most_arrivals x.owed x.steps)
  pub unrefused : ¬ HasFault x

-- The program of y has waited until then: flash holds the same image under the same layout, and none of its operations is to
-- fail; the tables of places in SRAM are those of x, and its other bytes y's own; and both have the same sum of arrivals,
-- their own and those of others.
pub record HasWaited (y x : Machine) (sram : List ℕ) (others : ℕ) : Type 0 where
  pub left : IsLeft x
  pub layout : x.kernel.layout ≡ y.kernel.layout
  pub image : image_held x.kernel ≡ image_held y.kernel
  pub shut : x.kernel.part.shut ≡ y.kernel.part.shut
  pub unfailing : (op : ℕ) → is_listed x.kernel.mote.flash.failing op ≡ false
  pub own : KeepsOtherBytes y.kernel.mote.sram sram
  pub tables : KeepsRegion place_cells x.kernel.mote.sram sram
  pub began : x.began ≡ y.began
  pub sum : others + most_arrivals y.owed y.steps ≡ x.others + most_arrivals x.owed x.steps
  pub few : y.began + others ≤ 10 ^ 13
