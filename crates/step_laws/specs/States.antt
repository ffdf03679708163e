-- The states that moves lead between, and what a service, an interrupt and an arrival leave (docs/RUN.md, "Moves").
use Rattle.std.specs.Prelude.{ℕ, ◌/◌, ◌&&◌, ◌||◌, not, Bool, true, false, List, Option, Some, None}
use Rattle.flat_machine.specs.declared.part.Part.{Part}
use Rattle.flat_machine.specs.FlatMachine.{is_own}
use Rattle.flash_words.specs.Pages.{page_words}
use Rattle.flash_words.specs.declared.layout.Layout.{Layout}
use Rattle.page_index.specs.Maps.{IsPool}
use Rattle.nat_page.specs.Entered.{IsPlace}
use Rattle.mote_devices.specs.declared.line.Line.{Line}
use Rattle.mote_core.specs.declared.mote.Mote.{Mote}
use Rattle.branch_bridge.specs.declared.arrival.Refused.{Refused}
use Rattle.branch_bridge.specs.declared.rewriting.Torn.{Torn}
use Rattle.branch_bridge.specs.declared.through.Arrival.{Arrival}
use Rattle.branch_bridge.specs.declared.arrival.ArriveStop.{ArriveStop}
use Rattle.branch_bridge.specs.declared.arrival.ArriveStop.TheVariants as refusals
use Rattle.branch_bridge.specs.Arrivals.{Store}
use Rattle.kernel_entry.specs.declared.kernel.Kernel.{Kernel}
use Rattle.kernel_entry.specs.declared.kernel.Served.{Served}
use Rattle.kernel_entry.specs.declared.kernel.Served.TheVariants as answers
use Rattle.kernel_entry.specs.declared.kernel.Taken.{Taken}
use Rattle.kernel_entry.specs.declared.kernel.Taken.TheVariants as interrupted
use Rattle.kernel_entry.specs.Interrupts.{is_wanted}
use Rattle.kernel_entry.specs.declared.kernel.End.{End}
use Rattle.kernel_entry.specs.declared.kernel.End.TheVariants as ends

-- An arrival that is owed: the address, the stub that asked for it, if one did, and whether an interrupt may be taken
-- instead. So it is where a service ended at a checkpoint, or woke the program, until the next move.
pub record Awaited : Type 0 where
  pub target : ℕ
  pub stub : Option ℕ
  pub due : Bool

-- the mote with what the kernel knows of it, the arrival that is owed, and how the program ended
pub record State : Type 0 where
  pub kernel : Kernel
  pub owed : Option Awaited
  pub end : Option End
  pub torn : Option Torn

abbrev pub mote_of : State → Mote
mote_of x = x.kernel.mote

abbrev pub with_mote : State → Mote → State
with_mote x mote = record x { kernel = record x.kernel { mote = mote } }

-- the move begins at the place of an entry, or it doesn't
abbrev pub Begins : Layout → List ℕ → ℕ → Bool → Type 0
Begins layout words v true = IsPlace layout words v
Begins layout words v false = ¬ IsPlace layout words v

-- a flash word address in a page of the code pool
abbrev pub InPool : Layout → ℕ → Type 0
InPool layout a = IsPool layout (a / page_words)

-- a service's answer: its line, whether it stopped the program, and the state that it leaves
abbrev pub line_served : Served → Option Line
line_served (answers.Resume line) = line
line_served _ = None

abbrev pub is_stop : Served → Bool
is_stop (answers.Stopped stop) = true
is_stop _ = false

abbrev pub after_service : (due : Bool) → Served × Kernel → State
after_service due (answers.Resume line, k) = record { kernel = k; owed = None; end = None; torn = None }
after_service due (answers.Goto target stub, k) = record { kernel = k; owed = Some (record { target = target; stub = stub; due = due }); end = None; torn = None }
after_service due (answers.Woke target, k) = record { kernel = k; owed = Some (record { target = target; stub = None; due = due }); end = None; torn = None }
after_service due (answers.Stopped stop, k) = record { kernel = k; owed = None; end = Some (ends.Stopped stop); torn = None }

-- an interrupt is to be taken before the arrival: it is due, the arrival is inside the program's part, and one is wanted
abbrev pub is_taken_at : State → Awaited → Bool
is_taken_at x owed = owed.due && (is_own x.kernel.part owed.target && is_wanted x.kernel)

-- a program that is shut in its part comes to its own words alone
abbrev pub admits : Part → ℕ → Bool
admits part a = not part.shut || is_own part a

-- one that is taken leads to its vector, where no further one is due; or it stops the program
abbrev pub after_taking : State → Taken × Kernel → State
after_taking x (interrupted.Nothing, k) = record x { kernel = k }
after_taking x (interrupted.Vector v, k) = record { kernel = k; owed = Some (record { target = v; stub = None; due = false }); end = None; torn = None }
after_taking x (interrupted.Stopped stop, k) = record x { kernel = k; end = Some (ends.Stopped stop) }

abbrev pub stops_taking : Taken → Bool
stops_taking (interrupted.Stopped stop) = true
stops_taking _ = false

-- flash and SRAM, which an arrival may change
abbrev pub store_of : State → Store
store_of x = record { flash = x.kernel.mote.flash; sram = x.kernel.mote.sram }

abbrev pub with_store : State → Store → State
with_store x store = record x { kernel = record x.kernel { mote = record x.kernel.mote { flash = store.flash; sram = store.sram } } }

-- how an arrival that was refused ends the program
abbrev pub end_by : ArriveStop → End
end_by (refusals.Wild t) = ends.Wild t
end_by (refusals.Flash op) = ends.Flash op

abbrev pub placed : State → Option ℕ → State
placed x None = x
placed x (Some place) = with_mote x (record (mote_of x) { cpu = record (mote_of x).cpu { pc = place } })

abbrev pub settled_by : State → Option Refused → State
settled_by x None = record x { owed = None; end = None; torn = None }
settled_by x (Some refused) = record x { end = Some (end_by refused.why); torn = refused.torn }

-- An arrival leaves its store, and the pc at the place once that is known, with nothing owed; or it was refused,
-- which ends the program.
abbrev pub arrived : State → Store → Arrival → State
arrived x store arrival = settled_by (placed (with_store x store) arrival.place) arrival.refused
