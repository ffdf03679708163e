-- A machine as its contracts see it, and what it stands for (docs/MACHINE.md, "The fields").
use Rattle.std.specs.Prelude.{ℕ, Bool, false, ◌&&◌, is_some, Option, Some, None}
use Rattle.flat_machine.specs.FlatMachine.{Moment}
use Rattle.kernel_entry.specs.declared.kernel.Kernel.{Kernel}
use Rattle.kernel_entry.specs.declared.kernel.Owed.{Owed}
use Rattle.kernel_entry.specs.declared.kernel.End.{End}
use Rattle.branch_bridge.specs.declared.rewriting.Torn.{Torn}
use Rattle.step_laws.specs.Numbers.{Numbers}
use Rattle.step_laws.specs.States.{Awaited, State}
use Rattle.step_laws.specs.Joining.{Counted}
use Rattle.kernel_entry.specs.Seen.{state_at}

-- the fields of the type `Machine`, and how many arrivals other programs on the same mote may have made
pub record Machine : Type 0 where
  pub kernel : Kernel
  pub at : ℕ
  pub owed : Option Owed
  pub end : Option End
  pub due : Bool
  pub torn : Option Torn
  pub broken : Bool
  pub steps : ℕ
  pub crossings : ℕ
  pub natural : ℕ
  pub entries : ℕ
  pub pages : ℕ
  pub since : ℕ
  pub longest : ℕ
  pub began : ℕ
  pub others : ℕ

-- one that has done nothing yet: it owes an arrival at the first word of its part, and has counted nothing but these pages,
-- which were there when it began
abbrev pub unstarted : Kernel → (pages others : ℕ) → Machine
unstarted k pages others = record {
  kernel = k;
  at = k.part.first;
  owed = Some (record { target = k.part.first; stub = None });
  end = None;
  due = false;
  torn = None;
  broken = false;
  steps = 0;
  crossings = 0;
  natural = 0;
  entries = 0;
  pages = pages;
  since = 0;
  longest = 0;
  began = pages;
  others = others;
}

-- the arrival that is owed, and whether an interrupt is due at it
abbrev pub awaited : Option Owed → Bool → Option Awaited
awaited None due = None
awaited (Some owed) due = Some (record { target = owed.target; stub = owed.stub; due = due })

-- the state that its moves begin in, and the numbers that they are counted in; flash itself counts the operations on it
abbrev pub state_of : Machine → State
state_of m = record { kernel = m.kernel; owed = awaited m.owed m.due; end = m.end; torn = m.torn }

-- an arrival is owed at a checkpoint
abbrev pub awaits : Machine → Bool
awaits m = is_some m.owed && m.due

abbrev pub numbers_of : Machine → Numbers
numbers_of m = record {
  steps = m.steps;
  natural = m.natural;
  entries = m.entries;
  pages = m.pages;
  since = m.since;
  longest = m.longest;
  began = m.began;
  others = m.others;
  ops = m.kernel.mote.flash.ops;
}

abbrev pub counted_of : Machine → Counted
counted_of m = record { state = state_of m; numbers = numbers_of m }

-- the state of the original program that it stands for
abbrev pub flat_of : Machine → Moment
flat_of m = record { now = state_at m.kernel m.at m.steps m.crossings; due = m.due }
