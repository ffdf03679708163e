-- Serves private functions: a walk over steps that write no device line, one behind the other, and on into the next.
use Rattle.std.specs.Prelude.{◌≡◌, ℕ, ◌+◌, ◌-◌, ◌≤◌, ◌<◌, ◌^◌, false, List, Option, None, Some}
use Rattle.avr_exec.specs.declared.cpu.Cpu.{Cpu}
use Rattle.flash_model.specs.declared.micro_ops.MicroOp.{MicroOp}
use Rattle.flash_model.specs.DecodeCache.{AreMicroOps}
use Rattle.mote_devices.specs.Waking.{Timely}
use Rattle.mote_devices.specs.declared.line.Line.{Line}
use Rattle.mote_core.specs.FastPath.{mote_with}
use Rattle.page_cursor.specs.declared.cursor.Cursor.{Cursor}
use Rattle.page_cursor.specs.Cursors.{IsCursor}
use Rattle.kernel_entry.specs.declared.kernel.Kernel.{Kernel}
use Rattle.program_steps.specs.declared.progress.Progress.{Progress}
use Rattle.program_steps.specs.declared.walk.Way.{Way}
use Rattle.program_steps.specs.declared.walk.Way.TheVariants as way
use Rattle.program_steps.specs.declared.walk.Fast.{Fast}
use Rattle.program_steps.specs.declared.walk.Fast.TheVariants as fast
use Rattle.program_steps.specs.declared.walk.Rest.{Rest}
use Rattle.program_steps.specs.declared.walk.Rest.TheVariants.{On, Reached, Halted}
use Rattle.program_steps.specs.Machines.{Machine, numbers_of}
use Rattle.program_steps.specs.Stepping.{HasStepped}
use Rattle.program_steps.specs.Ready.{IsGoing}
use Rattle.program_steps.specs.Several.{Silently}
use Rattle.program_steps.specs.Wholes.{whole}
use Rattle.program_steps.specs.Loop.{IsUnderway, IsFurther, HasTaken, HasReached, KeepsFlash, Halts, LawOf, AreSmall}

-- the kernel with these registers and bytes of SRAM; and so where SREG and the pc stand apart from the registers
abbrev pub with_core : Kernel → Cpu → List ℕ → Kernel
with_core k cpu sram = record k { mote = record k.mote { cpu = cpu; sram = sram } }

abbrev pub kernel_with : Kernel → Cpu → List ℕ → (sreg pc : ℕ) → Kernel
kernel_with k cpu sram sreg pc = record k { mote = mote_with k.mote cpu sram sreg pc }

-- what is counted, where the plain steps behind the last service and the count of steps stand apart
abbrev pub progress_at : Progress → (since steps : ℕ) → Progress
progress_at p since steps = record p { since = since; steps = steps }

-- Steps that write no line lead from `start` to where the next one may begin, before the step of number `end` was over.
pub record CanBegin (end : ℕ) (start now : Machine) : Type 0 where
  pub begun : start.steps ≤ now.steps
  pub silently : Silently (now.steps - start.steps) start now
  pub ready : IsGoing now
  pub placed : now.owed ≡ None
  pub undue : now.due ≡ false
  pub few : now.steps < end

-- Such steps lead to where the last one began; and R holds of that and of now.
pub record IsAlong (R : Machine → Machine → Type 0) (end : ℕ) (start now : Machine) : Type 0 where
  pub last : Machine
  pub begins : CanBegin end start last
  pub timely : Timely last.kernel.mote.devices
  pub keeps : KeepsFlash last now
  pub is : R last now

-- it is underway, and has written no line
abbrev pub Underway : Machine → Machine → Type 0
Underway last now = IsUnderway last now None

-- some of its moves were made, with this line, and it may be over
abbrev pub Further : Option Line → Machine → Machine → Type 0
Further line last now = IsFurther last now line

-- all of them were
abbrev pub AllMade : Option Line → Machine → Machine → Type 0
AllMade line last now = HasTaken last now line

-- it is over
abbrev pub Stepped : Option Line → Machine → Machine → Type 0
Stepped line last now = HasStepped last now line

-- The kernel `k` with these registers and this SRAM is underway in a step of the walk; the micro-operations are those of its flash, and
-- the cursor is right.
pub record CanGo (micro_ops : List MicroOp) (cpu : Cpu) (sram : List ℕ) (p : Progress) (c : Cursor) (end : ℕ) (start : Machine) (k : Kernel) : Type 0 where
  pub ops : AreMicroOps k.mote.flash.words micro_ops
  pub cursor : IsCursor k.layout k.mote.flash.words c
  pub timely : Timely k.mote.devices
  pub along : IsAlong Underway end start (whole (with_core k cpu sram) p)

-- where moves of the fast path have led
abbrev pub end_of_way : Way → ℕ
end_of_way (way.Over place) = place
end_of_way (way.Slow place) = place
end_of_way (way.Unknown place) = place

-- .. what they have made of the steps
abbrev pub HasWalked : Way → (end : ℕ) → Machine → Machine → Type 0
HasWalked (way.Over place) end start now = IsAlong (Stepped None) end start now
HasWalked (way.Slow place) end start now = (place < 0xF000) × IsAlong Underway end start now
HasWalked (way.Unknown place) end start now = IsAlong (Further None) end start now

-- .. and that there were some, but where the first is none
abbrev pub moves_by : Progress → ℕ
moves_by p = p.before + p.since + p.entries

abbrev pub IsFarther : Way → Progress → Progress → Type 0
IsFarther (way.Slow place) old new = moves_by old ≤ moves_by new
IsFarther (way.Over place) old new = moves_by old < moves_by new
IsFarther (way.Unknown place) old new = moves_by old < moves_by new

-- where they have led with one of another kind
abbrev pub place_of : Fast → ℕ
place_of (fast.Over place) = place
place_of (fast.Partway place) = place

-- .. and what they have made of the steps
abbrev pub HasGone : Fast → Option Line → (end : ℕ) → Machine → Machine → Type 0
HasGone (fast.Over place) line end start now = IsAlong (Stepped line) end start now
HasGone (fast.Partway place) line end start now = IsAlong (Further line) end start now

-- a step some of whose moves were made, and whose law and numbers are such that more may follow
pub record IsPartway (begun now : Machine) (line : Option Line) : Type 0 where
  pub law : LawOf begun
  pub few : AreSmall (numbers_of begun) (2 ^ 60)
  pub further : IsFurther begun now line

-- where control stands behind the moves that are left of a step
abbrev pub StandsAt : Rest → Machine → Option Line → Type 0
StandsAt (On place) now line = (place ≡ now.kernel.mote.cpu.pc) × (place < 0xF000) × (line ≡ None) × Halts now false
StandsAt (Reached place t) now line = (place ≡ now.kernel.mote.cpu.pc) × HasReached now (Some t)
StandsAt Halted now line = HasReached now None

-- .. and what they have made of the step
abbrev pub HasLeft : Rest → (begun now : Machine) → Option Line → Type 0
HasLeft (On place) begun now line = IsUnderway begun now line
HasLeft (Reached place t) begun now line = HasTaken begun now line
HasLeft Halted begun now line = HasTaken begun now line
