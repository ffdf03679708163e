-- Moves of a step, one behind the other.
use Rattle.std.proofs.Common.{ℕ, ◌+◌, ◌<◌, ◌≤◌, false, refl, arith}
use Rattle.std.specs.Prelude.{◌≡◌, ◌^◌, Option, None}
use Rattle.mote_devices.specs.declared.line.Line.{Line}
use Rattle.page_index.specs.Entries.{IsEntry}
use Rattle.flash_words.specs.Layouts.{IsRight}
use Rattle.page_cursor.specs.Cursors.{IsCursor, IsPassed}
use Rattle.page_cursor.specs.declared.cursor.Cursor.{Cursor}
use Rattle.page_cursor.proofs.CursorLaws.{none_passed}
use Rattle.program_steps.specs.Machines.{Machine, state_of, numbers_of}
use Rattle.program_steps.specs.Loop.{IsMidway, IsUnderway, IsFurther, HasMoved, HasPlain, HasServed, CanMove, LawOf, Halts, AreSmall, moves_made}
use Rattle.program_steps.proofs.Awaiting.{awaits_none}
use Rattle.program_steps.proofs.Told.{moved_plain, moved_serve, moved_made, not_over, small_enough, small_moves}
use Rattle.program_steps.proofs.Taking.{midway_can, midway_on, midway_few}

-- where the step was counted and has not moved yet
pub begun_now : {begun : Machine} (line : Option Line) → LawOf begun → AreSmall (numbers_of begun) (2 ^ 60) → line ≡ None → IsUnderway begun (record begun { steps = begun.steps + 1 }) line
begun_now line law few silent = record {
  law = law;
  few = few;
  midway = IsMidway.Begun refl silent;
  small = record { natural = omega (arith, few.natural); entries = omega (arith, few.entries); since = omega (arith, few.since) };
}

-- what moves may follow: some one, and few enough to be counted
pub can_move : {begun now : Machine} {line : Option Line} → IsUnderway begun now line → CanMove (state_of now)
can_move on = midway_can on.law on.midway

pub few_moves : {begun now : Machine} {line : Option Line} → IsUnderway begun now line → moves_made now < moves_made begun + 65
few_moves on = midway_few on.law on.midway

pub few_enough : {begun now : Machine} {line : Option Line} → IsUnderway begun now line → AreSmall (numbers_of now) (2 ^ 62)
few_enough {begun} {now} on = small_enough begun now on.few (few_moves on) on.small

pub below_most : {begun now : Machine} {line : Option Line} → IsUnderway begun now line → moves_made now < 2 ^ 62
below_most on = omega (arith, few_moves on, on.few.natural, on.few.entries)

-- behind one move more
pub further_moved : {begun now new : Machine} {before after : Option Line} → IsUnderway begun now before → HasMoved now new before after → IsFurther begun new after
further_moved on moved = record {
  rest = midway_on on.midway moved;
  small = small_moves (can_move on) moved on.small;
}

pub further_plain : {begun now new : Machine} {before after : Option Line} → IsUnderway begun now before → HasPlain now new before after → now.kernel.mote.cpu.pc < 0xF000 → IsFurther begun new after
further_plain on plain low = further_moved on (moved_plain plain low)

pub more_plain : {begun now new : Machine} {before after : Option Line} → IsUnderway begun now before → HasPlain now new before after → now.kernel.mote.cpu.pc < 0xF000
    → moves_made new ≡ moves_made now + 1
more_plain on plain low = moved_made (can_move on) (moved_plain plain low)

pub further_served : {begun now new : Machine} {before after : Option Line} → IsRight now.kernel.layout → IsUnderway begun now before → HasServed now new before after
    → 0xF000 ≤ now.kernel.mote.cpu.pc → IsFurther begun new after
further_served right on served high = further_moved on (moved_serve right served high)

pub more_served : {begun now new : Machine} {before after : Option Line} → IsRight now.kernel.layout → IsUnderway begun now before → HasServed now new before after → 0xF000 ≤ now.kernel.mote.cpu.pc
    → moves_made new ≡ moves_made now + 1
more_served right on served high = moved_made (can_move on) (moved_serve right served high)

-- where no entry begins, and control isn't with the kernel, moves may follow
pub underway_by : {begun was now : Machine} {before after : Option Line} → IsUnderway begun was before → IsFurther begun now after → Halts now false
    → ((t : ℕ) → ¬ IsEntry now.kernel.layout now.kernel.mote.flash.words t now.kernel.mote.cpu.pc) → IsUnderway begun now after
underway_by {begun} {was} {now} on further free none = record {
  law = on.law;
  few = on.few;
  midway = IsMidway.Going (not_over (state_of now) (awaits_none now free.0) free.1 none) further.rest;
  small = further.small;
}

-- .. so at a place that the cursor passes
pub none_at : (now : Machine) {c : Cursor} {pc : ℕ} → IsCursor now.kernel.layout now.kernel.mote.flash.words c → IsPassed c pc → pc ≡ now.kernel.mote.cpu.pc → (t : ℕ)
    → ¬ IsEntry now.kernel.layout now.kernel.mote.flash.words t now.kernel.mote.cpu.pc
none_at now {c} {pc} cursor passed at t = rw at at (none_passed now.kernel.layout now.kernel.mote.flash.words c pc cursor passed t)
