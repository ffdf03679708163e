use Rattle.std.proofs.Common.{◌≡◌, ◌-◌, ◌≤◌, ◌^◌, false}
use Rattle.page_cursor.specs.Cursors.{IsCursor}
use Rattle.program_steps.specs.Walking.{IsPartway}
use Rattle.program_steps.specs.Machines.{Machine}
use Rattle.program_steps.specs.Wholes.{whole}
use Rattle.program_steps.specs.Loop.{KeepsFlash, Halts, moves_made, IsFurther}
use Rattle.program_steps.proofs.walk.rest_moves.Given as goal

-- the moves that are left, whichever the law gives
abbrev pub invariant-moves : goal.invariant-moves
invariant-moves l = record {
  pc : l.pc ≡ l.k.mote.cpu.pc;
  keeps : KeepsFlash (whole l.fn.k l.fn.p) (whole l.k l.p);
  cursor : IsCursor l.k.layout l.k.mote.flash.words l.cursor;
  free : Halts (whole l.k l.p) false;
  more : moves_made (whole l.fn.k l.fn.p) ≤ moves_made (whole l.k l.p);
  steps : l.p.steps ≤ l.fn.p.steps;
  further : (begun : Machine) → IsPartway begun (whole l.fn.k l.fn.p) l.fn.p.line → IsFurther begun (whole l.k l.p) l.p.line;
}

abbrev pub decreases-moves : goal.decreases-moves
decreases-moves l = 2 ^ 62 - moves_made (whole l.k l.p)
