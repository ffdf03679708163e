use Rattle.std.proofs.Common.{◌≡◌, ◌-◌, ◌<◌, ◌≤◌, ◌^◌, false}
use Rattle.std.specs.Prelude.{None}
use Rattle.page_cursor.specs.Cursors.{IsCursor}
use Rattle.program_steps.specs.Walking.{IsAlong, Underway}
use Rattle.program_steps.specs.Machines.{Machine}
use Rattle.program_steps.specs.Wholes.{whole}
use Rattle.program_steps.specs.Loop.{Halts, moves_made}
use Rattle.program_steps.proofs.walk.walk.Given as goal

abbrev pub invariant-walk : goal.invariant-walk
invariant-walk l = record {
  pc : l.pc ≡ l.k.mote.cpu.pc;
  low : l.pc < 0xF000;
  silent : l.p.line ≡ None;
  few : l.p.steps ≤ l.fn.end;
  free : Halts (whole l.k l.p) false;
  along : (start : Machine) → IsAlong Underway l.fn.end start (whole l.fn.k l.fn.p) → IsAlong Underway l.fn.end start (whole l.k l.p);
  cursor : IsCursor l.k.layout l.k.mote.flash.words l.cursor;
}

abbrev pub decreases-walk : goal.decreases-walk
decreases-walk l = 2 ^ 62 - moves_made (whole l.k l.p)
