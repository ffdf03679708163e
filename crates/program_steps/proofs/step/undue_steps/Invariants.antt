use Rattle.std.proofs.Common.{◌≡◌, ◌-◌}
use Rattle.std.specs.Prelude.{None}
use Rattle.page_cursor.specs.Cursors.{IsCursor}
use Rattle.program_steps.specs.Wholes.{whole}
use Rattle.program_steps.specs.Walking.{CanBegin}
use Rattle.program_steps.proofs.step.undue_steps.Given as goal

abbrev pub invariant-steps : goal.invariant-steps
invariant-steps l = record {
  pc : l.pc ≡ l.k.mote.cpu.pc;
  begins : CanBegin l.end (whole l.fn.k l.fn.p) (whole l.k l.p);
  silent : l.p.line ≡ None;
  cursor : IsCursor l.k.layout l.k.mote.flash.words l.cursor;
}

abbrev pub decreases-steps : goal.decreases-steps
decreases-steps l = l.end - l.p.steps
