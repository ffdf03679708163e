use Rattle.std.proofs.Common.{◌≡◌, ◌-◌, ◌<◌, ◌≤◌, ◌^◌}
use Rattle.program_steps.specs.Wholes.{whole}
use Rattle.program_steps.specs.Machines.{Machine}
use Rattle.program_steps.specs.Loop.{IsUnderway, KeepsFlash, moves_made}
use Rattle.program_steps.proofs.moves.plain_steps.Given as goal

-- whichever step it is of, it is underway still
abbrev pub invariant-steps : goal.invariant-steps
invariant-steps l = record {
  pc : l.pc ≡ l.k.mote.cpu.pc;
  low : l.pc < 0xF000;
  keeps : KeepsFlash (whole l.fn.k l.fn.p) (whole l.k l.p);
  underway : (begun : Machine) → IsUnderway begun (whole l.fn.k l.fn.p) l.fn.p.line → IsUnderway begun (whole l.k l.p) l.p.line;
  steps : l.p.steps ≤ l.fn.p.steps;
  on : moves_made (whole l.fn.k l.fn.p) ≤ moves_made (whole l.k l.p);
}

abbrev pub decreases-steps : goal.decreases-steps
decreases-steps l = 2 ^ 62 - moves_made (whole l.k l.p)
