use Rattle.std.proofs.Common.{◌≡◌, ◌-◌, ◌<◌, ◌≤◌, ◌^◌}
use Rattle.std.specs.Prelude.{None}
use Rattle.kernel_entry.specs.declared.kernel.Kernel.{Kernel}
use Rattle.program_steps.specs.Walking.{kernel_with, progress_at, moves_by, IsAlong, CanGo, Underway}
use Rattle.program_steps.specs.Machines.{Machine}
use Rattle.program_steps.specs.Wholes.{whole}
use Rattle.program_steps.proofs.walk.fast_moves.Given as goal

-- the machine with what stands apart put back
abbrev pub invariant-fast : goal.invariant-fast
invariant-fast l = record {
  low : l.place < 0xF000;
  silent : l.p.line ≡ None;
  free : (l.p.owed ≡ None) × (l.p.end ≡ None);
  room : l.left ≤ l.fn.end;
  more : moves_by l.fn.p ≤ moves_by (progress_at l.p l.since (l.fn.end - l.left));
  along : (start : Machine) → (k : Kernel) → CanGo l.fn.ops l.fn.cpu l.fn.sram l.fn.p l.fn.cursor l.fn.end start k
      → IsAlong Underway l.fn.end start (whole (kernel_with k l.cpu l.sram l.sreg l.place) (progress_at l.p l.since (l.fn.end - l.left)));
}

abbrev pub decreases-fast : goal.decreases-fast
decreases-fast l = 2 ^ 62 - moves_by (progress_at l.p l.since (l.fn.end - l.left))
