use Rattle.std.proofs.Common.{◌≡◌, ◌-◌, ◌+◌, ◌<◌, ◌≤◌, ℕ, length}
use Rattle.std.specs.Prelude.{slice_index}
use Rattle.heap_frames.specs.Memory.{vmem}
use Rattle.tk_watch.proofs.changes.bytes_from.Given as goal

abbrev pub invariant-bytes : goal.invariant-bytes
invariant-bytes l = record {
  within : l.i ≤ l.count;
  size : length l.bytes ≡ 64;
  held : (j : ℕ) → j < l.i → slice_index l.bytes j ≡ slice_index (vmem l.mote.sram l.mote.swap) (l.at + j);
}

abbrev pub decreases-bytes : goal.decreases-bytes
decreases-bytes l = l.count - l.i
