use Rattle.std.proofs.Common.{◌+◌, ◌-◌, ◌*◌, ◌≡◌, ◌≤◌, ◌++◌}
use Rattle.std.specs.Prelude.{slice_index}
use Rattle.arrayvec.specs.ArrayVec.{array_vec_len}
use Rattle.heap_frames.specs.Memory.{vmem}
use Rattle.text_lines.specs.Pieces.{address_text}
use Rattle.tk_watch.specs.MemoryText.{byte_told, is_filled}
use Rattle.tk_watch.specs.Rows.{rows}
use Rattle.tk_watch.proofs.memory.row_line.Given as goal

abbrev pub invariant-bytes : goal.invariant-bytes
invariant-bytes l = record {
  within : l.i ≤ 16;
  text : l.text.items ≡ address_text l.at ++ rows (λ i. byte_told (slice_index (vmem l.mote.sram l.mote.swap) (l.at + i))) l.i;
  size : array_vec_len l.text ≡ 6 + 5 * l.i;
  filled : l.filled ≡ is_filled (λ i. slice_index (vmem l.mote.sram l.mote.swap) (l.at + i)) l.i;
}

abbrev pub decreases-bytes : goal.decreases-bytes
decreases-bytes l = 16 - l.i
