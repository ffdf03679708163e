use Rattle.std.proofs.Common.{◌≡◌, ◌-◌, ◌*◌, ◌≤◌}
use Rattle.std.specs.Prelude.{slice_index}
use Rattle.arrayvec.specs.ArrayVec.{array_vec_len}
use Rattle.tk_watch.specs.Rows.{rows}
use Rattle.tk_watch.specs.TraceText.{register_told}
use Rattle.tk_watch.proofs.trace.registers_text.Given as goal

abbrev pub invariant-registers : goal.invariant-registers
invariant-registers l = record {
  within : l.number ≤ 32;
  longer : array_vec_len l.text ≡ 5 * l.number;
  text : l.text.items ≡ rows (λ n. register_told (slice_index l.registers n)) l.number;
}

abbrev pub decreases-registers : goal.decreases-registers
decreases-registers l = 32 - l.number
