use Rattle.std.proofs.Common.{◌++◌, ℕ, List, [], codes, length, refl, ap, ◌∙◌, append_assoc, arith}
use Rattle.std.specs.Prelude.{slice_index}
use Rattle.text_lines.specs.Pieces.{byte_text}
use Rattle.tk_watch.specs.TraceText.{register_told}
use Rattle.tk_watch.proofs.Rows.{row_begins, row_goes_on}
use Rattle.tk_watch.proofs.trace.registers_text.Goals as goal

pub registers-init : goal.registers-init
registers-init c = record {
  within = omega arith;
  longer = omega (arith, ap length c.new-text.ensures);
  text = row_begins (λ n. register_told (slice_index c.args.registers.now n)) [] c.new-text.result.items c.new-text.ensures;
}

pub registers-preserved : goal.registers-preserved
registers-preserved c =
    let row : ℕ → List ℕ = λ n. register_told (slice_index c.args.registers.now n) in
    let both = c.push_byte.ensures.text ∙ ap (λ t. t ++ byte_text (slice_index c.args.registers.now c.registers.number)) c.push.ensures.text
    ∙ append_assoc c.registers.text.items (codes " ") (byte_text (slice_index c.args.registers.now c.registers.number)) in
    record {
      within = omega (arith, c.registers-test.true);
      longer = omega (arith, c.push.ensures.longer, c.push_byte.ensures.longer, c.registers.invariant.longer);
      text = row_goes_on row c.registers.number [] c.registers.text.items c.push_byte.new.text.items (row (c.registers.number)) c.registers.invariant.text both refl;
    }
