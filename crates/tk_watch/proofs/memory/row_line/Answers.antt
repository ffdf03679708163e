use Rattle.std.proofs.Common.{◌≡◌, ℕ, ◌+◌, ◌++◌, codes, length, sym, ap, ◌∙◌, append_assoc, arith}
use Rattle.std.specs.Prelude.{slice_index}
use Rattle.heap_frames.specs.Memory.{vmem}
use Rattle.text_lines.specs.Pieces.{address_text, byte_text}
use Rattle.tk_watch.specs.MemoryText.{byte_told}
use Rattle.tk_watch.proofs.HeldBytes.{filled_next, none_filled, row_blank, row_told}
use Rattle.tk_watch.proofs.Rows.{row_begins, row_goes_on}
use Rattle.tk_watch.proofs.memory.row_line.Goals as goal

pub bytes-init : goal.bytes-init
bytes-init c =
    let byte : ℕ → ℕ = λ i. slice_index (vmem c.args.mote.now.sram c.args.mote.now.swap) (c.args.at + i) in
    record {
      within = omega arith;
      text = row_begins (λ i. byte_told (byte i)) (address_text c.args.at) c.push_address.new.text.items (c.push_address.ensures.text ∙ ap (λ z. z ++ address_text c.args.at) c.new-text.ensures);
      size = omega (arith, c.push_address.ensures.longer, ap length c.new-text.ensures);
      filled = none_filled byte;
    }

pub bytes-preserved : goal.bytes-preserved
bytes-preserved c =
    let byte : ℕ → ℕ = λ i. slice_index (vmem c.args.mote.now.sram c.args.mote.now.swap) (c.args.at + i) in
    let i = c.bytes.i in
    let value : c.memory_byte-byte.result ≡ byte i = c.memory_byte-byte.ensures.value in
    let added = c.push_byte.ensures.text ∙ ap (λ z. z ++ byte_text c.memory_byte-byte.result) c.push.ensures.text ∙ append_assoc c.bytes.text.items (codes " ") (byte_text c.memory_byte-byte.result) in
    record {
      within = omega (arith, c.bytes-test.true);
      text = row_goes_on (λ k. byte_told (byte k)) i (address_text c.args.at) c.bytes.text.items c.push_byte.new.text.items (byte_told c.memory_byte-byte.result) c.bytes.invariant.text added
          (ap byte_told value);
      size = omega (arith, c.bytes.invariant.size, c.push.ensures.longer, c.push_byte.ensures.longer);
      filled = filled_next byte i c.memory_byte-byte.result c.bytes.filled c.bytes.invariant.filled value;
    }

pub returns-then-filled : goal.returns-then-filled
returns-then-filled c =
    let all : c.bytes.i ≡ 16 = omega (arith, c.bytes-test.false, c.bytes.invariant.within) in
    record {
      text = row_told (vmem c.args.mote.now.sram c.args.mote.now.swap) c.bytes.text.items c.push-2.new.text.items c.args.at c.bytes.i all
          (sym c.if-filled.true ∙ c.bytes.invariant.filled) c.bytes.invariant.text c.push-2.ensures.text;
    }

pub returns-else-filled : goal.returns-else-filled
returns-else-filled c =
    let all : c.bytes.i ≡ 16 = omega (arith, c.bytes-test.false, c.bytes.invariant.within) in
    record { text = row_blank (vmem c.args.mote.now.sram c.args.mote.now.swap) c.args.at c.bytes.i all (sym c.if-filled.false ∙ c.bytes.invariant.filled) }
