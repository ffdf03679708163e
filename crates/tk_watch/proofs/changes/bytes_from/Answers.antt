use Rattle.std.proofs.Common.{arith}
use Rattle.heap_frames.specs.Memory.{vmem}
use Rattle.tk_watch.proofs.HeldNow.{now_next, size_next}
use Rattle.tk_watch.proofs.changes.bytes_from.Goals as goal

pub bytes-preserved : goal.bytes-preserved
bytes-preserved c =
    let memory = vmem c.args.mote.now.sram c.args.mote.now.swap in
    record {
      within = omega (arith, c.bytes-test.true);
      size = size_next c.bytes.bytes c.bytes.i c.memory_byte.result c.bytes.invariant.size;
      held = λ j below. now_next memory c.bytes.bytes 0 c.args.at c.bytes.i c.memory_byte.result (omega (arith, c.bytes.invariant.size, c.bytes-test.true, c.requires.few)) c.memory_byte.ensures.value
          (λ k above less. c.bytes.invariant.held k less) j (omega arith) below;
    }
