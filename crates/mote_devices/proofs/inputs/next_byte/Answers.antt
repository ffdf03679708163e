use Rattle.std.proofs.Common.{arith, ap, ◌∙◌}
use Rattle.mote_devices.specs.Queue.{bytes_between}
use Rattle.mote_devices.proofs.QueueLaws.{bytes_between-none, passed, found}
use Rattle.mote_devices.proofs.inputs.next_byte.Goals as goal

pub returns-in-Uart : goal.returns-in-Uart
returns-in-Uart c = record {
  cases = record {
    above = c.loop-index.auto.index;
    below = c.loop-index-test.true;
    skipped = c.loop-index.invariant;
    first = found c.args.events.now c.loop-index.index c.args.to _ c.in-Uart.byte c.loop-index-test.true c.requires.within c.in-Uart.is;
  };
}

pub loop-index-preserved : goal.loop-index-preserved
loop-index-preserved c = c.loop-index.invariant ∙ passed c.args.events.now c.loop-index.index c.args.to _ c.loop-index-test.true c.requires.within c.in_default.not-Uart

pub returns : goal.returns
returns c =
    record {
      cases = c.loop-index.invariant ∙ ap (λ index. bytes_between c.args.events.now index c.args.to) (omega arith) ∙ bytes_between-none c.args.events.now c.args.to;
    }
