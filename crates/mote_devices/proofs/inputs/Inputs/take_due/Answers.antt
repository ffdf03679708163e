use Rattle.std.proofs.Common.{ap, sym, ◌∙◌}
use Rattle.mote_devices.specs.Inputs.{at_poll}
use Rattle.mote_devices.proofs.PollLaws.{at_poll-with_first}
use Rattle.mote_devices.proofs.inputs.Inputs.take_due.Goals as goal

pub loop-self-preserved : goal.loop-self-preserved
loop-self-preserved c =
    ap (at_poll c.args.poll) c.take_next.ensures.value
    ∙ at_poll-with_first c.args.poll c.loop-self.self (sym c.is_due.ensures.value ∙ c.loop-self-test.true)
    ∙ c.loop-self.invariant
