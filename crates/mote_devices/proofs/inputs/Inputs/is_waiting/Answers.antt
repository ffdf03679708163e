use Rattle.std.proofs.Common.{ap, sym, ◌∙◌}
use Rattle.mote_devices.proofs.QueueLaws.{bytes_between-none, received_of}
use Rattle.mote_devices.proofs.inputs.Inputs.is_waiting.Goals as goal

pub returns-in-None-clause-same : goal.returns-in-None-clause-same
returns-in-None-clause-same c =
    let i = c.self.inside in
    ap (λ bytes. record (received_of i) { queue = bytes }) (bytes_between-none i.script.events i.taken ∙ sym (rw c.events.ensures.value at c.in-None.ensures.cases))
    ∙ c.self.view_is
