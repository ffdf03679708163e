use Rattle.std.proofs.Common.{ap, sym, ◌∙◌, drop}
use Rattle.mote_devices.specs.Inputs.{Received}
use Rattle.mote_devices.proofs.QueueLaws.{bytes_between-none, received_of}
use Rattle.mote_devices.proofs.inputs.Inputs.take_byte.Goals as goal

-- no byte waits, so that none is taken
pub returns-in-None-clause-taken : goal.returns-in-None-clause-taken
returns-in-None-clause-taken c =
    let i = c.self.inside in
    let empty = rw c.events.ensures.value at c.in-None.ensures.cases in
    ap (λ bytes. record (received_of i) { queue = bytes }) (bytes_between-none i.script.events i.taken ∙ sym (ap (λ bytes. drop 1 bytes) empty))
    ∙ ap (λ (s : Received). record s { queue = drop 1 s.queue }) c.self.view_is
