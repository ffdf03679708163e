-- Taking the rest of the due events leads to the same; one event less is to come.
use Rattle.std.proofs.Common.{◌≡◌, length}
use Rattle.mote_devices.specs.Inputs.{at_poll}
use Rattle.mote_devices.proofs.inputs.Inputs.take_due.Given as goal

abbrev pub invariant-loop-self : goal.invariant-loop-self
invariant-loop-self l = at_poll l.poll l.self ≡ at_poll l.poll l.initial.self

abbrev pub decreases-loop-self : goal.decreases-loop-self
decreases-loop-self l = length l.self.coming
