-- no event that was passed brings one
use Rattle.std.proofs.Common.{◌≡◌, drop}
use Rattle.mote_devices.specs.Waking.{first_call as first_call_of}
use Rattle.mote_devices.proofs.inputs.first_call.Given as goal

abbrev pub invariant-loop-index : goal.invariant-loop-index
invariant-loop-index l = first_call_of l.mask (drop l.index l.events) ≡ first_call_of l.mask (drop l.from l.events)
