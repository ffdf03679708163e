-- no byte was passed over
use Rattle.std.proofs.Common.{◌≡◌}
use Rattle.mote_devices.specs.Queue.{bytes_between}
use Rattle.mote_devices.proofs.inputs.next_byte.Given as goal

abbrev pub invariant-loop-index : goal.invariant-loop-index
invariant-loop-index l = bytes_between l.events l.from l.to ≡ bytes_between l.events l.index l.to
