use Rattle.std.proofs.Common.{rules}
use Rattle.mote_devices.specs.Inputs.{unreceived}
use Rattle.base.specs.Lists.{many}
use Rattle.mote_devices.specs.Queue.{bytes_between}
use Rattle.mote_devices.proofs.inputs.Inputs.new.Goals as goal

pub returns : goal.returns
unfolding unreceived many bytes_between
returns c = search rules
