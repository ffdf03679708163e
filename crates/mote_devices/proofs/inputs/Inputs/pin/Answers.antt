use Rattle.std.proofs.Common.{arith, sym, ap, ◌∙◌, slice_index}
use Rattle.std.proofs.lemmas.List.{get_or_past}
use Rattle.mote_devices.specs.Inputs.{Received}
use Rattle.mote_devices.proofs.inputs.Inputs.pin.Goals as goal

pub returns-else-port-lt-PORTS : goal.returns-else-port-lt-PORTS
returns-else-port-lt-PORTS c = record {
  value = sym (get_or_past c.self.inside.pins c.args.port 0 (omega arith)) ∙ ap (λ (r : Received). slice_index r.pins c.args.port) c.self.view_is;
}
