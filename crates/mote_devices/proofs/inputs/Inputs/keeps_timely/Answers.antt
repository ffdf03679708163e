use Rattle.std.proofs.Common.{subst}
use Rattle.std.specs.Prelude.{All, ◌≤◌}
use Rattle.input_script.specs.declared.input.Event.{Event}
use Rattle.mote_devices.specs.Inputs.{Received}
use Rattle.mote_devices.proofs.WakeLaws.{timely_behind}
use Rattle.mote_devices.proofs.inputs.Inputs.keeps_timely.Goals as goal

pub returns : goal.returns
returns c =
    let i = c.self.inside in
    record { timely = subst (λ (r : Received). All (λ (event : Event). event.at ≤ 4294967295) r.coming) c.self.view_is (timely_behind i.taken i.script.events c.events.ensures.schedule.in_range) }
