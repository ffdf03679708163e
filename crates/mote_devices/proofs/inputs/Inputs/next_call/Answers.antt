use Rattle.std.proofs.Common.{subst}
use Rattle.mote_devices.specs.Inputs.{Received}
use Rattle.mote_devices.specs.Waking.{Rising}
use Rattle.mote_devices.proofs.WakeLaws.{rising_behind}
use Rattle.mote_devices.proofs.inputs.Inputs.next_call.Goals as goal

pub returns-clause-rising : goal.returns-clause-rising
returns-clause-rising c =
    let i = c.self.inside in
    subst (λ (r : Received). Rising 0 r.coming) c.self.view_is (rising_behind i.taken i.script.events c.events.ensures.schedule.ordered)
