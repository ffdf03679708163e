use Rattle.std.proofs.Common.{◌≡◌, ap, ◌∙◌, Some}
use Rattle.std.specs.Prelude.{slice_get}
use Rattle.parked_tasks.specs.Parking.{taken_up}
use Rattle.parked_tasks.specs.Handing.{parked_by}
use Rattle.parked_tasks.proofs.TaskLists.{handed, was_parked, same_parked}
use Rattle.parked_tasks.proofs.handing.hand_over.Goals as goal

pub returns-in-Some : goal.returns-in-Some
returns-in-Some c =
    let tasks = c.args.tasks.now in
    let was : parked_by (slice_get tasks c.args.next) ≡ Some c.in-Some.parked = was_parked tasks c.args.next c.index-tasks-next.result c.requires.below c.in-Some.ensures.value in
    record {
      none = λ no. absurd (cc);
      given = λ parked has. (
        c.exchange.ensures.taken ∙ ap (taken_up c.args.mote.now) (same_parked _ c.in-Some.parked parked was has),
        handed tasks c.args.running c.args.next c.index-tasks-next.result c.index-tasks-running.result c.take.new.self c.exchange.new.self c.args.mote.now
            c.requires.below c.requires.one_runs c.in-Some.ensures.after c.exchange.ensures.parked,
      );
    }
