use Rattle.std.proofs.Common.{ap, inl, refl, subst}
use Rattle.tk_tasks.specs.Plays.{HasRunTasks}
use Rattle.tk_tasks.specs.States.{turns_of}
use Rattle.tk_tasks.proofs.InTurn.{begins_in_turn}
use Rattle.cli_words.specs.Stream.{Stream}
use Rattle.tkernel_cli.proofs.TasksEnds.{can_run, starts_at_boot, tasks_ended, tasks_cut, rose_of}
use Rattle.tkernel_cli.proofs.tasking.run_tasks.Goals.{in-Ok-run, in-Err-run}
use Rattle.tkernel_cli.proofs.tasking.run_tasks.Goals as goal

pub run-requires : goal.run-requires
run-requires g c =
    let request = c.args.request in
    let starts = starts_at_boot request c.in-Ok.tasks c.list.result.items c.requires.possible c.list.ensures.list c.in-Ok.ensures.booted c.in-Ok.ensures.turns c.in-Ok.ensures.sound in
    let can = can_run request c.in-Ok.tasks starts in
    record { sound = c.in-Ok.ensures.sound; whole = can.0; switches = can.1; going = can.2; steps = c.requires.possible.possible.4 }

pub returns : goal.returns
returns g c =
    let request = c.args.request in
    let starts = starts_at_boot request c.in-Ok.tasks c.list.result.items c.requires.possible c.list.ensures.list c.in-Ok.ensures.booted c.in-Ok.ensures.turns c.in-Ok.ensures.sound in
    let before : Stream = record { told = g.K.Sink.taken c.args.out.now; faults = g.K.Sink.faults c.args.out.now } in
    let mid : Stream = record { told = g.K.Sink.taken c.run.new.out; faults = g.K.Sink.faults c.run.new.out } in
    record {
      done = inl (record {
        tasks = c.run.new.self;
        kept = refl;
        none = refl;
        runs = elim c.match-run.branch [
          | in-Ok-run w ↦ rw (w.out-is, w.status-is)
              (tasks_ended request c.in-Ok.tasks c.run.new.self before mid _ w.tell_counts-status.result _ c.requires.possible starts
              (subst (λ r. HasRunTasks request.options.steps c.in-Ok.tasks c.run.new.self before.told mid.told r) w.in-Ok-run.is c.run.ensures.run)
              c.run.ensures.sound c.run.ensures.cause.later w.tell_counts-status.ensures.said)
          | in-Err-run w ↦ rw (w.out-is, w.status-is)
              (tasks_cut request c.in-Ok.tasks c.run.new.self before mid w.in-Err-run.field-0 starts
              (subst (λ r. HasRunTasks request.options.steps c.in-Ok.tasks c.run.new.self before.told mid.told r) w.in-Err-run.is c.run.ensures.run) c.run.ensures.sound
              (rose_of c.run.result w.in-Err-run.field-0 before.faults mid.faults w.in-Err-run.is c.run.ensures.cause.failed)
              (λ plays last path is. begins_in_turn g.K.Sink.taken request.options.steps c.in-Ok.tasks c.run.new.self last c.args.out.now c.run.new.out plays path
              (ap (turns_of request.options.steps) is) c.run.ensures.turns))
        ];
      });
    }
