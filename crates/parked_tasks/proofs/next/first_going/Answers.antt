use Rattle.std.proofs.Common.{◌≡◌, ◌<◌, false, true, sym, ap, ◌∙◌, arith}
use Rattle.std.specs.Prelude.{is_some}
use Rattle.parked_tasks.specs.declared.task.Task.{Task}
use Rattle.parked_tasks.proofs.NextTasks.{first_here, first_later, first_none}
use Rattle.parked_tasks.proofs.next.first_going.Goals as goal

pub returns-then-is_none : goal.returns-then-is_none
returns-then-is_none c =
    let tasks = c.args.tasks.now in
    let x = c.index-tasks-task.result in
    let less : c.tasks.task < c.args.to = omega (arith, c.tasks-test.true) in
    let going : is_some x.end ≡ false = ap (λ (y : Task). is_some y.end) c.index-tasks-task.is ∙ c.if-is_none.ensures in
    record { first = sym (c.tasks.invariant.so_far ∙ first_here tasks c.tasks.task c.args.to x less c.requires.inside c.index-tasks-task.is going) }

pub tasks-preserved : goal.tasks-preserved
tasks-preserved c =
    let tasks = c.args.tasks.now in
    let x = c.index-tasks-task.result in
    let less : c.tasks.task < c.args.to = omega (arith, c.tasks-test.true) in
    let over : is_some x.end ≡ true = ap (λ (y : Task). is_some y.end) c.index-tasks-task.is ∙ c.if-is_none.ensures in
    record { so_far = c.tasks.invariant.so_far ∙ first_later tasks c.tasks.task c.args.to x less c.requires.inside c.index-tasks-task.is over }

pub returns : goal.returns
returns c = record { first = sym (c.tasks.invariant.so_far ∙ first_none c.args.tasks.now c.tasks.task c.args.to (omega (arith, c.tasks-test.false))) }
