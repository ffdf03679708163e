use Rattle.std.proofs.Common.{◌≡◌, length, ap, ◌∙◌, ◌^◌, arith}
use Rattle.parked_tasks.specs.declared.task.Task.{Task}
use Rattle.parked_tasks.specs.Counting.{sum_to}
use Rattle.parked_tasks.proofs.Sums.{to_next, to_all, to_most}
use Rattle.parked_tasks.proofs.TaskLists.{get_at}
use Rattle.parked_tasks.proofs.counts.counts_of.Goals as goal

pub overflow_add-natural : goal.overflow_add-natural
overflow_add-natural c =
    let tasks = c.args.tasks.now in
    let x = c.index-tasks-i.result in
    let here = get_at tasks c.tasks.i x (omega (arith, c.tasks-test.true)) c.index-tasks-i.is in
    omega (
      arith,
      c.tasks.invariant.0,
      to_most (λ (task : Task). task.natural) c.tasks.i tasks (10 ^ 14) c.requires.natural,
      c.requires.natural c.tasks.i x here,
      c.tasks-test.true,
      c.requires.few,
      ap (λ (z : Task). z.natural) c.index-tasks-i.is,
    )

pub overflow_add-entries : goal.overflow_add-entries
overflow_add-entries c =
    let tasks = c.args.tasks.now in
    let x = c.index-tasks-i-in-tasks.result in
    let here = get_at tasks c.tasks.i x (omega (arith, c.tasks-test.true)) c.index-tasks-i-in-tasks.is in
    omega (
      arith,
      c.tasks.invariant.1,
      to_most (λ (task : Task). task.entries) c.tasks.i tasks (10 ^ 14) c.requires.entries,
      c.requires.entries c.tasks.i x here,
      c.tasks-test.true,
      c.requires.few,
      ap (λ (z : Task). z.entries) c.index-tasks-i-in-tasks.is,
    )

pub tasks-preserved : goal.tasks-preserved
tasks-preserved c =
    let tasks = c.args.tasks.now in
    let x = c.index-tasks-i.result in
    let y = c.index-tasks-i-in-tasks.result in
    let here = get_at tasks c.tasks.i x (omega (arith, c.tasks-test.true)) c.index-tasks-i.is in
    let there = get_at tasks c.tasks.i y (omega (arith, c.tasks-test.true)) c.index-tasks-i-in-tasks.is in (
      omega (arith, c.tasks.invariant.0, to_next (λ (task : Task). task.natural) c.tasks.i tasks x here, ap (λ (z : Task). z.natural) c.index-tasks-i.is),
      omega (arith, c.tasks.invariant.1, to_next (λ (task : Task). task.entries) c.tasks.i tasks y there, ap (λ (z : Task). z.entries) c.index-tasks-i-in-tasks.is),
    )

pub returns : goal.returns
returns c =
    let tasks = c.args.tasks.now in
    let all : c.tasks.i ≡ length tasks = omega (arith, c.tasks-test.false, c.tasks.auto) in
    record {
      natural = c.tasks.invariant.0 ∙ ap (λ j. sum_to (λ (task : Task). task.natural) j tasks) all ∙ to_all (λ (task : Task). task.natural) tasks;
      entries = c.tasks.invariant.1 ∙ ap (λ j. sum_to (λ (task : Task). task.entries) j tasks) all ∙ to_all (λ (task : Task). task.entries) tasks;
    }
