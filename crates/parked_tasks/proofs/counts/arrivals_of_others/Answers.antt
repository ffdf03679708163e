use Rattle.std.proofs.Common.{◌≡◌, ◌+◌, ◌^◌, ap, arith}
use Rattle.std.specs.Prelude.{sum_by}
use Rattle.parked_tasks.specs.Counting.{arrivals_made}
use Rattle.parked_tasks.proofs.Sums.{to_next, to_most, sum_has}
use Rattle.parked_tasks.proofs.Arrivals.{arrivals_few, all_here}
use Rattle.parked_tasks.proofs.counts.arrivals_of_others.Goals as goal
use Rattle.parked_tasks.proofs.TaskLists.{is_at, get_at}

pub overflow_add-sum : goal.overflow_add-sum
overflow_add-sum c =
    let tasks = c.args.tasks.now in
    let x = c.index-tasks-i.result in
    let here = get_at tasks c.tasks.i x (omega (arith, c.tasks-test.true)) c.index-tasks-i.is in
    let few = arrivals_few tasks c.requires.steps in
    let so_far = to_most arrivals_made c.tasks.i tasks (10 ^ 12 + 1) few in
    omega (arith, c.tasks.invariant, so_far, few c.tasks.i x here, c.arrivals-sum.ensures.value, c.tasks-test.true, c.requires.few)

pub tasks-preserved : goal.tasks-preserved
tasks-preserved c =
    let tasks = c.args.tasks.now in
    let x = c.index-tasks-i.result in
    let here = get_at tasks c.tasks.i x (omega (arith, c.tasks-test.true)) c.index-tasks-i.is in
    omega (arith, c.tasks.invariant, to_next arrivals_made c.tasks.i tasks x here, c.arrivals-sum.ensures.value)

pub arrivals-requires : goal.arrivals-requires
arrivals-requires c =
    let x = c.index-tasks-running.result in
    record { steps = c.requires.steps c.args.running x (get_at c.args.tasks.now c.args.running x c.requires.one_runs c.index-tasks-running.is) }

pub overflow_sub-result : goal.overflow_sub-result
overflow_sub-result c =
    let tasks = c.args.tasks.now in
    let x = c.index-tasks-running.result in
    let here = get_at tasks c.args.running x c.requires.one_runs c.index-tasks-running.is in
    let all : c.tasks.sum ≡ sum_by arrivals_made tasks = all_here tasks c.tasks.i c.tasks.sum c.tasks.invariant (omega (arith, c.tasks-test.false, c.tasks.auto)) in
    omega (arith, all, c.arrivals.ensures.value, sum_has arrivals_made tasks c.args.running x here)

pub returns : goal.returns
returns c =
    let tasks = c.args.tasks.now in
    let x = c.index-tasks-running.result in
    let all : c.tasks.sum ≡ sum_by arrivals_made tasks = all_here tasks c.tasks.i c.tasks.sum c.tasks.invariant (omega (arith, c.tasks-test.false, c.tasks.auto)) in
    record {
      value = λ task there.
          let its = is_at tasks c.args.running x task c.index-tasks-running.is there in
          omega (arith, all, c.arrivals.ensures.value, ap arrivals_made its);
    }
