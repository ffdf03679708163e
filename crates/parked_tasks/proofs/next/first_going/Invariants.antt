use Rattle.std.proofs.Common.{◌≡◌, ◌-◌, not, map}
use Rattle.std.specs.List.{range_with_len, find}
use Rattle.task_turns.specs.Turns.{has_ended}
use Rattle.parked_tasks.specs.Ends.{flat_end_of}
use Rattle.parked_tasks.proofs.next.first_going.Given as goal

-- the first is the first of those that are left
abbrev pub invariant-tasks : goal.invariant-tasks
invariant-tasks l = record {
  so_far : find (λ task. not (has_ended (map (λ task. flat_end_of task.end) l.tasks) task)) (range_with_len l.fn.from (l.to - l.fn.from))
      ≡ find (λ task. not (has_ended (map (λ task. flat_end_of task.end) l.tasks) task)) (range_with_len l.task (l.to - l.task));
}
