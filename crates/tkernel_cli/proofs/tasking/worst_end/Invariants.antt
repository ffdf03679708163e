use Rattle.std.proofs.Common.{◌≡◌, length}
use Rattle.cli_words.specs.declared.status.Status.TheVariants.{Done}
use Rattle.tkernel_cli.specs.TasksRuns.{worst}
use Rattle.tkernel_cli.proofs.tasking.worst_end.Given as goal

-- the rest makes of the worst so far what all make
abbrev pub invariant-tasks : goal.invariant-tasks
invariant-tasks l = worst l.status l.rest ≡ worst Done l.fn.tasks

abbrev pub decreases-tasks : goal.decreases-tasks
decreases-tasks l = length l.rest
