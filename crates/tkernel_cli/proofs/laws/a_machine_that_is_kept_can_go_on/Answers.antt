use Rattle.tkernel_cli.proofs.GoingOn.{counts_are_exact, spent_stand_between}
use Rattle.tkernel_cli.proofs.laws.a_machine_that_is_kept_can_go_on.Goals as goal

pub returns : goal.returns
returns c = record { between = spent_stand_between; count = counts_are_exact }
