use Rattle.step_laws.proofs.Joining.{joins}
use Rattle.step_laws.proofs.laws.walks_join.Goals as goal

pub returns : goal.returns
returns c = record { joins = joins }
