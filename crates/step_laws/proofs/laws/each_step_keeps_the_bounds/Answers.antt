use Rattle.step_laws.proofs.BoundLaws.{keep_bounds, end_bounds}
use Rattle.step_laws.proofs.laws.each_step_keeps_the_bounds.Goals as goal

-- src/laws.rt:27:1
pub returns-clause-goes : goal.returns-clause-goes
returns-clause-goes c = keep_bounds

-- src/laws.rt:27:1
pub returns-clause-stops : goal.returns-clause-stops
returns-clause-stops c = end_bounds
