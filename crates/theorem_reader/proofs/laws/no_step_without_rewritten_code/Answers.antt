use Rattle.theorem_reader.proofs.OwnSteps.{are_done_by_code}
use Rattle.theorem_reader.proofs.WorkedActs.{done_by_code, done_by_code_again}
use Rattle.theorem_reader.proofs.laws.no_step_without_rewritten_code.Goals as goal

pub returns : goal.returns
returns c = record { done = done_by_code; again = done_by_code_again; tasks = are_done_by_code }
