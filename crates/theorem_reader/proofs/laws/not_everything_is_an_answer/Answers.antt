use Rattle.theorem_reader.proofs.RuledOut.{answers_agree, machines_agree, acts_are_none}
use Rattle.theorem_reader.proofs.laws.not_everything_is_an_answer.Goals as goal

pub returns : goal.returns
returns c = record { answers = answers_agree; machines = machines_agree; acts = acts_are_none }
