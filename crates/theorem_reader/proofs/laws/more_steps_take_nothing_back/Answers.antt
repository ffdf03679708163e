use Rattle.theorem_reader.proofs.Longer.{lines_stay, ends_stay}
use Rattle.theorem_reader.proofs.laws.more_steps_take_nothing_back.Goals as goal

pub returns : goal.returns
returns c = record { lines = lines_stay; ends = ends_stay }
