use Rattle.theorem_reader.proofs.Waiting.{waits_for_a_turn_of_each}
use Rattle.theorem_reader.proofs.laws.a_program_waits_for_a_turn_of_each.Goals as goal

pub returns : goal.returns
returns c = record { waits = waits_for_a_turn_of_each }
