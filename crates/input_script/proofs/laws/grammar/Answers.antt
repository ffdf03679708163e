use Rattle.input_script.proofs.LineAgreement.{statement_from, statement_to}
use Rattle.input_script.proofs.TextAgreement.{faulty_from, faulty_to, script_from, script_to}
use Rattle.input_script.proofs.laws.grammar.Goals as goal

pub returns : goal.returns
returns c = record {
  line = λ line statement. (statement_from line statement, statement_to line statement);
  text = λ text schedule. (script_from text schedule, script_to text schedule);
  fault = λ text number fault. (faulty_from text number fault, faulty_to text number fault);
}
