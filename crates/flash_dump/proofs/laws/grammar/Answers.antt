use Rattle.flash_dump.proofs.TextAgreement.{dump_from, dump_to, faulty_from, faulty_to}
use Rattle.flash_dump.proofs.laws.grammar.Goals as goal

pub returns : goal.returns
returns c = record {
  dump = λ text. (dump_from text, dump_to text);
  fault = λ text number fault. (faulty_from text number fault, faulty_to text number fault);
}
