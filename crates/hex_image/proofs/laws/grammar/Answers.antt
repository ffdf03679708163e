use Rattle.hex_image.proofs.TextAgreement.{faulty_from, faulty_to, image_from, image_to}
use Rattle.hex_image.proofs.laws.grammar.Goals as goal

pub returns : goal.returns
returns c = record {
  image = λ text words position. (image_from text words position, image_to text words position);
  fault = λ text number fault. (faulty_from text number fault, faulty_to text number fault);
}
