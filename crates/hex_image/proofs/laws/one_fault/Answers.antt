use Rattle.hex_image.proofs.LawLemmas.{same_fault}
use Rattle.hex_image.proofs.laws.one_fault.Goals as goal

pub returns : goal.returns
returns c = record { one = same_fault }
