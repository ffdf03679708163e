use Rattle.hex_image.proofs.LawLemmas.{same_image}
use Rattle.hex_image.proofs.laws.one_image.Goals as goal

pub returns : goal.returns
returns c = record { one = same_image }
