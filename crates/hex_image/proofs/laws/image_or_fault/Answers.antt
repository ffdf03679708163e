use Rattle.hex_image.proofs.LawLemmas.{never_both, one_of_both}
use Rattle.hex_image.proofs.laws.image_or_fault.Goals as goal

pub returns : goal.returns
returns c = record { either = one_of_both; never_both = never_both }
