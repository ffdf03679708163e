use Rattle.hex_image.proofs.LawLemmas.{answered, refused}
use Rattle.hex_image.proofs.text.read.Goals as goal

pub returns-clause-only : goal.returns-clause-only
returns-clause-only c = λ words position is. answered _ words position _ c.read_image.ensures.answer is

pub returns-clause-bad_only : goal.returns-clause-bad_only
returns-clause-bad_only c = λ line fault is. refused _ line fault _ c.read_image.ensures.answer is
