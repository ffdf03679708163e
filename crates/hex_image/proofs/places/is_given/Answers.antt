use Rattle.std.proofs.Common.{rules}
use Rattle.hex_image.proofs.places.is_given.Goals as goal

pub returns-in_default : goal.returns-in_default
returns-in_default c = search rules
