use Rattle.std.proofs.Common.{arith, refl}
use Rattle.flash_model.proofs.decode_cache.nothing_decoded.Goals as goal

pub returns-clause-none : goal.returns-clause-none
returns-clause-none c = λ a op within. c.in_ok-resize.ensures.by_index.1 a op refl (omega (arith, c.new-micro_ops.ensures.len)) within
