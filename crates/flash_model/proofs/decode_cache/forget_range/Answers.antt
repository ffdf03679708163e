use Rattle.std.proofs.Common.{refl, ◌∙◌}
use Rattle.flash_model.proofs.Renewing.{none_put}
use Rattle.flash_model.proofs.decode_cache.forget_range.Goals as goal

pub returns : goal.returns
returns c = record { micro_ops = c.put_micro_ops.ensures.put ∙ none_put c.args.micro_ops.now.items _ c.args.from c.args.to c.requires.order c.requires.few refl }
