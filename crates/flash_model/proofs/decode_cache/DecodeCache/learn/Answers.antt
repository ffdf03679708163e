use Rattle.flash_model.proofs.Renewing.{told_words}
use Rattle.flash_model.proofs.decode_cache.DecodeCache.learn.Goals as goal

pub returns : goal.returns
returns c =
    let old = c.args.self.now.micro_ops.items in
    let told = c.args.micro_ops.now in
    let micro_ops = told_words c.args.cells.now.words old told _ c.args.first c.type_inv.micro_ops c.requires.first c.requires.stand c.put_micro_ops.ensures.put c.requires.cache.micro_ops in
    record { cache = record { decoded = c.requires.cache.decoded; micro_ops = micro_ops } }
