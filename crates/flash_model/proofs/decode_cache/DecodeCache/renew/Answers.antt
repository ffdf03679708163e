use Rattle.std.proofs.Common.{arith, ap, length, ◌∙◌}
use Rattle.std.proofs.lemmas.List.{length-set}
use Rattle.flash_model.specs.declared.micro_ops.MicroOp.TheVariants.{Undecoded}
use Rattle.flash_model.proofs.Renewing.{forgotten_before, forgotten_range, micro_ops_stay}
use Rattle.flash_model.proofs.decode_cache.DecodeCache.renew.Goals as goal

pub forget_range-requires-clause-sized : goal.forget_range-requires-clause-sized
forget_range-requires-clause-sized c = ap length c.forget.ensures.micro_ops ∙ length-set c.args.self.now.micro_ops.items _ Undecoded ∙ c.requires.beside.micro_ops.sized

pub renew_decoded-requires-clause-beside : goal.renew_decoded-requires-clause-beside
renew_decoded-requires-clause-beside c = c.requires.beside.decoded

pub returns : goal.returns
returns c =
    let words = c.args.cells.now.words in
    let outside = forgotten_before words c.args.self.now.micro_ops.items _ c.args.from c.args.to _ c.requires.beside.micro_ops c.forget.ensures.micro_ops c.requires.from c.requires.end
    (omega arith) in
    let micro_ops = forgotten_range words _ _ c.args.from c.args.to (omega (arith, c.requires.order)) c.requires.end c.forget_range.ensures.micro_ops outside in
    record { cache = record { decoded = c.renew_decoded.ensures.decoded; micro_ops = micro_ops_stay words _ _ (ap (λ v. v.items) c.renew_decoded.ensures.micro_ops) micro_ops } }
