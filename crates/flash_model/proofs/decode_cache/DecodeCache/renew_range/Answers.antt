use Rattle.std.proofs.Common.{arith, refl, ap, length, ◌∙◌}
use Rattle.std.proofs.lemmas.List.{length-set}
use Rattle.flash_model.specs.Code.{decoded_at}
use Rattle.flash_model.proofs.Renewing.{decoded_step, decoded_all}
use Rattle.flash_model.proofs.decode_cache.DecodeCache.renew_range.Goals as goal

pub renew-init : goal.renew-init
renew-init c = record { size = refl; outside = c.requires.outside; micro_ops = refl }

pub renew-preserved : goal.renew-preserved
renew-preserved c =
    let words = c.args.cells.now.words in
    let old = c.renew.self.decoded.items in
    let a = c.renew.a in
    record {
      size = ap length c.renew_at.ensures.decoded ∙ length-set old a (decoded_at words a) ∙ c.renew.invariant.size;
      outside = decoded_step words old c.renew_at.new.self.decoded.items a c.args.to (omega (arith, c.requires.end, c.renew.invariant.size)) c.renew_at.ensures.decoded c.renew.invariant.outside;
      micro_ops = c.renew_at.ensures.micro_ops ∙ c.renew.invariant.micro_ops;
    }

pub returns : goal.returns
returns c = record { decoded = decoded_all c.args.cells.now.words c.renew.self.decoded.items c.renew.a c.args.to c.renew-test.false c.renew.invariant.outside; micro_ops = c.renew.invariant.micro_ops }
