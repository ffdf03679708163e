use Rattle.std.proofs.Common.{ap}
use Rattle.flash_model.proofs.Renewing.{decoded_none, no_micro_op, micro_ops_stay}
use Rattle.flash_model.proofs.decode_cache.DecodeCache.new.Goals as goal

pub renew_range-requires-clause-outside : goal.renew_range-requires-clause-outside
renew_range-requires-clause-outside c = decoded_none c.args.cells.now.words _ c.args.count c.in_ok-zeros_decoded.ensures.size c.requires.count

pub returns : goal.returns
returns c =
    let words = c.args.cells.now.words in
    record {
      cache = record {
        decoded = c.renew_range.ensures.decoded;
        micro_ops = micro_ops_stay words _ _ (ap (λ v. v.items) c.renew_range.ensures.micro_ops) (no_micro_op words _ c.in_ok-nothing_decoded.ensures.size c.in_ok-nothing_decoded.ensures.none);
      };
    }
