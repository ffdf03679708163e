use Rattle.std.proofs.Common.{◌+◌, arith, inl, inr}
use Rattle.std.proofs.lemmas.Bool.{cases_lt}
use Rattle.flash_model.proofs.Renewing.{decoded_before, decoded_above}
use Rattle.flash_model.proofs.decode_cache.DecodeCache.renew_decoded.Goals as goal

pub renew_range-requires-clause-outside : goal.renew_range-requires-clause-outside
renew_range-requires-clause-outside c =
    decoded_before c.args.cells.now.words c.args.self.now.decoded.items c.args.from c.args.to _ _ c.requires.beside
    (λ a within out. elim (cases_lt (a + 1) c.args.from) [ inl below ↦ inl below | inr above ↦ inr (omega arith) ])

pub returns-then-from-count-clause-decoded : goal.returns-then-from-count-clause-decoded
returns-then-from-count-clause-decoded c = decoded_above c.args.cells.now.words c.args.self.now.decoded.items c.args.from c.args.to (omega arith) c.requires.beside
