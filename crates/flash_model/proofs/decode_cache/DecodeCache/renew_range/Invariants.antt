use Rattle.std.proofs.Common.{◌≡◌, length}
use Rattle.flash_model.specs.DecodeCache.{AreDecodedOutside}
use Rattle.flash_model.proofs.decode_cache.DecodeCache.renew_range.Given as goal

-- what is decoded is right outside of the rest of the range
abbrev pub invariant-renew : goal.invariant-renew
invariant-renew l = record {
  size : length l.self.decoded.items ≡ length l.fn.self.decoded.items;
  outside : AreDecodedOutside l.cells.words l.self.decoded.items l.a l.to;
  micro_ops : l.self.micro_ops ≡ l.fn.self.micro_ops;
}
