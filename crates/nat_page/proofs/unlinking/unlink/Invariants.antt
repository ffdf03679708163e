use Rattle.std.proofs.Common.{◌≡◌, ◌+◌, ◌*◌, take}
use Rattle.page_draft.specs.Standing.{size}
use Rattle.nat_page.specs.Unlinking.{links_where, IsPatched}
use Rattle.nat_page.proofs.unlinking.unlink.Given as goal

-- the calls among the pieces so far
abbrev pub invariant-pieces : goal.invariant-pieces
invariant-pieces g l = record {
  reached : l.at ≡ 128 * l.page + size (take l.piece-index l.pieces);
  patched : IsPatched l.flash.words l.page l.patch (links_where l.flash.words (g.L.LinkTest.test l.links) (128 * l.page) (take l.piece-index l.pieces));
}
