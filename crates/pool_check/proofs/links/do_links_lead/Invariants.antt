use Rattle.std.proofs.Common.{◌≡◌, ◌+◌, drop}
use Rattle.page_draft.specs.Standing.{size}
use Rattle.nat_page.specs.Links.{EachLink}
use Rattle.pool_check.specs.Links.{IsRightLink}
use Rattle.pool_check.proofs.links.do_links_lead.Given as goal

abbrev pub invariant-loop-piece : goal.invariant-loop-piece
invariant-loop-piece l = record {
  counted : l.place + size (drop l.piece-index l.pieces) ≡ l.base + size l.pieces;
  onward : EachLink (IsRightLink l.layout l.flash.words) l.base l.pieces → EachLink (IsRightLink l.layout l.flash.words) l.place (drop l.piece-index l.pieces);
  back : EachLink (IsRightLink l.layout l.flash.words) l.place (drop l.piece-index l.pieces) → EachLink (IsRightLink l.layout l.flash.words) l.base l.pieces;
}
