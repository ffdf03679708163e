use Rattle.std.proofs.Common.{◌≡◌, ◌+◌, drop}
use Rattle.page_draft.specs.Standing.{size, Stands}
use Rattle.page_draft.specs.CodePages.{Anywhere}
use Rattle.pool_check.proofs.standing.stands.Given as goal

-- the pieces behind stand exactly where all do
abbrev pub invariant-loop-piece : goal.invariant-loop-piece
invariant-loop-piece l = record {
  counted : l.place + size (drop l.piece-index l.pieces) ≡ size l.pieces;
  onward : Stands Anywhere l.words 0 l.pieces → Stands Anywhere l.words l.place (drop l.piece-index l.pieces);
  back : Stands Anywhere l.words l.place (drop l.piece-index l.pieces) → Stands Anywhere l.words 0 l.pieces;
}
