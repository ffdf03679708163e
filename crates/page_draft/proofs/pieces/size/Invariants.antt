use Rattle.std.proofs.Common.{◌≡◌, ◌+◌, ◌*◌, ◌≤◌, drop}
use Rattle.page_draft.specs.Standing.{size}
use Rattle.page_draft.proofs.pieces.size.Given as goal

-- the words so far and those behind are all
abbrev pub invariant-loop-piece : goal.invariant-loop-piece
invariant-loop-piece l = record {
  counted : l.words + size (drop l.piece-index l.pieces) ≡ size l.pieces;
  most : l.words ≤ 3 * l.piece-index;
}
