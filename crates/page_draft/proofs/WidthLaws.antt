-- How many words pieces have.
use Rattle.std.proofs.Common.{◌≤◌, List, [], ◌∷◌, length, arith}
use Rattle.nat_template.specs.declared.piece.Piece.{Piece}
use Rattle.nat_template.specs.declared.piece.Piece.TheVariants.{Fixed, Link}
use Rattle.page_draft.specs.Standing.{size}
use Rattle.page_draft.proofs.PieceLaws.{size-cons}

pub few_pieces : (pieces : List Piece) → length pieces ≤ size pieces
few_pieces [] = omega arith
few_pieces (Fixed word ∷ pieces) = omega (arith, few_pieces pieces, size-cons (Fixed word) pieces)
few_pieces (Link t ∷ pieces) = omega (arith, few_pieces pieces, size-cons (Link t) pieces)
