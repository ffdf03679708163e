-- How many words pieces have.
use Rattle.std.proofs.Common.{◌≡◌, ℕ, ◌+◌, ◌<◌, List, ◌∷◌, length, get_or, drop, ap, ◌∙◌}
use Rattle.std.proofs.lemmas.List.{drop_more}
use Rattle.nat_template.specs.declared.piece.Piece.{Piece}
use Rattle.page_draft.specs.Standing.{size, width}
use Rattle.page_draft.proofs.PieceLaws.{size-cons}

-- the pieces from one on
pub size_more : (pieces : List Piece) (i : ℕ) (piece : Piece) → i < length pieces → get_or pieces i piece ≡ piece → size (drop i pieces) ≡ width piece + size (drop (i + 1) pieces)
size_more pieces i piece below is =
    ap size (drop_more pieces i piece below ∙ ap (λ p. p ∷ drop (i + 1) pieces) is) ∙ size-cons piece (drop (i + 1) pieces)
