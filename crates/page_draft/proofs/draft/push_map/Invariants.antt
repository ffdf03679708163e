use Rattle.std.proofs.Common.{◌≡◌, ◌+◌, ◌++◌, take, map}
use Rattle.nat_template.specs.declared.piece.Piece.TheVariants.{Fixed}
use Rattle.page_draft.proofs.draft.push_map.Given as goal

-- the map's words of the entries so far
abbrev pub invariant-loop-entry : goal.invariant-loop-entry
invariant-loop-entry l = l.pieces.items ≡ l.fn.pieces.items ++ map (λ entry. Fixed (entry + l.more)) (take l.entry-index l.entries)
