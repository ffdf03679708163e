use Rattle.std.proofs.Common.{◌≡◌, map, take}
use Rattle.nat_template.specs.declared.piece.Piece.TheVariants.{Fixed}
use Rattle.nat_template.proofs.templates.with_pc.Given as goal

abbrev pub invariant-loop-word : goal.invariant-loop-word
invariant-loop-word l = l.pieces.items ≡ map (λ word. Fixed word) (take l.word-index l.words)
