use Rattle.std.proofs.Common.{◌≡◌, length}
use Rattle.std.specs.Prelude.{map}
use Rattle.avr_asm.specs.Cuts.{found_in}
use Rattle.avr_asm.proofs.text.found_in.Given as goal

abbrev pub invariant-loop-rest : goal.invariant-loop-rest
invariant-loop-rest g l = found_in (map (λ row. (row.0.now, row.1)) l.rest) l.fn.text ≡ found_in (map (λ row. (row.0.now, row.1)) l.fn.rows) l.fn.text

abbrev pub decreases-loop-rest : goal.decreases-loop-rest
decreases-loop-rest g l = length l.rest
