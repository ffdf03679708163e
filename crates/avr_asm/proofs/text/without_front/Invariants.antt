use Rattle.std.proofs.Common.{◌≡◌, length}
use Rattle.avr_asm.specs.Cuts.{skip_front}
use Rattle.avr_asm.proofs.text.without_front.Given as goal

abbrev pub invariant-loop-rest : goal.invariant-loop-rest
invariant-loop-rest l = skip_front l.rest ≡ skip_front l.fn.text

abbrev pub decreases-loop-rest : goal.decreases-loop-rest
decreases-loop-rest l = length l.rest
