use Rattle.std.proofs.Common.{◌≡◌, ◌+◌, length, drop}
use Rattle.avr_asm.specs.Cuts.{front_word}
use Rattle.avr_asm.proofs.text.word_len.Given as goal

abbrev pub invariant-loop-i : goal.invariant-loop-i
invariant-loop-i l = l.i + length (front_word (drop l.i l.text)) ≡ length (front_word l.text)
