use Rattle.std.proofs.Common.{◌∙◌, refl, bit_xor}
use Rattle.std.proofs.lemmas.Nat.{and_mask}
use Rattle.avr_flags.specs.Pairs.{pair_result_of}
use Rattle.avr_flags.proofs.PairLaws.{high_carry, carry_out}
use Rattle.avr_flags.proofs.pairs.outcome.Goals as goal

pub returns : goal.returns
unfolding pair_result_of
returns c =
    let x = bit_xor c.args.d c.args.wide in
    let told = rw (c.new.ensures, c.summary.ensures.zero, c.summary.ensures.top, c.from.ensures, and_mask _ 9, and_mask _ 16, high_carry x, carry_out x) at c.with_top_carries-status.ensures in
    rw (c.sreg.ensures ∙ told, and_mask _ 16) refl
