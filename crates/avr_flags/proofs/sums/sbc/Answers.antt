use Rattle.std.proofs.Common.{rules}
use Rattle.avr_flags.proofs.CarryLaws.{zero_kept_by_difference}
use Rattle.avr_flags.proofs.sums.sbc.Goals as goal

pub returns : goal.returns
returns c =
    record {
      outcome =
          rw (c.difference-value.ensures, c.carry.ensures, c.new.ensures, c.sreg.ensures) (zero_kept_by_difference c.args.sreg _ _ _ (search rules));
    }
