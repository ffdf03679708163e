use Rattle.std.proofs.Common.{subst}
use Rattle.std.specs.Prelude.{IfSome}
use Rattle.mem_guard.specs.AtHand.{LoadsAtHand}
use Rattle.kernel_entry.proofs.at_once.load_register.Goals as goal

pub returns-in-Some-clause-loaded : goal.returns-in-Some-clause-loaded
returns-in-Some-clause-loaded c =
    λ yes. record {
      byte = c.in-Some.byte;
      hit = subst (λ r. IfSome r (λ byte. LoadsAtHand c.args.k.now.mote.sram c.args.a byte)) c.in-Some.is c.load_at_hand.ensures.hit;
      after = c.keep_byte.ensures.after;
    }
