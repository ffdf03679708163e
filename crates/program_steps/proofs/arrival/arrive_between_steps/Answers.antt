use Rattle.std.proofs.Common.{◌≡◌, None, sym, ap, ◌∙◌, subst}
use Rattle.program_steps.specs.declared.progress.Progress.{Progress}
use Rattle.program_steps.specs.Stepping.{HasEntered}
use Rattle.program_steps.specs.Wholes.{whole}
use Rattle.step_laws.specs.States.{admits}
use Rattle.program_steps.proofs.Arrived.{owed_at}
use Rattle.program_steps.proofs.Entered.{entered_some, undue_none}
use Rattle.program_steps.proofs.Laws.{faithful_going, tables_going}
use Rattle.program_steps.proofs.Undue.{owes_going, owed_alone}
use Rattle.program_steps.proofs.arrival.arrive_between_steps.Goals as goal

pub arrive_known-made-requires : goal.arrive_known-made-requires
arrive_known-made-requires c =
    let m = whole c.args.k.now c.args.p.now in
    let ready = c.requires.going (owes_going m.end m.owed c.in-Some.owed c.requires.ended c.in-Some.is) in
    record {
      owed = owed_alone m.owed c.in-Some.owed c.in-Some.is (sym c.is_some.ensures ∙ c.if-is_some.false);
      going = ready.going;
      untorn = ready.untorn;
      untaken = undue_none m c.if-p.false;
      admitted = ap (admits m.kernel.part) (owed_at c.in-Some.owed ready c.in-Some.is) ∙ sym c.may_enter.ensures.value ∙ c.if-not-may_enter.false;
      right = ready.order.right;
      faithful = faithful_going ready;
      tables = tables_going ready;
      ring = ready.order.ring;
      cursor = c.requires.cursor;
    }

pub returns-clause-followed : goal.returns-clause-followed
returns-clause-followed c = λ made.
    let m = whole c.args.k.now c.args.p.now in
    let z = whole c.arrive_known-made.new.k c.arrive_known-made.new.p in
    let told = c.arrive_known-made.ensures in
    let ready = c.requires.going (owes_going m.end m.owed c.in-Some.owed c.requires.ended c.in-Some.is) in
    let after = told.after made in
    let end : z.end ≡ None = ap (λ (p : Progress). p.end) after ∙ ready.going in
    record {
      ready = ready;
      undue = c.if-p.false;
      entered = subst (HasEntered m z) end (entered_some (told.arrived made) c.keeps_whole.ensures.whole ready);
      still = ap (λ (p : Progress). p.due) after ∙ c.if-p.false;
    }
