use Rattle.std.proofs.Common.{ap, sym, ◌∙◌}
use Rattle.step_laws.specs.States.{admits}
use Rattle.program_steps.specs.Wholes.{whole}
use Rattle.program_steps.proofs.Arrived.{owed_at}
use Rattle.program_steps.proofs.Laws.{faithful_going, tables_going}
use Rattle.program_steps.proofs.Undue.{owed_alone}
use Rattle.program_steps.proofs.arrival.arrive.Goals as goal

pub arrive_known-requires : goal.arrive_known-requires
arrive_known-requires c =
    let m = whole c.args.k.now c.args.p.now in
    let may = c.requires.may in
    let ready = may.ready in
    record {
      owed = owed_alone m.owed c.args.owed may.owed (sym c.is_some.ensures ∙ c.if-is_some.false);
      going = ready.going;
      untorn = ready.untorn;
      untaken = may.untaken;
      admitted = ap (admits m.kernel.part) (owed_at c.args.owed ready may.owed) ∙ may.admitted;
      right = ready.order.right;
      faithful = faithful_going ready;
      tables = tables_going ready;
      ring = ready.order.ring;
      cursor = c.requires.cursor;
    }

pub returns-clause-arrived : goal.returns-clause-arrived
returns-clause-arrived c = c.arrive_known.ensures.arrived c.if-not-arrive_known.false
