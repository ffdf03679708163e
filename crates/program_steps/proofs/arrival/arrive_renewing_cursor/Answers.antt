use Rattle.std.proofs.Common.{ap, ◌∙◌}
use Rattle.step_laws.specs.States.{admits}
use Rattle.program_steps.proofs.Arriving.{owed_came}
use Rattle.program_steps.proofs.Entered.{few_pages}
use Rattle.program_steps.proofs.Laws.{faithful_going, tables_going}
use Rattle.program_steps.proofs.Arrived.{owed_at, cursor_kept}
use Rattle.program_steps.proofs.arrival.arrive_renewing_cursor.Goals as goal

pub arrive_owed-stale-requires : goal.arrive_owed-stale-requires
arrive_owed-stale-requires c =
    let may = c.requires.may in
    let ready = may.ready in
    let few = few_pages ready may.steps in
    record {
      owed = may.owed;
      going = ready.going;
      untorn = ready.untorn;
      untaken = may.untaken;
      admitted = ap (admits c.args.k.now.part) (owed_at _ ready may.owed)
          ∙ may.admitted;
      right = ready.order.right;
      faithful = faithful_going ready;
      tables = tables_going ready;
      stub = owed_came _ ready may.owed;
      ring = ready.order.ring;
      room = few.1;
      few = few.0;
    }

pub returns-clause-cursor : goal.returns-clause-cursor
returns-clause-cursor c =
    cursor_kept c.forget.new.cursor c.arrive_owed-stale.ensures.arrived
    (c.forget.ensures.right c.args.k.now.layout c.args.k.now.mote.flash.words c.arrive_owed-stale.new.k.mote.flash.words c.arrive_owed-stale.ensures.stale c.requires.cursor)
