use Rattle.std.proofs.Common.{◌≡◌, ◌+◌, ◌-◌, ◌%◌, ◌≤◌, arith}
use Rattle.std.proofs.lemmas.Result.{err_from_is_err_and}
use Rattle.printed_text.specs.Gathering.{turn_steps}
use Rattle.kernel_entry.specs.Seen.{program as program_of}
use Rattle.program_steps.specs.Machines.{flat_of}
use Rattle.program_steps.specs.Wholes.{whole}
use Rattle.tk_watch.specs.Kept.{IsNext}
use Rattle.tk_run.proofs.InTurn.{bound_counts}
use Rattle.tk_watch.specs.Watching.{GoOutInTurn, HasTold}
use Rattle.tk_watch.proofs.Turns.{AreUntold, HasGone, some_steps}
use Rattle.tk_watch.proofs.Telling.{IsToldSoFar, cut_gone, cut_in_turn, cut_start, held_beside, next_known, told_bound, told_ended, told_gone, told_in_turn, told_start, turned_on, turns_left, turns_on}
use Rattle.tk_watch.proofs.steps.watched_steps.Given.{Over}
use Rattle.tk_watch.proofs.steps.watched_steps.Goals.{In-Some, In_default, In_ok-send_in_turn}
use Rattle.tk_watch.proofs.steps.watched_steps.Goals as goal

-- what was told, behind what went out in turn
sent : (g : Over) (c : In_ok-send_in_turn g) → IsToldSoFar c.args.view.now (whole c.args.k.now c.args.p.now) (whole c.turns.k c.turns.p) c.turns.done c.send_in_turn.new.gathered.items
    (g.K.Sink.taken c.args.out.now) (g.K.Sink.taken c.send_in_turn.new.out)
sent g c = told_in_turn c.turns.invariant.way c.in_ok-send_in_turn.ensures.text

-- .. and all of it went out at each turn up to the next
in_turn : (g : Over) (c : In_ok-send_in_turn g) → GoOutInTurn g.K.Sink.taken c.args.view.now (whole c.args.k.now c.args.p.now) c.args.out.now (c.turns.done + (turn_steps - c.turns.done % turn_steps))
in_turn g c = turns_on g.K.Sink.taken c.args.view.now _ _ c.args.out.now c.send_in_turn.new.out c.turns.done c.send_in_turn.new.gathered.items c.turns.invariant.turns
    (sent g c) c.in_ok-send_in_turn.ensures.turn

-- behind the turn in which the program ended
over : (g : Over) (c : In-Some g)
    → HasTold c.args.view.now (whole c.args.k.now c.args.p.now) (whole c.turn-count.new.k c.turn-count.new.p) c.args.n c.send_in_turn.new.gathered.items (g.K.Sink.taken c.args.out.now)
    (g.K.Sink.taken c.send_in_turn.new.out) c.in-Some.end
    × (c.turn-count.new.p.steps ≤ c.turns.done + c.turn-count.result)
over g c =
    let untold : AreUntold c.args.view.now c.turns.done c.turn-count.result = λ step from to. c.untold_steps.ensures.untold step from (omega (arith, to, c.turn-count.ensures.most, c.min.ensures)) in
    told_ended (sent g (goal.at.In-Some g c).In_ok-send_in_turn) untold c.requires.begins c.requires.going c.requires.whole c.turns-test.true
    (omega (arith, c.turn-count.ensures.most, c.min.ensures, c.turns.invariant.within)) c.turn-count.ensures.turned c.in-Some.is

-- behind one after which it goes on
untold : (g : Over) (c : In_default g) → AreUntold c.args.view.now c.turns.done c.turn-count.result
untold g c step from to = c.untold_steps.ensures.untold step from (omega (arith, to, c.turn-count.ensures.most, c.min.ensures))

on : (g : Over) (c : In_default g)
    → HasGone c.args.view.now (whole c.args.k.now c.args.p.now) (whole c.turns.k c.turns.p) (whole c.turn-count.new.k c.turn-count.new.p) c.turns.done
    (c.turns.done + c.turn-count.result) c.turn-count.new.p.line
on g c = turned_on c.turns.invariant.way (untold g c) c.turn-count.ensures.turned c.in_default.is

-- .. and what its step was to read and write was known
known : (g : Over) (c : In_default g) → IsNext c.args.view.now (program_of (whole c.args.k.now c.args.p.now).kernel) (flat_of (whole c.turns.k c.turns.p))
    c.outset_of-outset.result.access
known g c =
    next_known c.args.view.now (whole c.args.k.now c.args.p.now) c.outset_of-outset.result.access c.turns.invariant.way.between.ran.stays.program c.turn-count.ensures.turned c.in_default.is
    c.outset_of-outset.ensures.foreseen

pub returns-in_err-tell_front-clause-watched : goal.returns-in_err-tell_front-clause-watched
returns-in_err-tell_front-clause-watched g c =
    let failed = err_from_is_err_and c.from_residual.result c.from_residual.ensures.1 in
    rw failed.1 (record {
      done = 0;
      within = omega arith;
      put = cut_start c.args.view.now
          (whole c.args.k.now c.args.p.now) c.args.gathered.now.items _ _ c.requires.ready c.requires.quiet c.requires.empty c.in_err-tell_front.ensures.text;
    })

pub returns-in_err-tell_front-clause-turns : goal.returns-in_err-tell_front-clause-turns
returns-in_err-tell_front-clause-turns g c = λ turn below. absurd (omega (arith, below, c.requires.begins))

pub watched_bytes-bytes-requires-clause-paged : goal.watched_bytes-bytes-requires-clause-paged
watched_bytes-bytes-requires-clause-paged g c = c.requires.ready.order.paged

pub outset_of-outset-requires-clause-ready : goal.outset_of-outset-requires-clause-ready
outset_of-outset-requires-clause-ready g c = c.turns.invariant.way.between.ready

pub turns-init : goal.turns-init
turns-init g c = record {
  way = told_start c.args.gathered.now.items c.requires.ready c.requires.quiet c.requires.empty c.in_ok-tell_front.ensures.text;
  cursor = c.forget.ensures.right c.args.k.now.layout c.args.k.now.mote.flash.words;
  held = c.watched_bytes-bytes.ensures.held;
  size = c.watched_bytes-bytes.ensures.size;
  turns = λ turn below. absurd (omega (arith, below));
  within = omega arith;
  faults = omega (arith, c.in_ok-tell_front.ensures.cause.later);
}

pub returns-in_err-send_in_turn-clause-watched : goal.returns-in_err-send_in_turn-clause-watched
returns-in_err-send_in_turn-clause-watched g c =
    let failed = err_from_is_err_and c.from_residual-in_err-send_in_turn.result c.from_residual-in_err-send_in_turn.ensures.1 in
    rw failed.1 (record { done = c.turns.done; within = omega (arith, c.turns-test.true); put = cut_in_turn c.turns.invariant.way _ c.in_err-send_in_turn.ensures.text })

pub returns-in_err-send_in_turn-clause-turns : goal.returns-in_err-send_in_turn-clause-turns
returns-in_err-send_in_turn-clause-turns g c =
    turns_left g.K.Sink.taken c.args.view.now (whole c.args.k.now c.args.p.now) c.args.out.now c.turns.done c.turns.p.steps c.turns.invariant.turns
    (omega (arith, c.turns.invariant.way.between.ran.steps, c.requires.begins))

pub returns-in-Some-clause-watched : goal.returns-in-Some-clause-watched
returns-in-Some-clause-watched g c = (over g c).0

pub returns-in-Some-clause-turns : goal.returns-in-Some-clause-turns
returns-in-Some-clause-turns g c =
    turns_left g.K.Sink.taken c.args.view.now _ c.args.out.now _ c.turn-count.new.p.steps (in_turn g (goal.at.In-Some g c).In_ok-send_in_turn)
    (omega (arith, (over g c).1, c.turn-count.ensures.most, c.min.ensures, c.untold_steps.ensures.most))

pub turns-smaller : goal.turns-smaller
turns-smaller g c = omega (arith, some_steps c.turn-count.ensures.turned c.in_default.is, c.turns-test.true, c.turn-count.ensures.most, c.min.ensures, c.turns.invariant.within)

pub tell_step-requires-clause-paged : goal.tell_step-requires-clause-paged
tell_step-requires-clause-paged g c = (on g (goal.at.tell_step-requires-clause-paged g c).In_default).between.ready.order.paged

pub tell_step-requires-clause-held : goal.tell_step-requires-clause-held
tell_step-requires-clause-held g c =
    held_beside c.args.view.now c.turns.done _ _ c.turns.bytes (untold g
    (goal.at.tell_step-requires-clause-held g c).In_default) c.turn-count.ensures.turned c.in_default.is c.outset_of-outset.ensures.spared c.turns.invariant.held

pub turns-preserved : goal.turns-preserved
turns-preserved g c =
    let way = sent g (goal.at.turns-preserved g c).In_ok-send_in_turn in
    let next = in_turn g (goal.at.turns-preserved g c).In_ok-send_in_turn in
    record {
      way = told_gone way c.turns.bytes c.outset_of-outset.result.access (on g (goal.at.turns-preserved g c).In_default) c.turns.invariant.held
          (known g (goal.at.turns-preserved g c).In_default) (rw (c.outset_of-outset.ensures.pc, c.outset_of-outset.ensures.sreg) at c.in_ok-tell_step.ensures.text);
      cursor = c.turn-count.ensures.cursor;
      held = c.in_ok-tell_step.ensures.held;
      size = c.in_ok-tell_step.ensures.size;
      turns = λ turn below. next turn (omega (arith, below, c.turn-count.ensures.most, c.min.ensures, c.untold_steps.ensures.most));
      within = omega (arith, c.turn-count.ensures.most, c.min.ensures, c.turns.invariant.within);
      faults = omega (arith, c.turns.invariant.faults, c.in_ok-send_in_turn.ensures.cause.later, c.in_ok-tell_step.ensures.cause.later);
    }

pub returns-in_err-tell_step-clause-watched : goal.returns-in_err-tell_step-clause-watched
returns-in_err-tell_step-clause-watched g c =
    let at = goal.at.returns-in_err-tell_step-clause-watched g c in
    let failed = err_from_is_err_and c.from_residual-in_err-tell_step.result c.from_residual-in_err-tell_step.ensures.1 in
    rw failed.1 (record {
      done = c.turns.done + c.turn-count.result;
      within = omega (arith, c.turn-count.ensures.most, c.min.ensures, c.turns.invariant.within);
      put = cut_gone (sent g at.In_ok-send_in_turn) _ c.turns.bytes c.outset_of-outset.result.access (on g at.In_default) c.turns.invariant.held (known g at.In_default) (rw (c.outset_of-outset.ensures.pc, c.outset_of-outset.ensures.sreg) at c.in_err-tell_step.ensures.text);
    })

pub returns-in_err-tell_step-clause-turns : goal.returns-in_err-tell_step-clause-turns
returns-in_err-tell_step-clause-turns g c =
    let at = goal.at.returns-in_err-tell_step-clause-turns g c in
    turns_left g.K.Sink.taken c.args.view.now _ c.args.out.now _ c.turn-count.new.p.steps (in_turn g at.In_ok-send_in_turn)
    (omega (arith, (on g at.In_default).between.ran.steps, c.requires.begins, c.turn-count.ensures.most, c.min.ensures, c.untold_steps.ensures.most))

pub returns-clause-watched : goal.returns-clause-watched
returns-clause-watched g c =
    let done : c.turns.done ≡ c.args.n = omega (arith, c.turns-test.false, c.turns.invariant.within) in
    told_bound (rw done at c.turns.invariant.way) c.requires.begins c.requires.going c.requires.whole c.at_bound.ensures.bound

pub returns-clause-turns : goal.returns-clause-turns
returns-clause-turns g c =
    turns_left g.K.Sink.taken c.args.view.now (whole c.args.k.now c.args.p.now) c.args.out.now c.turns.done c.at_bound.new.p.steps c.turns.invariant.turns
    (omega (
      arith,
      c.turns.invariant.way.between.ran.steps,
      c.requires.begins,
      bound_counts (whole c.turns.k c.turns.p) (whole c.at_bound.new.k c.at_bound.new.p) c.at_bound.result c.at_bound.ensures.bound,
    ))
