use Rattle.std.proofs.Common.{◌≡◌, sym, ◌∙◌, arith}
use Rattle.std.specs.Prelude.{Some, None}
use Rattle.program_steps.specs.Wholes.{whole}
use Rattle.tk_watch.proofs.Turns.{some_steps}
use Rattle.tk_watch.proofs.CountingSteps.{counted_start, counted_turned, counted_ended, counted_bound, times_most}
use Rattle.tk_run.specs.Running.{original_from}
use Rattle.tk_watch.proofs.profile.counted_steps.Goals as goal

pub turns-init : goal.turns-init
turns-init c = record {
  way = counted_start (whole c.args.k.now c.args.p.now) c.args.counts.now c.requires.ready c.requires.quiet c.requires.zero;
  cursor = c.forget.ensures.right c.args.k.now.layout c.args.k.now.mote.flash.words;
  within = omega arith;
  size = c.requires.size;
}

pub returns-in-Some-clause-counted : goal.returns-in-Some-clause-counted
returns-in-Some-clause-counted c =
    let same = c.counted_turn-one.ensures.ended (λ none. let e : Some c.in-Some.end ≡ None = sym c.in-Some.is ∙ none in absurd (cc)) in
    rw same (counted_ended c.counted_turn-one.ensures.most c.turns.invariant.way c.counted_turn-one.ensures.turned c.requires.begins c.requires.going c.requires.whole c.turns-test.true c.in-Some.is)

pub counted_turn-one-requires-clause-counted : goal.counted_turn-one-requires-clause-counted
counted_turn-one-requires-clause-counted c =
    let few = times_most (original_from (whole c.args.k.now c.args.p.now)) c.turns.p.at c.turns.done in
    omega (arith, c.turns.invariant.way.counted c.turns.p.at (omega arith), few, c.requires.steps, c.turns-test.true)

pub turns-preserved : goal.turns-preserved
turns-preserved c = record {
  way = rw (c.counted_turn-one.ensures.counted c.in_default.is) (counted_turned c.counted_turn-one.ensures.most c.turns.invariant.way c.counted_turn-one.ensures.turned c.turns.invariant.size
      (omega arith) c.in_default.is);
  cursor = c.counted_turn-one.ensures.cursor;
  within = omega (arith, c.turns-test.true, c.counted_turn-one.ensures.most);
  size = c.counted_turn-one.ensures.size;
}

pub returns-clause-counted : goal.returns-clause-counted
returns-clause-counted c =
    let done : c.turns.done ≡ c.args.n = omega (arith, c.turns-test.false, c.turns.invariant.within) in
    counted_bound c.requires.begins c.requires.going c.requires.whole (rw done at c.turns.invariant.way) c.at_bound.ensures.bound

pub turns-smaller : goal.turns-smaller
turns-smaller c = omega (arith, some_steps c.counted_turn-one.ensures.turned c.in_default.is, c.turns-test.true, c.counted_turn-one.ensures.most)
