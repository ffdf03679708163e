use Rattle.std.proofs.Common.{◌≡◌, ℕ, ◌+◌, ◌-◌, ◌<◌, false, arith, refl, sym, ap, ◌∙◌}
use Rattle.std.specs.Prelude.{None}
use Rattle.program_steps.specs.declared.progress.Progress.{Progress}
use Rattle.program_steps.specs.Machines.{Machine}
use Rattle.program_steps.specs.Wholes.{whole}
use Rattle.program_steps.specs.Ready.{IsGoing}
use Rattle.program_steps.specs.Walking.{CanBegin}
use Rattle.step_laws.proofs.MoveLaws.{pool_low}
use Rattle.program_steps.proofs.Laws.{law_of}
use Rattle.program_steps.proofs.OneBehindOther.{goes_on_by, steps_on, counted_on, let_in, silently_on}
use Rattle.program_steps.proofs.Walking.{along_begun}
use Rattle.program_steps.proofs.step.undue_steps.Goals as goal

-- the first of them
begins_here : {end : ℕ} {now : Machine} → IsGoing now → now.owed ≡ None → now.due ≡ false → now.steps < end → CanBegin end now now
begins_here {now} ready placed undue few =
    let none : now.steps - now.steps ≡ 0 = omega arith in
    record { begun = omega arith; silently = rw none refl; ready = ready; placed = placed; undue = undue; few = few }

pub overflow_add-end : goal.overflow_add-end
overflow_add-end c = omega (arith, c.requires.few)

pub steps-init : goal.steps-init
steps-init c =
    record {
      pc = refl;
      begins = begins_here c.requires.ready c.requires.placed c.requires.undue (omega (arith, c.requires.some));
      silent = refl;
      cursor = c.requires.cursor;
    }

pub overflow_add-p : goal.overflow_add-p
overflow_add-p c = omega (arith, c.steps.invariant.begins.few, c.requires.few)

pub walk-led-requires : goal.walk-led-requires
walk-led-requires c =
    let at = c.steps.invariant in
    let begins = at.begins in
    let now = whole c.steps.k c.steps.p in
    let law = law_of begins.ready c.keeps_timely.ensures.timely (omega (arith, begins.few, c.requires.few)) begins.placed in
    record {
      at = at.pc;
      low = rw at.pc (pool_low now.kernel.layout now.kernel.mote.cpu.pc begins.ready.order.right law.walk.1.pool);
      silent = at.silent;
      few = (omega (arith, begins.few), c.requires.few);
      free = (begins.placed, begins.ready.going);
      along = (whole c.args.k.now c.args.p.now, along_begun (c.args.p.now.steps + c.args.most) (whole c.args.k.now c.args.p.now) now begins c.keeps_timely.ensures.timely c.requires.few);
      cursor = at.cursor;
    }

pub followed-requires : goal.followed-requires
followed-requires c =
    let old = whole c.args.k.now c.args.p.now in
    let w = whole c.walk-led.new.k c.walk-led.new.p in
    let led = c.walk-led.ensures.along old (along_begun (c.args.p.now.steps + c.args.most) old (whole c.steps.k c.steps.p) c.steps.invariant.begins c.keeps_timely.ensures.timely c.requires.few) in
    let told = c.walk-led.ensures in
    record {
      going = λ going. let on = goes_on_by led.last w c.walk-led.new.p.line led.is.way going in (on.ready, on.quiet);
      ended = told.ended;
      led = told.reached;
      cursor = told.cursor;
    }

pub steps_since-requires : goal.steps_since-requires
steps_since-requires c =
    let old = whole c.args.k.now c.args.p.now in
    let led = c.walk-led.ensures.along old (along_begun (c.args.p.now.steps + c.args.most) old (whole c.steps.k c.steps.p) c.steps.invariant.begins c.keeps_timely.ensures.timely c.requires.few) in
    let steps = ap (λ (p : Progress). p.steps) c.in-None.ensures.none.1 in
    let range = steps_on led.is.way in
    record { begun = omega (arith, led.begins.begun, range.0, steps); few = omega (arith, range.1, led.begins.few, c.requires.few, steps) }

pub returns-in-None : goal.returns-in-None
returns-in-None c =
    let begin = c.args.p.now.steps in
    let old = whole c.args.k.now c.args.p.now in
    let led = c.walk-led.ensures.along old (along_begun (c.args.p.now.steps + c.args.most) old (whole c.steps.k c.steps.p) c.steps.invariant.begins c.keeps_timely.ensures.timely c.requires.few) in
    let last = led.last in
    let same = c.in-None.ensures.none in
    let since = c.steps_since in
    let still = ap (λ (p : Progress). p.steps) same.1 in
    let all : begin + since.result ≡ last.steps + 1 =
    counted_on begin since.result led.is.way (λ going. since.ensures.going (ap (λ (p : Progress). p.end) same.1 ∙ going) ∙ still)
    (λ ended. since.ensures.ended (λ none. ended (sym (ap (λ (p : Progress). p.end) same.1) ∙ none)) ∙ ap (λ n. n + 1) still) in
    record {
      done = rw (same.0, same.1) (record { earlier = last.steps - begin; last = last; counted = omega (arith, all, led.begins.begun); silently = led.begins.silently; step = led.is });
      ended = rw same.1 c.walk-led.ensures.ended;
      most = omega (arith, all, led.begins.few);
      cursor = c.followed.ensures.cursor;
    }

pub steps-smaller : goal.steps-smaller
steps-smaller c =
    let at = c.steps.invariant in
    let now = whole c.steps.k c.steps.p in
    let begins = begins_here at.begins.ready at.begins.placed at.begins.undue at.begins.few in
    let led = c.walk-led.ensures.along now (along_begun (c.args.p.now.steps + c.args.most) now now begins c.keeps_timely.ensures.timely c.requires.few) in
    let followed = c.in-Some.ensures.followed in
    let on = goes_on_by led.last (whole c.walk-led.new.k c.walk-led.new.p) c.walk-led.new.p.line led.is.way followed.ready.going in
    omega (arith, led.begins.begun, on.steps, followed.entered.steps, at.begins.few)

pub steps-preserved : goal.steps-preserved
steps-preserved c =
    let old = whole c.args.k.now c.args.p.now in
    let w = whole c.walk-led.new.k c.walk-led.new.p in
    let new = whole c.followed.new.k c.followed.new.p in
    let line = c.walk-led.new.p.line in
    let led = c.walk-led.ensures.along old (along_begun (c.args.p.now.steps + c.args.most) old (whole c.steps.k c.steps.p) c.steps.invariant.begins c.keeps_timely.ensures.timely c.requires.few) in
    let last = led.last in
    let followed = c.in-Some.ensures.followed in
    let silent = c.in-Some.ensures.silent in
    let on = goes_on_by last w line led.is.way followed.ready.going in
    let steps = followed.entered.steps in
    let into = let_in w new None followed.entered refl in
    let begin = c.args.p.now.steps in
    let one : last.steps - begin + 1 ≡ new.steps - begin = omega (arith, on.steps, steps, led.begins.begun) in
    record {
      pc = c.in-Some.ensures.pc;
      begins = record {
        begun = omega (arith, on.steps, steps, led.begins.begun);
        silently = rw one at (silently_on (last.steps - begin) old led.begins.silently led.is silent.0 followed);
        ready = into.ready;
        placed = into.placed;
        undue = followed.still;
        few = omega (arith, steps, c.in-Some.ensures.fewer);
      };
      silent = silent.1;
      cursor = c.followed.ensures.cursor;
    }
