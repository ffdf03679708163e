use Rattle.std.proofs.Common.{◌≡◌, ℕ, ◌≤◌, ap, ◌∙◌, arith, subst}
use Rattle.std.specs.Prelude.{◌^◌, Option, Some, None}
use Rattle.mote_devices.specs.declared.line.Line.{Line}
use Rattle.program_steps.specs.declared.progress.Progress.{Progress}
use Rattle.program_steps.specs.declared.walk.Fast.{Fast}
use Rattle.program_steps.specs.declared.walk.Fast.TheVariants.{Partway}
use Rattle.program_steps.specs.declared.walk.Rest.{Rest}
use Rattle.program_steps.specs.Wholes.{whole}
use Rattle.program_steps.specs.Loop.{KeepsFlash, IsUnderway}
use Rattle.program_steps.specs.Machines.{Machine}
use Rattle.program_steps.specs.Walking.{IsAlong, IsPartway, Underway, Further, Stepped, HasGone, HasLeft}
use Rattle.program_steps.proofs.Told.{cursor_same}
use Rattle.program_steps.proofs.Stepped.{mapped_after}
use Rattle.program_steps.proofs.Settling.{ended_free}
use Rattle.program_steps.proofs.Underway.{below_most}
use Rattle.program_steps.proofs.Walking.{along_with, along_right, along_partway, along_crossings, along_stepped, along_quiet}
use Rattle.program_steps.proofs.walk.walk.Goals as goal

-- behind the moves that were left of a step, in whose midst those of the fast path had led
behind : {end : ℕ} (place : ℕ) {start mid new : Machine} {before : Option Line} (after : Option Line) {gone : Fast} {left : Rest} (rest : Rest) → end ≤ 10 ^ 12 → gone ≡ Partway place
    → HasGone gone before end start mid → KeepsFlash mid new
    → ((begun : Machine) → IsPartway begun mid before → HasLeft left begun new after) → left ≡ rest → IsAlong (λ begun now. HasLeft rest begun now after) end start new
behind {end} place {start} {mid} {new} {before} after rest most is walked keeps led leads =
    let on : IsAlong (Further before) end start mid = rw is at walked in
    along_with end start mid new on keeps (rw leads at (led on.last (along_partway end start mid before most on)))

pub walk-init : goal.walk-init
walk-init c = record {
  pc = c.requires.at;
  low = c.requires.low;
  silent = c.requires.silent;
  few = c.requires.few.0;
  free = c.requires.free;
  along = λ start along. along;
  cursor = c.requires.cursor;
}

pub fast_steps-requires : goal.fast_steps-requires
fast_steps-requires c =
    let at = c.walk.invariant in
    record {
      at = at.pc;
      low = at.low;
      silent = at.silent;
      few = (at.few, c.requires.few.1);
      free = at.free;
      along = (c.requires.along.0, at.along c.requires.along.0 c.requires.along.1);
      cursor = at.cursor;
    }

pub returns-in-Over : goal.returns-in-Over
returns-in-Over c =
    let end = c.args.end in
    let now = whole c.walk.k c.walk.p in
    let new = whole c.fast_steps.new.k c.fast_steps.new.p in
    let line = c.fast_steps.new.p.line in
    let at = c.walk.invariant in
    let told = c.fast_steps.ensures in
    let along : (start : Machine) → IsAlong Underway end start (whole c.args.k.now c.args.p.now) → IsAlong (Stepped line) end start new =
    λ start along. rw c.in-Over.is at (told.along start (at.along start along)) in
    record {
      along = along;
      reached = (
        rw c.in-Over.is at told.pc,
        told.free.0,
        told.free.1,
        along_quiet end c.requires.along.0 new line (along c.requires.along.0 c.requires.along.1) told.free.1 told.free.0,
      );
      ended = λ ended. absurd (ended told.free.1);
      cursor = cursor_same now new c.walk.cursor told.layout told.flash at.cursor;
    }

pub rest_moves-requires : goal.rest_moves-requires
rest_moves-requires c =
    let start = c.requires.along.0 in
    let mid = whole c.fast_steps.new.k c.fast_steps.new.p in
    let told = c.fast_steps.ensures in
    let on : IsAlong (Further c.fast_steps.new.p.line) c.args.end start mid = rw c.in-Partway.is at (told.along start (c.walk.invariant.along start c.requires.along.1)) in
    record {
      at = rw c.in-Partway.is at told.pc;
      untorn = on.keeps.torn ∙ on.begins.ready.untorn;
      right = along_right c.args.end start mid on;
      mapped = mapped_after on.begins.ready on.keeps;
      free = told.free;
      partway = (on.last, along_partway c.args.end start mid c.fast_steps.new.p.line c.requires.few.1 on);
      cursor = cursor_same (whole c.walk.k c.walk.p) mid c.walk.cursor told.layout told.flash c.walk.invariant.cursor;
    }

pub walk-smaller : goal.walk-smaller
walk-smaller c =
    let on = c.walk.invariant.along c.requires.along.0 c.requires.along.1 in
    omega (arith, below_most on.is, c.fast_steps.ensures.more, c.rest_moves.ensures.more)

pub walk-preserved : goal.walk-preserved
walk-preserved c =
    let new = whole c.rest_moves.new.k c.rest_moves.new.p in
    let told = c.rest_moves.ensures in
    let stands = rw c.in-On.is at told.stands in
    record {
      pc = stands.0;
      low = stands.1;
      silent = stands.2;
      few = omega (arith, c.fast_steps.ensures.few, told.steps);
      free = stands.3;
      along = λ start along. subst (λ (l : Option Line). IsAlong (λ begun now. IsUnderway begun now l) c.args.end start new) stands.2
          (behind c.in-Partway.place c.rest_moves.new.p.line _ c.requires.few.1 c.in-Partway.is
          (c.fast_steps.ensures.along start (c.walk.invariant.along start along)) c.rest_moves.ensures.keeps c.rest_moves.ensures.left c.in-On.is);
      cursor = told.cursor;
    }

pub settle-requires : goal.settle-requires
settle-requires c =
    let new = whole c.rest_moves.new.k c.rest_moves.new.p in
    record {
      few = along_crossings c.args.end c.requires.along.0 new c.rest_moves.new.p.line c.requires.few.1
          (behind c.in-Partway.place c.rest_moves.new.p.line _ c.requires.few.1 c.in-Partway.is
          (c.fast_steps.ensures.along c.requires.along.0 (c.walk.invariant.along c.requires.along.0 c.requires.along.1)) c.rest_moves.ensures.keeps c.rest_moves.ensures.left c.in-Reached.is);
    }

pub returns-in-Reached : goal.returns-in-Reached
returns-in-Reached c =
    let end = c.args.end in
    let k = c.rest_moves.new.k in
    let p = c.rest_moves.new.p in
    let q = c.settle.new.p in
    let is = c.settle.ensures.settled in
    let told = c.rest_moves.ensures in
    let stands = rw c.in-Reached.is at told.stands in
    let along : (start : Machine) → IsAlong Underway end start (whole c.args.k.now c.args.p.now) → IsAlong (Stepped q.line) end start (whole k q) =
    λ start along. along_stepped end start k p q (Some c.in-Reached.t) c.requires.few.1 (behind c.in-Partway.place p.line _ c.requires.few.1 c.in-Partway.is
    (c.fast_steps.ensures.along start (c.walk.invariant.along start along)) c.rest_moves.ensures.keeps c.rest_moves.ensures.left c.in-Reached.is) stands.1 is in
    let free : q.owed ≡ None = ap (λ (x : Progress). x.owed) is ∙ stands.1.0 in
    let going : q.end ≡ None = ap (λ (x : Progress). x.end) is ∙ stands.1.1 in
    record {
      along = along;
      reached = (stands.0, free, going, along_quiet end c.requires.along.0 (whole k q) q.line (along c.requires.along.0 c.requires.along.1) going free);
      ended = λ ended. absurd (ended going);
      cursor = told.cursor;
    }

pub settle-requires-in-Halted : goal.settle-requires-in-Halted
settle-requires-in-Halted c =
    let new = whole c.rest_moves.new.k c.rest_moves.new.p in
    record {
      few = along_crossings c.args.end c.requires.along.0 new c.rest_moves.new.p.line c.requires.few.1
          (behind c.in-Partway.place c.rest_moves.new.p.line _ c.requires.few.1 c.in-Partway.is
          (c.fast_steps.ensures.along c.requires.along.0 (c.walk.invariant.along c.requires.along.0 c.requires.along.1)) c.rest_moves.ensures.keeps c.rest_moves.ensures.left c.in-Halted.is);
    }

pub returns-in-Halted : goal.returns-in-Halted
returns-in-Halted c =
    let k = c.rest_moves.new.k in
    let p = c.rest_moves.new.p in
    let q = c.settle-in-Halted.new.p in
    let is = c.settle-in-Halted.ensures.settled in
    let told = c.rest_moves.ensures in
    let stands = rw c.in-Halted.is at told.stands in
    record {
      along = λ start along. along_stepped c.args.end start k p q None c.requires.few.1 (behind c.in-Partway.place p.line _ c.requires.few.1 c.in-Partway.is
          (c.fast_steps.ensures.along start (c.walk.invariant.along start along)) c.rest_moves.ensures.keeps c.rest_moves.ensures.left c.in-Halted.is) stands is;
      reached = tt;
      ended = λ ended. ended_free k p q None stands is ended;
      cursor = told.cursor;
    }
