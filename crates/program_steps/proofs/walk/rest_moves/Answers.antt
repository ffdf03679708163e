use Rattle.std.proofs.Common.{◌≡◌, ℕ, ◌≤◌, false, refl, ap, ◌∙◌, arith, subst}
use Rattle.std.specs.Prelude.{Option, Some, None, is_some, not}
use Rattle.flash_words.specs.Layouts.{IsRight}
use Rattle.mote_devices.specs.declared.line.Line.{Line}
use Rattle.page_index.specs.Entries.{IsMapped}
use Rattle.program_steps.specs.Wholes.{whole}
use Rattle.program_steps.specs.Loop.{KeepsFlash, Halts, IsOver, IsUnderway, IsFurther}
use Rattle.program_steps.specs.Machines.{Machine}
use Rattle.program_steps.specs.Walking.{IsPartway}
use Rattle.program_steps.proofs.Told.{keeps_on, right_kept, mapped_kept, over_halted, cursor_same, can_serve, place_low}
use Rattle.program_steps.proofs.Taking.{took_over}
use Rattle.program_steps.proofs.Underway.{below_most, can_move, few_enough, further_served, more_served}
use Rattle.program_steps.proofs.Walking.{partway_underway}
use Rattle.program_steps.proofs.walk.rest_moves.Goals as goal
use Rattle.program_steps.proofs.walk.rest_moves.Goals.{In_default}

none_line : (line : Option Line) → is_some line ≡ false → line ≡ None
none_line None is = refl
none_line (Some shown) is = absurd (cc)

-- the step is underway still: at a place where no entry begins, ..
underway : (c : In_default) (begun : Machine) → IsPartway begun (whole c.args.k.now c.args.p.now) c.args.p.now.line → IsUnderway begun (whole c.moves.k c.moves.p) c.moves.p.line
underway c begun on = partway_underway on (c.moves.invariant.further begun on) c.moves.invariant.free c.in_default.ensures.none

-- .. or where a service is called
record Calls (old now : Machine) (before after : Option Line) : Type 0 where
  right : IsRight now.kernel.layout
  high : 0xF000 ≤ now.kernel.mote.cpu.pc
  on : (begun : Machine) → IsPartway begun old before → IsUnderway begun now after

calls : {old now : Machine} {before after : Option Line} (pc : ℕ) → KeepsFlash old now → IsRight old.kernel.layout → IsMapped old.kernel.layout old.kernel.mote.flash.words
    → pc ≡ now.kernel.mote.cpu.pc → 0xF000 ≤ pc → Halts now false
    → ((begun : Machine) → IsPartway begun old before → IsFurther begun now after) → Calls old now before after
calls {old} {now} pc keeps right mapped at high free further =
    let right' = right_kept keeps right in
    let high' : 0xF000 ≤ now.kernel.mote.cpu.pc = rw at at high in
    record {
      right = right';
      high = high';
      on = λ begun on. partway_underway on (further begun on) free (λ t entry. absurd (omega (arith, high', place_low right' (mapped_kept keeps mapped) (t, entry))));
    }

pub moves-init : goal.moves-init
moves-init c = record {
  pc = c.requires.at;
  keeps = record { flash = refl; layout = refl; torn = refl };
  cursor = c.requires.cursor;
  free = c.requires.free;
  more = omega arith;
  steps = omega arith;
  further = λ begun on. on.further;
}

pub look-requires : goal.look-requires
look-requires c =
    let at = c.moves.invariant in
    record { at = at.pc; right = right_kept at.keeps c.requires.right; mapped = mapped_kept at.keeps c.requires.mapped; cursor = at.cursor }

pub returns-in-Some : goal.returns-in-Some
returns-in-Some c =
    let at = c.moves.invariant in
    record {
      left = λ begun on law. took_over (right_kept at.keeps c.requires.right) (mapped_kept at.keeps c.requires.mapped)
          (IsOver.Reached (c.in-Some.t, c.in-Some.ensures.found)) law ((at.further begun on).rest law);
      stands = (at.pc, (at.free.0, at.free.1, c.in-Some.ensures.found));
      more = at.more;
      steps = at.steps;
      keeps = at.keeps;
      cursor = c.look.ensures.cursor;
    }

pub returns-then-is_none : goal.returns-then-is_none
returns-then-is_none c =
    let at = c.moves.invariant in
    record {
      left = underway (goal.at.returns-then-is_none c).In_default;
      stands = (at.pc, c.if-pc-lt-KERNEL_FIRST.true, none_line c.moves.p.line (c.is_none.ensures ∙ ap not c.if-is_none.true), at.free);
      more = at.more;
      steps = at.steps;
      keeps = at.keeps;
      cursor = c.look.ensures.cursor;
    }

pub plain_steps-pc-requires : goal.plain_steps-pc-requires
plain_steps-pc-requires c =
    let partway = c.requires.partway in
    record {
      at = c.moves.invariant.pc;
      low = c.if-pc-lt-KERNEL_FIRST.true;
      underway = (partway.0, underway (goal.at.plain_steps-pc-requires c).In_default partway.0 partway.1);
      cursor = c.look.ensures.cursor;
    }

pub moves-smaller-then-pc-lt-KERNEL_FIRST : goal.moves-smaller-then-pc-lt-KERNEL_FIRST
moves-smaller-then-pc-lt-KERNEL_FIRST c =
    let partway = c.requires.partway in
    let on = underway (goal.at.moves-smaller-then-pc-lt-KERNEL_FIRST c).In_default partway.0 partway.1 in
    omega (arith, below_most on, c.plain_steps-pc.ensures.more)

pub moves-preserved-then-pc-lt-KERNEL_FIRST : goal.moves-preserved-then-pc-lt-KERNEL_FIRST
moves-preserved-then-pc-lt-KERNEL_FIRST c =
    let now = whole c.moves.k c.moves.p in
    let new = whole c.plain_steps-pc.new.k c.plain_steps-pc.new.p in
    let at = c.moves.invariant in
    let told = c.plain_steps-pc.ensures in
    record {
      pc = told.pc;
      keeps = keeps_on at.keeps told.keeps;
      cursor = cursor_same now new c.look.new.cursor told.keeps.layout told.keeps.flash c.look.ensures.cursor;
      free = told.free;
      more = omega (arith, at.more, told.more);
      steps = omega (arith, at.steps, told.steps);
      further = λ begun on. told.further begun (underway (goal.at.moves-preserved-then-pc-lt-KERNEL_FIRST c).In_default begun on);
    }

pub service-requires : goal.service-requires
service-requires c =
    let partway = c.requires.partway in
    let here = calls c.moves.pc c.moves.invariant.keeps c.requires.right c.requires.mapped c.moves.invariant.pc
    c.if-pc-lt-KERNEL_FIRST.false c.moves.invariant.free c.moves.invariant.further in
    let on = here.on partway.0 partway.1 in
    record {
      untorn = c.moves.invariant.keeps.torn ∙ c.requires.untorn;
      can = can_serve here.right (can_move on) here.high;
      small = few_enough on;
    }

pub returns-then-service : goal.returns-then-service
returns-then-service c =
    let now = whole c.moves.k c.moves.p in
    let new = whole c.service.new.k c.service.new.p in
    let at = c.moves.invariant in
    let told = c.service.ensures in
    let here = calls c.moves.pc c.moves.invariant.keeps c.requires.right c.requires.mapped c.moves.invariant.pc
    c.if-pc-lt-KERNEL_FIRST.false c.moves.invariant.free c.moves.invariant.further in
    let partway = c.requires.partway in
    let keeps = keeps_on at.keeps told.keeps in
    let halted = subst (Halts new) c.if-service.true told.over in
    record {
      left = λ begun be law. took_over (right_kept keeps c.requires.right) (mapped_kept keeps c.requires.mapped) (over_halted halted) law
          ((further_served here.right (here.on begun be) told.served here.high).rest law);
      stands = halted;
      more = omega (arith, at.more, more_served here.right (here.on partway.0 partway.1) told.served here.high);
      steps = omega (arith, at.steps, told.steps);
      keeps = keeps;
      cursor = cursor_same now new c.moves.cursor told.keeps.layout told.keeps.flash at.cursor;
    }

pub moves-smaller : goal.moves-smaller
moves-smaller c =
    let here = calls c.moves.pc c.moves.invariant.keeps c.requires.right c.requires.mapped c.moves.invariant.pc
    c.if-pc-lt-KERNEL_FIRST.false c.moves.invariant.free c.moves.invariant.further in
    let partway = c.requires.partway in
    let on = here.on partway.0 partway.1 in
    omega (
      arith,
      below_most on,
      more_served here.right on c.service.ensures.served here.high,
    )

pub moves-preserved : goal.moves-preserved
moves-preserved c =
    let now = whole c.moves.k c.moves.p in
    let new = whole c.service.new.k c.service.new.p in
    let at = c.moves.invariant in
    let told = c.service.ensures in
    let here = calls c.moves.pc c.moves.invariant.keeps c.requires.right c.requires.mapped c.moves.invariant.pc
    c.if-pc-lt-KERNEL_FIRST.false c.moves.invariant.free c.moves.invariant.further in
    let partway = c.requires.partway in
    record {
      pc = refl;
      keeps = keeps_on at.keeps told.keeps;
      cursor = cursor_same now new c.moves.cursor told.keeps.layout told.keeps.flash at.cursor;
      free = subst (Halts new) c.if-service.false told.over;
      more = omega (arith, at.more, more_served here.right (here.on partway.0 partway.1) told.served here.high);
      steps = omega (arith, at.steps, told.steps);
      further = λ begun be. further_served here.right (here.on begun be) told.served here.high;
    }
