use Rattle.std.proofs.Common.{◌≡◌, ◌+◌, refl, arith}
use Rattle.program_steps.specs.Wholes.{whole}
use Rattle.program_steps.specs.Machines.{Machine}
use Rattle.program_steps.specs.Loop.{IsUnderway, IsFurther, moves_made}
use Rattle.page_cursor.proofs.CursorLaws.{passed_low}
use Rattle.program_steps.proofs.Told.{can_plain, cursor_same, keeps_on}
use Rattle.program_steps.proofs.Underway.{can_move, few_enough, below_most, further_plain, more_plain, underway_by, none_at}
use Rattle.program_steps.proofs.moves.plain_steps.Goals as goal
use Rattle.program_steps.proofs.moves.plain_steps.Goals.{After-plain-pc}

-- one move more was made
more_in : (c : After-plain-pc) → moves_made (whole c.plain-pc.new.k c.plain-pc.new.p) ≡ moves_made (whole c.steps.k c.steps.p) + 1
more_in c =
    let witness = c.requires.underway in
    more_plain (c.steps.invariant.underway witness.0 witness.1) c.plain-pc.ensures.stepped (rw c.steps.invariant.pc at c.steps.invariant.low)

further : (c : After-plain-pc) (begun : Machine) → IsUnderway begun (whole c.args.k.now c.args.p.now) c.args.p.now.line
    → IsFurther begun (whole c.plain-pc.new.k c.plain-pc.new.p) c.plain-pc.new.p.line
further c begun on = further_plain (c.steps.invariant.underway begun on) c.plain-pc.ensures.stepped (rw c.steps.invariant.pc at c.steps.invariant.low)

pub steps-init : goal.steps-init
steps-init c = record {
  pc = c.requires.at;
  low = c.requires.low;
  keeps = record { flash = refl; layout = refl; torn = refl };
  underway = λ begun on. on;
  steps = omega arith;
  on = omega arith;
}

pub plain-pc-requires : goal.plain-pc-requires
plain-pc-requires c =
    let begun = c.requires.underway.0 in
    let on = c.steps.invariant.underway begun c.requires.underway.1 in
    record {
      at = c.steps.invariant.pc;
      can = can_plain (can_move on) (rw c.steps.invariant.pc at c.steps.invariant.low);
      small = few_enough on;
    }

pub returns-then-not-passes : goal.returns-then-not-passes
returns-then-not-passes c =
    let at = c.steps.invariant in
    let told = c.plain-pc.ensures in
    let moved = (goal.at.returns-then-not-passes c).After-plain-pc in
    record {
      further = further moved;
      more = omega (arith, at.on, more_in moved);
      pc = told.pc;
      free = told.free;
      keeps = keeps_on at.keeps told.keeps;
      steps = omega (arith, told.steps, at.steps);
    }

pub steps-smaller : goal.steps-smaller
steps-smaller c =
    let witness = c.requires.underway in
    omega (arith, more_in (goal.at.steps-smaller c).After-plain-pc, below_most (c.steps.invariant.underway witness.0 witness.1))

pub steps-preserved : goal.steps-preserved
steps-preserved c =
    let start = whole c.args.k.now c.args.p.now in
    let new = whole c.plain-pc.new.k c.plain-pc.new.p in
    let at = c.steps.invariant in
    let told = c.plain-pc.ensures in
    let moved = (goal.at.steps-preserved c).After-plain-pc in
    let keeps = keeps_on at.keeps told.keeps in
    let cursor = cursor_same start new c.args.cursor.now keeps.layout keeps.flash c.requires.cursor in
    let passed = c.passes.ensures.passed c.if-not-passes.false in
    record {
      pc = told.pc;
      low = passed_low new.kernel.layout new.kernel.mote.flash.words c.args.cursor.now c.plain-pc.result cursor passed;
      keeps = keeps;
      underway = λ begun on. underway_by (at.underway begun on) (further moved begun on) told.free (none_at new cursor passed told.pc);
      steps = omega (arith, told.steps, at.steps);
      on = omega (arith, at.on, more_in moved);
    }
