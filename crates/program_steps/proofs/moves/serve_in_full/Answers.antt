use Rattle.program_steps.proofs.Awaiting.{free_of}
use Rattle.std.proofs.Common.{◌≡◌, ◌-◌, Bool, false, refl, sym, ap, arith, ◌∙◌}
use Rattle.std.specs.Prelude.{Some, None}
use Rattle.std.specs.Option.{option_or}
use Rattle.kernel_entry.specs.declared.kernel.Kernel.{Kernel}
use Rattle.kernel_entry.specs.declared.kernel.Owed.{Owed}
use Rattle.kernel_entry.specs.declared.kernel.Served.{Served}
use Rattle.kernel_entry.specs.Services.{served, is_due}
use Rattle.kernel_entry.specs.Left.{Leaves}
use Rattle.step_laws.specs.Numbers.{one_if}
use Rattle.step_laws.specs.States.{after_service, line_served, is_stop}
use Rattle.program_steps.specs.declared.progress.Progress.{Progress}
use Rattle.program_steps.specs.Machines.{awaited}
use Rattle.program_steps.specs.Wholes.{whole, entered}
use Rattle.program_steps.specs.Loop.{HasServed, IsHalted, KeepsFlash}
use Rattle.program_steps.proofs.Told.{same_state, served_behind, none_off, is_there}
use Rattle.program_steps.proofs.moves.serve_in_full.Goals as goal

-- what was answered is what the service answers
answer_is : (k new : Kernel) (r answer : Served) → r ≡ answer → (r, new) ≡ served k → (answer, new) ≡ served k
answer_is k new r answer is told = ap (λ a. (a, new)) (sym is) ∙ told

-- a service behind which this arrival is owed
record Owing (k new : Kernel) (p : Progress) (owed : Owed) (due : Bool) : Type 0 where
  served : (q : Progress) → p ≡ entered q → HasServed (whole k q) (whole new (record p { owed = Some owed; due = due })) q.line p.line
  over : IsHalted (whole new (record p { owed = Some owed; due = due }))
  keeps : KeepsFlash (whole k p) (whole new (record p { owed = Some owed; due = due }))

owing : {k new : Kernel} (p : Progress) (answer : Served) {owed : Owed} {due : Bool} → (answer, new) ≡ served k → due ≡ is_due k → Leaves k new → p.end ≡ None → p.torn ≡ None
    → after_service due (answer, new) ≡ record { kernel = new; owed = awaited (Some owed) due; end = None; torn = None } → is_stop answer ≡ false → line_served answer ≡ None → Owing k new p owed due
owing {k} {new} p answer {owed} {due} is due_is leaves going untorn leads goes silent = record {
  served = λ q entry. served_behind k new q p answer due due (Some owed) p.end p.steps p.line entry is due_is leaves.flash (same_state new refl going untorn ∙ sym leads)
      (none_off p.steps ∙ ap (λ b. p.steps - one_if b) (sym goes)) (ap (λ l. option_or l p.line) (sym silent)) (λ free. absurd (is_there owed free));
  over = IsHalted.Owes (is_there owed) going;
  keeps = record { flash = leaves.flash; layout = leaves.layout; torn = refl };
}

pub serve_told-told-requires : goal.serve_told-told-requires
serve_told-told-requires c = record { can = c.requires.can.makes.can }

pub returns-in-Resume : goal.returns-in-Resume
returns-in-Resume c =
    let k = c.args.k.now in
    let p = c.args.p.now in
    let makes = c.requires.can.makes in
    let told = c.serve_told-told in
    let leaves = told.ensures.leaves in
    record {
      served = λ q is. served_behind k told.new.k q p _ told.result.1 _ _ _ _ _ is (answer_is k told.new.k _ _ c.in-Resume.is told.ensures.served) told.ensures.due leaves.flash
          (same_state told.new.k makes.free makes.going c.requires.untorn) (none_off _) c.show.ensures.shown (λ free. refl);
      over = (free_of (whole k p) makes.free, makes.going);
      keeps = record { flash = leaves.flash; layout = leaves.layout; torn = refl };
      steps = omega arith;
    }

pub returns-in-Goto : goal.returns-in-Goto
returns-in-Goto c =
    let told = c.serve_told-told in
    let all = owing c.args.p.now _ (answer_is c.args.k.now told.new.k _ _ c.in-Goto.is told.ensures.served)
    told.ensures.due told.ensures.leaves c.requires.can.makes.going c.requires.untorn refl refl refl in
    record { served = all.served; over = all.over; keeps = all.keeps; steps = omega arith }

pub returns-in-Woke : goal.returns-in-Woke
returns-in-Woke c =
    let told = c.serve_told-told in
    let all = owing c.args.p.now _ (answer_is c.args.k.now told.new.k _ _ c.in-Woke.is told.ensures.served)
    told.ensures.due told.ensures.leaves c.requires.can.makes.going c.requires.untorn refl refl refl in
    record { served = all.served; over = all.over; keeps = all.keeps; steps = omega arith }

pub returns-in-Stopped : goal.returns-in-Stopped
returns-in-Stopped c =
    let k = c.args.k.now in
    let p = c.args.p.now in
    let makes = c.requires.can.makes in
    let told = c.serve_told-told in
    let leaves = told.ensures.leaves in
    record {
      served = λ q is. served_behind k told.new.k q p _ told.result.1 _ _ _ _ _ is (answer_is k told.new.k _ _ c.in-Stopped.is told.ensures.served) told.ensures.due leaves.flash
          (same_state told.new.k makes.free refl c.requires.untorn) c.saturating_sub-p.ensures refl (λ free. refl);
      over = IsHalted.Ended (free_of (whole k p) makes.free) (is_there _);
      keeps = record { flash = leaves.flash; layout = leaves.layout; torn = refl };
      steps = omega arith;
    }
