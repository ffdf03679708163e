use Rattle.program_steps.proofs.Awaiting.{free_of}
use Rattle.std.proofs.Common.{◌≡◌, ◌≤◌, refl, sym, ap, arith, ◌∙◌}
use Rattle.std.specs.Prelude.{None}
use Rattle.kernel_entry.specs.declared.kernel.Kernel.{Kernel}
use Rattle.kernel_entry.specs.declared.kernel.Served.TheVariants as answers
use Rattle.kernel_entry.specs.Services.{served, is_due}
use Rattle.program_steps.specs.declared.progress.Progress.{Progress}
use Rattle.program_steps.specs.Machines.{state_of}
use Rattle.program_steps.specs.Wholes.{whole, entered}
use Rattle.program_steps.specs.Loop.{IsHalted}
use Rattle.program_steps.proofs.Told.{keeps_on, same_state, served_behind, none_off, is_there}
use Rattle.program_steps.proofs.moves.service.Goals as goal

-- the count of steps stays where a service begins
steps_same : (p q : Progress) → p ≡ entered q → p.steps ≤ q.steps
steps_same p q is = let same : p.steps ≡ q.steps = ap (λ (x : Progress). x.steps) is in omega (arith, same)

pub count_entry-requires : goal.count_entry-requires
count_entry-requires c = record { entries = c.requires.small.entries; natural = c.requires.small.natural }

pub resume_at_once-requires : goal.resume_at_once-requires
resume_at_once-requires c = record { can = c.requires.can.makes.can }

pub returns-then-resume_at_once : goal.returns-then-resume_at_once
returns-then-resume_at_once c =
    let k = c.args.k.now in
    let q = c.args.p.now in
    let p = c.count_entry.new.p in
    let is = c.count_entry.ensures.entered in
    let makes = c.requires.can.makes in
    let next = c.resume_at_once.new.k in
    let yes = c.if-resume_at_once.true in
    let leaves = c.resume_at_once.ensures.leaves yes in
    let state = ap (λ (x : Progress). state_of (whole next x)) is in
    let free = free_of (whole k q) makes.free in
    record {
      served = served_behind k next q p (answers.Resume None) _ _ _ _ _ _ is (c.resume_at_once.ensures.served yes) (sym (c.resume_at_once.ensures.due yes)) leaves.flash
          (state ∙ same_state next makes.free makes.going c.requires.untorn) (none_off _) refl (λ free. refl);
      over = (ap (λ (x : Progress). x.owed) is ∙ free, ap (λ (x : Progress). x.end) is ∙ makes.going);
      keeps = record { flash = leaves.flash; layout = leaves.layout; torn = ap (λ (x : Progress). x.torn) is };
      steps = steps_same p q is;
    }

pub return_at_once-requires : goal.return_at_once-requires
return_at_once-requires c = record { can = rw (c.resume_at_once.ensures.none c.if-resume_at_once.false) c.requires.can.makes.can }

pub returns-in-Some : goal.returns-in-Some
returns-in-Some c =
    let k = c.args.k.now in
    let q = c.args.p.now in
    let p = c.count_entry.new.p in
    let entry = c.count_entry.ensures.entered in
    let makes = c.requires.can.makes in
    let next = c.return_at_once.new.k in
    let same = c.resume_at_once.ensures.none c.if-resume_at_once.false in
    let gone = c.return_at_once.ensures in
    let is = rw c.in-Some.is at gone.served ∙ ap served same in
    let due = rw c.in-Some.is at gone.due ∙ ap is_due same in
    let leaves = rw c.in-Some.is at gone.leaves in
    let flash = leaves.flash ∙ ap (λ (k : Kernel). k.mote.flash) same in
    let ends = ap (λ (x : Progress). x.end) entry ∙ makes.going in
    let torn = ap (λ (x : Progress). x.torn) entry in
    record {
      served = served_behind k next q p _ _ _ _ _ _ _ entry is due flash (same_state next refl ends (torn ∙ c.requires.untorn)) (none_off _) refl (λ free. absurd (is_there _ free));
      over = IsHalted.Owes (is_there _) ends;
      keeps = record { flash = flash; layout = leaves.layout ∙ ap (λ (k : Kernel). k.layout) same; torn = torn };
      steps = steps_same p q entry;
    }

pub serve_in_full-requires : goal.serve_in_full-requires
serve_in_full-requires c =
    let entry = c.count_entry.ensures.entered in
    let same = (rw c.in-None.is at c.return_at_once.ensures.none) ∙ c.resume_at_once.ensures.none c.if-resume_at_once.false in
    record {
      untorn = ap (λ (x : Progress). x.torn) entry ∙ c.requires.untorn;
      can = rw (same, entry) c.requires.can;
    }

pub returns-in-None : goal.returns-in-None
returns-in-None c =
    let k = c.args.k.now in
    let q = c.args.p.now in
    let entry = c.count_entry.ensures.entered in
    let full = c.serve_in_full in
    let same = (rw c.in-None.is at c.return_at_once.ensures.none) ∙ c.resume_at_once.ensures.none c.if-resume_at_once.false in
    record {
      served = rw same at (full.ensures.served q entry);
      over = full.ensures.over;
      keeps = keeps_on
          (record { flash = ap (λ (k : Kernel). k.mote.flash) same; layout = ap (λ (k : Kernel). k.layout) same; torn = ap (λ (x : Progress). x.torn) entry }) full.ensures.keeps;
      steps = omega (arith, full.ensures.steps, steps_same c.count_entry.new.p q entry);
    }
