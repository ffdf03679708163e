-- Where a step led, from what its moves told.
use Rattle.program_steps.proofs.Awaiting.{awaits_some, awaits_none, some_same}
use Rattle.step_laws.specs.States.{Awaited}
use Rattle.std.proofs.Common.{◌≡◌, ℕ, refl, sym, ap, subst, ◌∙◌}
use Rattle.std.specs.Prelude.{◌≢◌, ◌&&◌, is_some, Option, Some, None}
use Rattle.page_index.specs.Entries.{IsEntry, IsMapped}
use Rattle.page_index.proofs.EntryLaws.{one_address}
use Rattle.kernel_entry.specs.declared.kernel.Kernel.{Kernel}
use Rattle.kernel_entry.specs.declared.kernel.Owed.{Owed}
use Rattle.program_steps.specs.declared.progress.Progress.{Progress}
use Rattle.program_steps.specs.Machines.{Machine}
use Rattle.step_laws.specs.StepLaws.{Reaches, crossings_over}
use Rattle.program_steps.specs.Loop.{IsHalted, HasReached, target, settled_at}
use Rattle.program_steps.specs.Ready.{IsQuiet}
use Rattle.program_steps.specs.Stepping.{IsTold, settled, HasSettled, HasStepped}
use Rattle.program_steps.specs.Wholes.{whole}

told_owed : (m : Machine) (owed : Owed) → m.owed ≡ Some owed → IsTold m owed.target
told_owed m owed is t due (Reaches.Placed quiet free entry) = absurd (let e = sym (awaits_some m owed is) ∙ free in cc)
told_owed m owed is t due (Reaches.Owing stub alone owes of) = ap (λ (w : Awaited). w.target) (some_same (sym (awaits_some m owed is) ∙ owes))

told_entry : (m : Machine) {t : ℕ} → IsMapped m.kernel.layout m.kernel.mote.flash.words → m.owed ≡ None → IsEntry m.kernel.layout m.kernel.mote.flash.words t m.kernel.mote.cpu.pc → IsTold m t
told_entry m {t} mapped free entry u due (Reaches.Placed quiet free' entry') = one_address m.kernel.layout m.kernel.mote.flash.words t u m.kernel.mote.cpu.pc mapped entry entry'.0
told_entry m mapped free entry u due (Reaches.Owing stub alone owes of) = absurd (let e = sym owes ∙ awaits_none m free in cc)

settled_by : {m : Machine} {to : ℕ} → m.end ≡ None → IsTold m to → HasSettled m (settled m to)
settled_by {m} going told = record { on = λ t due end where'. ap (settled m) (told t due where'); over = λ ended. absurd (ended going) }

settled_halted : (k : Kernel) (p : Progress) (o : Option Owed) → p.owed ≡ o → IsHalted (whole k p) → HasSettled (whole k p) (whole k (settled_at (target None o) p))
settled_halted k p (Some owed) owes (IsHalted.Owes some going) =
    subst (λ d. HasSettled (whole k p) (whole k (record p { at = owed.target; crossings = crossings_over p.at owed.target p.crossings; due = d }))) (ap (λ o. is_some o && p.due) owes)
    (settled_by going (told_owed (whole k p) owed owes))
settled_halted k p (Some owed) owes (IsHalted.Ended free ended) = absurd (let e : Some owed ≡ None = sym owes ∙ free in cc)
settled_halted k p None owes (IsHalted.Owes some going) = absurd (some owes)
settled_halted k p None owes (IsHalted.Ended free ended) = record { on = λ t due end where'. absurd (ended end); over = λ ended. refl }

pub settled_as : (k : Kernel) (p : Progress) (reached : Option ℕ) → IsMapped k.layout k.mote.flash.words → IsQuiet (whole k p) → HasReached (whole k p) reached
    → HasSettled (whole k p) (whole k (settled_at (target reached p.owed) p))
settled_as k p (Some t) mapped quiet at =
    subst (λ d. HasSettled (whole k p) (whole k (record p { at = t; crossings = crossings_over p.at t p.crossings; due = d }))) (ap (λ o. is_some o && p.due) at.0 ∙ sym (quiet at.0))
    (settled_by at.1 (told_entry (whole k p) mapped at.0 at.2))
settled_as k p None mapped quiet halted = settled_halted k p p.owed refl halted

ended_halted : (k : Kernel) (p : Progress) → IsHalted (whole k p) → p.end ≢ None → p.owed ≡ None
ended_halted k p (IsHalted.Owes some going) ended = absurd (ended going)
ended_halted k p (IsHalted.Ended free over) ended = free

ended_reached : (k : Kernel) (p : Progress) (reached : Option ℕ) → HasReached (whole k p) reached → p.end ≢ None → p.owed ≡ None
ended_reached k p (Some t) at ended = at.0
ended_reached k p None halted ended = ended_halted k p halted ended

rest_settled : (to : Option ℕ) (p : Progress) → ((settled_at to p).end ≡ p.end) × ((settled_at to p).owed ≡ p.owed)
rest_settled (Some t) p = (refl, refl)
rest_settled None p = (refl, refl)

-- where the program has ended, nothing is owed
pub ended_free : (k : Kernel) (p q : Progress) (reached : Option ℕ) → HasReached (whole k p) reached → q ≡ settled_at (target reached p.owed) p → q.end ≢ None → q.owed ≡ None
ended_free k p q reached at is ended =
    let rest = rest_settled (target reached p.owed) p in
    ap (λ (x : Progress). x.owed) is ∙ rest.1 ∙ ended_reached k p reached at (λ going. ended (ap (λ (x : Progress). x.end) is ∙ rest.0 ∙ going))

-- settling leaves the page that is torn, and the line
pub torn_settled : (to : Option ℕ) (p : Progress) → (settled_at to p).torn ≡ p.torn
torn_settled (Some t) p = refl
torn_settled None p = refl

pub line_settled : (to : Option ℕ) (p : Progress) → (settled_at to p).line ≡ p.line
line_settled (Some t) p = refl
line_settled None p = refl

-- a step that was settled
pub stepped_as : (old : Machine) (k : Kernel) (p q : Progress) (reached : Option ℕ) → (HasSettled (whole k p) (whole k q) → HasStepped old (whole k q) p.line)
    → IsMapped k.layout k.mote.flash.words → IsQuiet (whole k p) → HasReached (whole k p) reached → q ≡ settled_at (target reached p.owed) p → HasStepped old (whole k q) q.line
stepped_as old k p q reached gone mapped quiet at is =
    let done : HasSettled (whole k p) (whole k q) = rw is (settled_as k p reached mapped quiet at) in
    let line : q.line ≡ p.line = ap (λ (r : Progress). r.line) is ∙ line_settled (target reached p.owed) p in
    rw line (gone done)
