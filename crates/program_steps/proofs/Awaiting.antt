-- The arrival that a machine owes, as its moves see it.
use Rattle.std.proofs.Common.{◌≡◌, ℕ, Bool, refl, sym, ap, ◌∙◌}
use Rattle.std.specs.Prelude.{◌≢◌, ◌&&◌, is_some, Option, Some, None}
use Rattle.kernel_entry.specs.declared.kernel.Owed.{Owed}
use Rattle.step_laws.specs.States.{Awaited, State}
use Rattle.step_laws.specs.Links.{Links}
use Rattle.step_laws.specs.StepLaws.{Reaches}
use Rattle.program_steps.specs.Machines.{Machine, awaited, awaits, state_of}
use Rattle.program_steps.specs.Stepping.{settled}

pub some_same : {a b : Awaited} → ◌≡◌ {A = Option Awaited} (Some a) (Some b) → a ≡ b
some_same is = cc

pub awaits_some : (m : Machine) (owed : Owed) → m.owed ≡ Some owed → (state_of m).owed ≡ Some (record { target = owed.target; stub = owed.stub; due = m.due })
awaits_some m owed owes = ap (λ o. awaited o m.due) owes

pub awaits_none : (m : Machine) → m.owed ≡ None → (state_of m).owed ≡ None
awaits_none m free = ap (λ o. awaited o m.due) free

free_by : (o : Option Owed) (due : Bool) → awaited o due ≡ None → o ≡ None
free_by None due is = refl
free_by (Some owed) due is = absurd (cc)

pub free_of : (m : Machine) → (state_of m).owed ≡ None → m.owed ≡ None
free_of m is = free_by m.owed m.due is

pub owes_of : (m : Machine) → m.owed ≢ None → (state_of m).owed ≢ None
owes_of m owes = λ free. owes (free_of m free)

-- where nothing is owed, what is awaited is nothing, whether due or not
twice_by : (o : Option Owed) (due : Bool) → awaited o (is_some o && due) ≡ awaited o due
twice_by None due = refl
twice_by (Some owed) due = refl

pub state_settled : (m : Machine) (to : ℕ) → state_of (settled m to) ≡ state_of m
state_settled m to = ap (λ o. record { kernel = m.kernel; owed = o; end = m.end; torn = m.torn }) (twice_by m.owed m.due)

-- whether an interrupt is due, where control has come to
owing_by : (o : Option Owed) (due d : Bool) (t : ℕ) (stub : Option ℕ) → awaited o due ≡ Some (record { target = t; stub = stub; due = d }) → is_some o && due ≡ d
owing_by None due d t stub is = absurd (cc)
owing_by (Some owed) due d t stub is = ap (λ (w : Awaited). w.due) (some_same is)

pub due_reached : (m : Machine) {links : Links} {t : ℕ} {d : Bool} {z : State} → state_of m ≡ z → Reaches links t d z → awaits m ≡ d
due_reached m is (Reaches.Placed quiet free entry) =
    let none : m.owed ≡ None = free_of m (ap (λ (s : State). s.owed) is ∙ free) in
    ap (λ o. is_some o && m.due) none ∙ sym quiet
due_reached m {links} {t} {d} is (Reaches.Owing stub alone owes of) = owing_by m.owed m.due d t stub (ap (λ (s : State). s.owed) is ∙ owes)
