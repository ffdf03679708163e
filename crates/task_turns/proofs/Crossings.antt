-- What a step of a program does to its crossings, and which steps are checkpoints.
use Rattle.std.proofs.Common.{◌≡◌, ℕ, ◌+◌, ◌%◌, ◌<◌, ◌⊎◌, Bool, true, false, cond, refl, sym, ap, ◌∙◌, arith, subst, inl, inr}
use Rattle.std.specs.Prelude.{◌&&◌, ◌==◌, nat_lt, not, Option, Some, None}
use Rattle.std.proofs.lemmas.Bool.Decides.{nat_tests}
use Rattle.std.proofs.lemmas.Bool.{and_right}
use Rattle.mote_devices.specs.declared.line.Line.{Line}
use Rattle.mote_devices.specs.State.{State}
use Rattle.mote_devices.specs.Waking.{wake, enabled}
use Rattle.avr_isa.specs.declared.form.Form.{Form}
use Rattle.avr_isa.specs.declared.form.Form.TheVariants.{Sleep, Spm}
use Rattle.avr_isa.specs.Crossing.{is_crossing}
use Rattle.avr_decode.specs.Program.{instruction_at}
use Rattle.avr_flags.specs.Status.{has_bit, interrupts}
use Rattle.avr_exec.specs.declared.cpu.Cpu.{Cpu}
use Rattle.avr_exec.specs.StackRules.{push_return_on}
use Rattle.avr_exec.specs.Spaces.{Outcome, Went, Stopped}
use Rattle.avr_exec.specs.Execution.{exec_of, is_executed}
use Rattle.flat_machine.specs.declared.part.Part.{Part}
use Rattle.flat_machine.specs.FlatSpace.{FlatSpace, flat_calls, flat_stack}
use Rattle.flat_machine.specs.FlatMachine.{Program, FlatState, Moment, Tried, Stops, Goes, Wakes, Halted, Asleep, Next, Ends, On, tried, tried_form, executed, stepped, slept_by, read_or_executed}
use Rattle.flat_machine.specs.FlatMachine.{foreign_word, space_of, next_size, jumps_to_itself, next_of, next_by, is_taken, interrupted, interrupted_by, lowest}
use Rattle.flat_machine.proofs.MachineLaws.{form_tried}
use Rattle.task_turns.specs.Checkpoints.{checks_by}

-- ---- a try

abbrev counted : FlatState → FlatState → Type 0
counted s next = next.crossings ≡ cond (is_crossing s.cpu.pc next.cpu.pc) (s.crossings + 1) s.crossings

abbrev TriedCounts : FlatState → Tried → Type 0
TriedCounts s (Stops end) = Unit {0}
TriedCounts s (Goes line next) = counted s next
TriedCounts s (Wakes next) = counted s next

counts_either : (s : FlatState) (b : Bool) (x y : Tried) → TriedCounts s x → TriedCounts s y → TriedCounts s (cond b x y)
counts_either s true x y h k = h
counts_either s false x y h k = k

counts_stepped : (s : FlatState) (o : Outcome FlatSpace Cpu) → TriedCounts s (stepped s o)
counts_stepped s (Stopped stop) = tt
counts_stepped s (Went cpu space) = refl

counts_executed : (program : Program) (s : FlatState) (form : Form) → TriedCounts s (executed program s form)
counts_executed program s form =
    counts_either s (jumps_to_itself s.cpu.pc form && not (has_bit s.cpu.sreg interrupts)) (Stops (Halted s.cpu.pc)) _ tt
    (counts_stepped s (exec_of flat_calls form s.cpu (space_of program s) (next_size program.image s.cpu.pc)))

counts_read : (program : Program) (s : FlatState) (form : Form) (foreign : Option ℕ) → TriedCounts s (read_or_executed program s form foreign)
counts_read program s form (Some a) = tt
counts_read program s form None = counts_executed program s form

counts_woken : (s : FlatState) (woken : Option State) → TriedCounts s (slept_by s woken)
counts_woken s None = tt
counts_woken s (Some devices) = refl

counts_stops : (program : Program) (s : FlatState) (form : Form) → is_executed form ≡ false → TriedCounts s (tried_form program s (Some form))
unfolding is_executed
counts_stops program s Sleep is = counts_either s (has_bit s.cpu.sreg interrupts) (slept_by s (wake s.devices)) (Stops (Asleep s.cpu.pc)) (counts_woken s (wake s.devices)) tt
counts_stops program s Spm is = tt
counts_stops program s _ is = absurd (cc)

counts_form : (program : Program) (s : FlatState) (form : Form) (b : Bool) → is_executed form ≡ b → TriedCounts s (tried_form program s (Some form))
counts_form program s form false is = counts_stops program s form is
counts_form program s form true is = rw (form_tried program s form is) (counts_read program s form (foreign_word program s form))

counts_any : (program : Program) (s : FlatState) (o : Option Form) → TriedCounts s (tried_form program s o)
counts_any program s None = tt
counts_any program s (Some form) = counts_form program s form (is_executed form) refl

counts_tried : (program : Program) (s : FlatState) → TriedCounts s (tried program s)
unfolding tried
counts_tried program s = counts_any program s (instruction_at program.image s.cpu.pc)

-- ---- a step

-- it is a crossing or none; and one behind which no interrupt is due is no checkpoint
abbrev pub Counts : (quantum : ℕ) → FlatState → Moment → Type 0
Counts quantum s m = (m.now.crossings ≡ s.crossings) ⊎ ((m.now.crossings ≡ s.crossings + 1) × (m.due ≡ false → (m.now.crossings % quantum == 0) ≡ false))

goes_counts : (quantum : ℕ) (s next : FlatState) (crosses : Bool) → next.crossings ≡ cond crosses (s.crossings + 1) s.crossings
    → Counts quantum s (record { now = next; due = crosses && (next.crossings % quantum == 0) })
goes_counts quantum s next true is = inr (is, λ undue. undue)
goes_counts quantum s next false is = inl is

wakes_counts : (quantum : ℕ) (s next : FlatState) (crosses : Bool) → next.crossings ≡ cond crosses (s.crossings + 1) s.crossings → Counts quantum s (record { now = next; due = true })
wakes_counts quantum s next true is = inr (is, λ undue. absurd (let e : ◌≡◌ {A = Bool} true false = undue in cc))
wakes_counts quantum s next false is = inl is

by_counts : (quantum : ℕ) (s : FlatState) (t : Tried) (line : Option Line) (m : Moment) → TriedCounts s t → next_by quantum s t ≡ On line m → Counts quantum s m
by_counts quantum s (Stops end) line m is next = absurd (cc)
by_counts quantum s (Goes wrote now) line m is next =
    let its : record { now = now; due = is_crossing s.cpu.pc now.cpu.pc && (now.crossings % quantum == 0) } ≡ m = cc in
    subst (Counts quantum s) its (goes_counts quantum s now (is_crossing s.cpu.pc now.cpu.pc) is)
by_counts quantum s (Wakes now) line m is next =
    let its : record { now = now; due = true } ≡ m = cc in
    subst (Counts quantum s) its (wakes_counts quantum s now (is_crossing s.cpu.pc now.cpu.pc) is)

-- the moment that comes next, if one does
moment_or : Moment → Next → Moment
moment_or m (Ends end) = m
moment_or m (On line next) = next

interrupted_counts : (part : Part) (s : FlatState) (k : ℕ) (o : Outcome FlatSpace (Unit {0})) (line : Option Line) (m : Moment) → interrupted_by part s k o ≡ On line m → m.now.crossings ≡ s.crossings
unfolding moment_or
interrupted_counts part s k (Stopped stop) line m is = absurd (cc)
interrupted_counts part s k (Went done space) line m is = sym (ap (λ (next : Next). (moment_or m next).now.crossings) is)

taken_by : (program : Program) (m : Moment) (b : Bool) (line : Option Line) (new : Moment) → b ≡ true
    → cond b (interrupted program m.now) (next_by program.quantum m.now (tried program m.now)) ≡ On line new → new.now.crossings ≡ m.now.crossings
taken_by program m true line new taken is =
    interrupted_counts program.part m.now (lowest (enabled m.now.devices)) (push_return_on flat_stack (space_of program m.now) m.now.cpu.sp m.now.cpu.pc) line new is
taken_by program m false line new taken is = absurd (cc)

-- an interrupt is no crossing
pub taken_counts : (program : Program) (m new : Moment) (line : Option Line) → is_taken m ≡ true → next_of program m ≡ On line new → new.now.crossings ≡ m.now.crossings
unfolding next_of
taken_counts program m new line taken is = taken_by program m (is_taken m) line new taken is

counts_by : (program : Program) (m : Moment) (b : Bool) (line : Option Line) (new : Moment) → cond b (interrupted program m.now) (next_by program.quantum m.now (tried program m.now)) ≡ On line new
    → Counts program.quantum m.now new
counts_by program m true line new is = inl (taken_by program m true line new refl is)
counts_by program m false line new is = by_counts program.quantum m.now (tried program m.now) line new (counts_tried program m.now) is

pub next_counts : (program : Program) (m new : Moment) (line : Option Line) → next_of program m ≡ On line new → Counts program.quantum m.now new
unfolding next_of
next_counts program m new line is = counts_by program m (is_taken m) line new is

-- ---- checkpoints, where the crossings are counted from a to b

and_true : (b c : Bool) → b ≡ true → b && c ≡ c
and_true true c is = refl
and_true false c is = absurd (cc)

not_less : (a : ℕ) → nat_lt a a ≡ false
not_less a = grind (arith, nat_tests)

is_less : (a b : ℕ) → a < b → nat_lt a b ≡ true
is_less a b less = grind (arith, nat_tests)

pub same_unchecked : (quantum a b : ℕ) → b ≡ a → checks_by quantum a b ≡ false
same_unchecked quantum a b same = ap (λ c. nat_lt a c && (c % quantum == 0)) same ∙ ap (λ l. l && (a % quantum == 0)) (not_less a)

-- a step behind which none is due is none
pub undue_unchecked : (program : Program) (m new : Moment) (line : Option Line) → next_of program m ≡ On line new → new.due ≡ false
    → checks_by program.quantum m.now.crossings new.now.crossings ≡ false
undue_unchecked program m new line is undue = elim (next_counts program m new line is) [
  | inl same ↦ same_unchecked program.quantum m.now.crossings new.now.crossings same
  | inr both ↦ and_right (nat_lt m.now.crossings new.now.crossings) (new.now.crossings % program.quantum == 0) (both.1 undue)
]

-- several steps, of which none is one
abbrev pub Passes : (quantum a b : ℕ) → Type 0
Passes quantum a b = (b ≡ a) ⊎ ((a < b) × ((b % quantum == 0) ≡ false))

pub pass_on : (program : Program) (a : ℕ) (m new : Moment) (line : Option Line) → Passes program.quantum a m.now.crossings → next_of program m ≡ On line new → new.due ≡ false
    → Passes program.quantum a new.now.crossings
pass_on program a m new line so_far is undue = elim (next_counts program m new line is) [
  | inl same ↦ rw same so_far
  | inr both ↦ elim so_far [
    | inl same ↦ inr (omega (arith, both.0, same), both.1 undue)
    | inr past ↦ inr (omega (arith, both.0, past.0), both.1 undue)
  ]
]

-- so the last of several steps is one just where the crossings of all are a multiple
pub last_checks : (program : Program) (a : ℕ) (m new : Moment) (line : Option Line) → Passes program.quantum a m.now.crossings → next_of program m ≡ On line new
    → checks_by program.quantum a new.now.crossings ≡ checks_by program.quantum m.now.crossings new.now.crossings
last_checks program a m new line so_far is = elim so_far [
  | inl same ↦ ap (λ c. checks_by program.quantum c new.now.crossings) (sym same)
  | inr past ↦ elim (next_counts program m new line is) [
    | inl same ↦
        let none : (new.now.crossings % program.quantum == 0) ≡ false = ap (λ c. c % program.quantum == 0) same ∙ past.1 in
        and_right (nat_lt a new.now.crossings) (new.now.crossings % program.quantum == 0) none
        ∙ sym (and_right (nat_lt m.now.crossings new.now.crossings) (new.now.crossings % program.quantum == 0) none)
    | inr both ↦
        and_true (nat_lt a new.now.crossings) (new.now.crossings % program.quantum == 0) (is_less a new.now.crossings (omega (arith, both.0, past.0)))
        ∙ sym (and_true (nat_lt m.now.crossings new.now.crossings) (new.now.crossings % program.quantum == 0) (is_less m.now.crossings new.now.crossings (omega (arith, both.0))))
  ]
]
