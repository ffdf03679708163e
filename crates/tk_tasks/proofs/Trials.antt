-- A try of the running task, as its machine makes it: an arrival and a step, or an interrupt.
use Rattle.std.proofs.Common.{◌≡◌, ℕ, zero, suc, ◌+◌, ◌-◌, ◌≤◌, Bool, true, false, cond, [], ◌++◌, refl, sym, ap, ap₂, ◌∙◌, arith, inl}
use Rattle.std.specs.Prelude.{◌==◌, ◌&&◌, Option, Some, None}
use Rattle.std.proofs.lemmas.Bool.{and_parts}
use Rattle.mote_devices.specs.declared.line.Line.{Line}
use Rattle.flash_words.specs.Operations.{is_listed}
use Rattle.flat_machine.specs.declared.part.Part.{Part}
use Rattle.flat_machine.specs.FlatMachine.{Moment, Next, is_own, is_taken, next_of}
use Rattle.kernel_entry.specs.Seen.{program as program_of}
use Rattle.avr_flags.specs.Status.{has_bit, interrupts}
use Rattle.mote_devices.specs.Waking.{is_enabled}
use Rattle.kernel_entry.specs.declared.kernel.Owed.{Owed}
use Rattle.kernel_entry.specs.declared.kernel.End.{End}
use Rattle.kernel_entry.specs.declared.kernel.End.TheVariants as ends
use Rattle.step_laws.specs.Moves.{line_before}
use Rattle.program_steps.specs.Machines.{Machine, flat_of}
use Rattle.program_steps.specs.Ready.{IsGoing}
use Rattle.program_steps.specs.Stepping.{HasStepped, StepWay, HasEntered, IsArrival}
use Rattle.program_steps.specs.Interrupts.{is_wanted_at, is_taken_now}
use Rattle.program_steps.specs.Several.{Silently, HasDone}
use Rattle.program_steps.proofs.Leading.{goes_on, stays_on}
use Rattle.program_steps.proofs.OneBehindOther.{goes_on_by, let_in}
use Rattle.program_steps.proofs.Waiting.{left_stepped, entered_own}
use Rattle.parked_tasks.specs.declared.task.TaskEnd.TheVariants.{Spent, Wild}
use Rattle.tk_tasks.specs.declared.trying.Tried.{Tried}
use Rattle.tk_tasks.specs.Trying.{rest_at, rest_if, task_end, Went, checks, Quietly, IsBehind, HasMade, HasTried}
use Rattle.task_turns.specs.Checkpoints.{checks_by}
use Rattle.task_turns.proofs.Crossings.{same_unchecked, taken_counts, undue_unchecked, Passes, pass_on, last_checks}

-- ---- an arrival, and a step

next_same : (x m : Machine) (next : Next) → program_of m.kernel ≡ program_of x.kernel → flat_of m ≡ flat_of x → next_of (program_of m.kernel) (flat_of m) ≡ next
    → next_of (program_of x.kernel) (flat_of x) ≡ next
next_same x m next program flat is = ap₂ next_of (sym program) (sym flat) ∙ is

way_behind : {x m y : Machine} {line : Option Line} → program_of m.kernel ≡ program_of x.kernel → flat_of m ≡ flat_of x → m.steps ≡ x.steps → StepWay m y line → StepWay x y line
way_behind {x} {m} program flat same (StepWay.On ready quiet steps is) = StepWay.On ready quiet (omega (arith, steps, same)) (next_same x m _ program flat is)
way_behind {x} {m} program flat same (StepWay.Stopped stop over kept none steps is left) = StepWay.Stopped stop over kept none (steps ∙ same) (next_same x m _ program flat is) (left ∙ flat)

pub went_entered : {x m y : Machine} {line : Option Line} → HasEntered x m None → HasStepped m y line → Went x y line
went_entered {x} {m} {y} {line} entered step = record {
  moves = entered.moves ++ step.moves;
  goes = goes_on x m y entered.moves step.moves [] (line_before line []) entered.goes step.goes;
  of_step = record { arrival = entered.moves; own = step.moves; parts = refl; arrives = entered.arrives; makes = step.own };
  stays = stays_on x m y entered.stays step.stays;
  broken = step.broken ∙ entered.broken;
  left = left_stepped m y line step.arrivals step.way;
  way = way_behind entered.stays.program entered.flat entered.steps step.way;
}

pub went_stepped : {x y : Machine} {line : Option Line} → HasStepped x y line → Went x y line
went_stepped {x} {y} {line} step = record {
  moves = step.moves;
  goes = step.goes;
  of_step = record { arrival = []; own = step.moves; parts = refl; arrives = IsArrival.NoArrival refl; makes = step.own };
  stays = step.stays;
  broken = step.broken;
  left = left_stepped x y line step.arrivals step.way;
  way = step.way;
}

-- ---- several steps

silently_passes : (n : ℕ) (a m : Machine) → Silently n a m → Passes a.kernel.quantum a.crossings m.crossings × (m.kernel.quantum ≡ a.kernel.quantum)
silently_passes zero a m same = (inl (ap (λ (z : Machine). z.crossings) (sym same)), ap (λ (z : Machine). z.kernel.quantum) (sym same))
silently_passes (suc n) a m (y, w, before, step, followed) =
    let so_far = silently_passes n a y before in
    let gone = goes_on_by y w None step.way followed.ready.going in
    let here : Passes y.kernel.quantum a.crossings y.crossings = rw so_far.1 so_far.0 in
    let on : Passes a.kernel.quantum a.crossings w.crossings = rw so_far.1 at (pass_on (program_of y.kernel) a.crossings (flat_of y) (flat_of w) None here gone.next followed.undue) in
    let same : w.crossings ≡ m.crossings = sym (ap (λ (z : Moment). z.now.crossings) followed.entered.flat) in
    (rw same at on, followed.entered.stays.quantum ∙ step.stays.quantum ∙ so_far.1)

-- plays that write nothing lead to where the last step begins
pub record Stands (n : ℕ) (x m : Machine) : Type 0 where
  pub y : Machine
  pub quietly : Quietly n x y
  pub entered : HasEntered y m None

pub silently_stands : (n : ℕ) {x a m : Machine} → HasEntered x a None → Silently n a m → Stands n x m
silently_stands zero {x} entered same = record { y = x; quietly = refl; entered = rw same at entered }
silently_stands (suc n) {x} {a} {m} entered (y, w, before, step, followed) =
    let so_far = silently_stands n entered before in
    let went = went_entered so_far.entered step in
    let gone = goes_on_by so_far.y w None went.way followed.ready.going in
    record {
      y = w;
      quietly = (
        so_far.y,
        so_far.quietly,
        went,
        followed.ready,
        (let_in w m None followed.entered refl).inside,
        undue_unchecked (program_of so_far.y.kernel) (flat_of so_far.y) (flat_of w) None gone.next followed.undue,
      );
      entered = followed.entered;
    }

-- ---- what they leave

behind_same : {x m y : Machine} {left : ℕ} {tried : Tried} → HasEntered x m None → IsBehind m y left tried → IsBehind x y left tried
behind_same {x} {m} {y} {left} entered (IsBehind.On ready changes end) =
    let same = ap₂ (λ q c. checks_by q c y.crossings) entered.stays.quantum (ap (λ (z : Moment). z.now.crossings) entered.flat) in
    IsBehind.On ready (changes ∙ same) (end ∙ ap (λ c. rest_if c y.kernel.part y.at left) same)
behind_same entered (IsBehind.Over stop kept changes end) = IsBehind.Over stop kept changes end

pub tried_steps : {x a y : Machine} {left : ℕ} {tried : Tried} → rest_at x.kernel.part x.at left ≡ None → HasEntered x a None → HasMade a y left tried → HasTried x y left tried
tried_steps none entered made =
    let stands = silently_stands made.earlier entered made.silently in
    HasTried.Steps made.earlier stands.y none made.few made.counted stands.quietly (went_entered stands.entered made.step) (behind_same stands.entered made.behind)

-- a task that does not rest has a step left, and is in its part
rests_not : (own : Bool) (at left : ℕ) → cond own (cond (left == 0) (Some Spent) None) (Some (Wild at)) ≡ None → (own ≡ true) × (1 ≤ left)
rests_not false at left none = absurd (cc)
rests_not true at zero none = absurd (cc)
rests_not true at (suc n) none = (refl, omega arith)

pub unrested : (part : Part) (at left : ℕ) → rest_at part at left ≡ None → (is_own part at ≡ true) × (1 ≤ left)
unrested part at left none = rests_not (is_own part at) at left none

pub tried_taken : {x y : Machine} {left : ℕ} {tried : Tried} → rest_at x.kernel.part x.at left ≡ None → tried.count ≡ 1 → HasStepped x y tried.line → ((left : ℕ) → IsBehind x y left tried)
    → HasTried x y left tried
tried_taken {x} {y} {left} none one step behind =
    let some = unrested x.kernel.part x.at left none in
    HasTried.Steps 0 x none (omega (arith, some.1)) one refl (went_stepped step) (behind (left - (0 + 1)))

-- ---- the machine behind an arrival, and behind steps

-- what `behind` tells is what stands behind the last of several steps
behind_by : (a : Machine) {last y : Machine} (n left : ℕ) (tried : Tried) → Silently n a last → y.kernel.quantum ≡ a.kernel.quantum
    → (y.end ≡ None → (tried.changes ≡ checks_by y.kernel.quantum a.crossings y.crossings) × (tried.end ≡ rest_if (checks_by y.kernel.quantum a.crossings y.crossings) y.kernel.part y.at left))
    → ((end : End) → y.end ≡ Some end → (tried.changes ≡ true) × (tried.end ≡ Some (task_end end))) → StepWay last y tried.line → IsBehind last y left tried
behind_by a {last} {y} n left tried before quantum on over (StepWay.On ready quiet steps is) =
    let told = on ready.going in
    let passed = silently_passes n a last before in
    let here : Passes last.kernel.quantum a.crossings last.crossings = rw passed.1 passed.0 in
    let all : checks_by y.kernel.quantum a.crossings y.crossings ≡ checks last y = ap (λ q. checks_by q a.crossings y.crossings) (quantum ∙ sym passed.1)
    ∙ last_checks (program_of last.kernel) a.crossings (flat_of last) (flat_of y) tried.line here is in
    IsBehind.On ready (told.0 ∙ all) (told.1 ∙ ap (λ c. rest_if c y.kernel.part y.at left) all)
behind_by a n left tried before quantum on over (StepWay.Stopped stop ended kept none steps is stays) =
    let told = over (ends.Stopped stop) kept in
    IsBehind.Over stop kept told.0 told.1

pub made_done : {a y : Machine} (left : ℕ) {count : ℕ} {line : Option Line} (tried : Tried) → HasDone a y count line → count ≤ left → tried.count ≡ count → tried.line ≡ line
    → (y.end ≡ None → (tried.changes ≡ checks_by y.kernel.quantum a.crossings y.crossings)
    × (tried.end ≡ rest_if (checks_by y.kernel.quantum a.crossings y.crossings) y.kernel.part y.at (left - count)))
    → ((end : End) → y.end ≡ Some end → (tried.changes ≡ true) × (tried.end ≡ Some (task_end end))) → HasMade a y left tried
made_done {a} {y} left {count} tried done within told lines on over =
    let step : HasStepped done.last y tried.line = rw lines done.step in
    let passed = silently_passes done.earlier a done.last done.silently in
    let quantum : y.kernel.quantum ≡ a.kernel.quantum = step.stays.quantum ∙ passed.1 in
    let left_is : left - count ≡ left - (done.earlier + 1) = ap (λ k. left - k) done.counted in
    record {
      earlier = done.earlier;
      last = done.last;
      few = omega (arith, done.counted, within);
      counted = told ∙ done.counted;
      silently = done.silently;
      step = step;
      behind = rw left_is at (behind_by a done.earlier (left - count) tried done.silently quantum on over step.way);
    }

-- ---- an interrupt

taken_owed : (m : Machine) (owed : Option Owed) → m.due && is_wanted_at m.kernel owed ≡ true → is_taken (flat_of m) ≡ true
taken_owed m None is = absurd (let both = and_parts m.due false is in let e : ◌≡◌ {A = Bool} false true = both.1 in cc)
taken_owed m (Some owed) is =
    let both = and_parts m.due (is_own m.kernel.part owed.target && (has_bit m.kernel.mote.cpu.sreg interrupts && is_enabled m.kernel.mote.devices)) is in
    let wanted = and_parts (is_own m.kernel.part owed.target) (has_bit m.kernel.mote.cpu.sreg interrupts && is_enabled m.kernel.mote.devices) both.1 in
    ap₂ (λ b c. b && c) both.0 wanted.1

taken_way : {x y : Machine} (tried : Tried) → is_taken (flat_of x) ≡ true → StepWay x y None → y.end ≡ None → tried.changes ≡ false → tried.end ≡ None → (left : ℕ) → IsBehind x y left tried
taken_way {x} {y} tried taken (StepWay.On ready quiet steps is) going changes end left =
    let none : checks x y ≡ false = same_unchecked x.kernel.quantum x.crossings y.crossings (taken_counts (program_of x.kernel) (flat_of x) (flat_of y) None taken is) in
    IsBehind.On ready (changes ∙ sym none) (end ∙ ap (λ c. rest_if c y.kernel.part y.at left) (sym none))
taken_way tried taken (StepWay.Stopped stop over kept none steps is stays) going changes end left = absurd (let e : Some (ends.Stopped stop) ≡ None = sym kept ∙ going in cc)

pub taken_on : {x y : Machine} (tried : Tried) → is_taken_now x ≡ true → HasStepped x y None → y.end ≡ None → tried.changes ≡ false → tried.end ≡ None → (left : ℕ) → IsBehind x y left tried
taken_on {x} tried wanted step going changes end left = taken_way tried (taken_owed x x.owed wanted) step.way going changes end left

pub taken_over : {x y : Machine} (end : End) (tried : Tried) → StepWay x y None → y.end ≡ Some end → tried.changes ≡ true → tried.end ≡ Some (task_end end) → (left : ℕ) → IsBehind x y left tried
taken_over end tried (StepWay.On ready quiet steps is) over changes ended left = absurd (let e : Some end ≡ None = sym over ∙ ready.going in cc)
taken_over end tried (StepWay.Stopped stop over' kept none steps is stays) over changes ended left =
    let same : Some end ≡ Some (ends.Stopped stop) = sym over ∙ kept in
    let its : end ≡ ends.Stopped stop = cc in
    IsBehind.Over stop kept changes (ended ∙ ap (λ e. Some (task_end e)) its)

pub done_quantum : {a y : Machine} {count : ℕ} {line : Option Line} → IsGoing a → HasDone a y count line → 1 ≤ y.kernel.quantum
done_quantum {a} {y} ready done =
    let passed = silently_passes done.earlier a done.last done.silently in
    let same : y.kernel.quantum ≡ a.kernel.quantum = done.step.stays.quantum ∙ passed.1 in
    omega (arith, ready.some, ready.most)

-- ---- an arrival of a task that does not rest

pub record Enters (x a : Machine) : Type 0 where
  pub entered : HasEntered x a None
  pub ready : IsGoing a
  pub placed : a.owed ≡ None
  pub untaken : is_taken (flat_of a) ≡ false
  pub left : (left : ℕ) → rest_at x.kernel.part x.at left ≡ None → 1 ≤ left

pub entered_in : {x a : Machine} {result : Option End} (left : ℕ) → rest_at x.kernel.part x.at left ≡ None → x.kernel.mote.flash.failing ≡ [] → HasEntered x a result → Enters x a
entered_in {x} {a} {result} left none unfailing entered =
    let own = unrested x.kernel.part x.at left none in
    let all = entered_own x a result own.0 (λ op. ap (λ l. is_listed l op) (entered.stays.failing ∙ unfailing)) entered.way in
    record {
      entered = rw all.0 at entered;
      ready = all.1;
      placed = all.2;
      untaken = (let_in x a result entered all.0).untaken;
      left = λ k rest. (unrested x.kernel.part x.at k rest).1;
    }
