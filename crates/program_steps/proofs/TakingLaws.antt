-- An interrupt that is taken is a step of the program.
use Rattle.std.proofs.Common.{◌≡◌, ℕ, ◌+◌, ◌<◌, Bool, true, false, [], ◌∷◌, length, refl, sym, ap, ap₂, ◌∙◌, arith, subst}
use Rattle.std.specs.Prelude.{◌^◌, ◌&&◌, ◌-◌, ◌%◌, is_some, Some, None, Option}
use Rattle.std.proofs.lemmas.Bool.{and_parts}
use Rattle.flat_machine.specs.FlatMachine.{is_own, next_of}
use Rattle.avr_flags.specs.Status.{has_bit, interrupts}
use Rattle.flash_words.specs.Memory.{Memory}
use Rattle.mote_devices.specs.Waking.{is_enabled}
use Rattle.flat_machine.specs.FlatMachine as flat_ends
use Rattle.kernel_entry.specs.declared.kernel.Kernel.{Kernel}
use Rattle.kernel_entry.specs.declared.kernel.Stop.{Stop}
use Rattle.kernel_entry.specs.declared.kernel.Taken.{Taken}
use Rattle.kernel_entry.specs.declared.kernel.Taken.TheVariants as answers
use Rattle.kernel_entry.specs.Seen.{program, state_at, end_of}
use Rattle.kernel_entry.specs.Interrupts.{is_wanted, taken}
use Rattle.kernel_entry.proofs.InterruptLaws.{AsTaken, KeepsTaken, interrupt_taken, interrupt_keeps, interrupt_stays}
use Rattle.kernel_entry.specs.declared.kernel.Owed.{Owed}
use Rattle.kernel_entry.specs.declared.kernel.End.TheVariants as ends
use Rattle.step_laws.specs.Moves.{Take, lines_of}
use Rattle.step_laws.specs.Numbers.{moved}
use Rattle.step_laws.specs.States.{Awaited, State, after_taking, stops_taking}
use Rattle.step_laws.specs.Walks.{MakesTake}
use Rattle.step_laws.specs.StepLaws.{Keeps, Reaches}
use Rattle.program_steps.specs.Machines.{Machine, awaited, state_of, numbers_of}
use Rattle.program_steps.specs.Ready.{count_in, IsGoing, HasBounds}
use Rattle.program_steps.specs.Stepping.{HasStepped, StepWay, AreOwn}
use Rattle.program_steps.specs.Interrupts.{IsUntaken, is_wanted_at, is_taken_now}
use Rattle.program_steps.proofs.Bounds.{bounded_counted, most_owed}
use Rattle.program_steps.proofs.Arrived.{owed_at}
use Rattle.program_steps.proofs.ReadyLaws.{order_on}
use Rattle.program_steps.proofs.Stepped.{stays_by}
use Rattle.program_steps.proofs.Awaiting.{awaits_some, some_same}

-- what is known where one is to be taken
record Wanted (m : Machine) (owed : Owed) : Type 0 where
  due : m.due ≡ true
  inside : is_own m.kernel.part owed.target ≡ true
  on : has_bit m.kernel.mote.cpu.sreg interrupts ≡ true
  some : is_enabled m.kernel.mote.devices ≡ true

wanted_of : (m : Machine) (owed : Owed) → m.owed ≡ Some owed → is_taken_now m ≡ true → Wanted m owed
wanted_of m owed owes is =
    let one = and_parts m.due (is_wanted_at m.kernel m.owed) is in
    let two = and_parts (is_own m.kernel.part owed.target) (has_bit m.kernel.mote.cpu.sreg interrupts && is_enabled m.kernel.mote.devices) (sym (ap (is_wanted_at m.kernel) owes) ∙ one.1) in
    let three = and_parts (has_bit m.kernel.mote.cpu.sreg interrupts) (is_enabled m.kernel.mote.devices) two.1 in
    record { due = one.0; inside = two.0; on = three.0; some = three.1 }

pub none_wanted : (m : Machine) → m.owed ≡ None → is_taken_now m ≡ true → ⊥
none_wanted m free is =
    let one = and_parts m.due (is_wanted_at m.kernel m.owed) is in
    absurd (let e : false ≡ true = sym (ap (is_wanted_at m.kernel) free) ∙ one.1 in cc)

pub none_taken : (m : Machine) (owed : Owed) → m.owed ≡ Some owed → is_taken_now m ≡ true → is_wanted m.kernel ≡ false → ⊥
none_taken m owed owes is none =
    let w = wanted_of m owed owes is in
    absurd (let e : true ≡ false = sym (ap₂ (λ b c. b && c) w.on w.some) ∙ none in cc)

abbrev awaited_of : Machine → Owed → Awaited
awaited_of m owed = record { target = owed.target; stub = owed.stub; due = m.due }

-- the move
take_move : {m : Machine} {owed : Owed} (answer : Taken × Kernel) (stops : Bool) (y : State) → IsGoing m → m.owed ≡ Some owed → m.steps < 2 ^ 50 → Wanted m owed → answer ≡ taken m.kernel owed.target
    → stops_taking answer.0 ≡ stops → y ≡ after_taking (state_of m) answer
    → MakesTake (state_of m) stops y
take_move {m} {owed} answer stops y ready owes few w is halts result =
    record {
      owed = awaited_of m owed;
      owes = awaits_some m owed owes;
      going = ready.going;
      taken_now = ap₂ (λ d b. d && (b && (has_bit m.kernel.mote.cpu.sreg interrupts && is_enabled m.kernel.mote.devices))) w.due w.inside ∙ ap₂ (λ a b. a && b) w.on w.some;
      room = omega (arith, ready.polls);
      paged = ready.order.paged;
      halts = ap (λ (a : Taken × Kernel). stops_taking a.0) (sym is) ∙ halts;
      result = result ∙ ap (after_taking (state_of m)) is;
    }

-- the machine after it
abbrev vectored : Machine → ℕ → Kernel → Machine
vectored m v k = record m { kernel = k; owed = Some (record { target = v; stub = None }); due = false; at = v; steps = m.steps + 1 }

keeps_taken : {m : Machine} (v : ℕ) {k : Kernel} → KeepsTaken m.kernel k → IsGoing m → Keeps (state_of m) (state_of (vectored m v k))
keeps_taken v same ready = record {
  layout = same.layout;
  part = same.part;
  quantum = same.quantum;
  flash = same.flash;
  slots = ap length same.swap;
  paged = same.paged;
  registers = ap length same.registers;
  top = same.top ∙ ready.top;
  polls = omega (arith, same.polls);
  tables = same.tables;
  pointer = same.pointer;
}

going_taken : {m : Machine} (v : ℕ) {k : Kernel} → m.since ≡ 0 → KeepsTaken m.kernel k → IsGoing m → IsGoing (vectored m v k)
going_taken {m} v {k} fresh same ready =
    let counted = ready.counted in
    let arrivals = ready.arrivals in
    record {
      order = order_on (vectored m v k) (keeps_taken v same ready) refl refl ready;
      going = ready.going;
      untorn = ready.untorn;
      top = same.top ∙ ready.top;
      some = omega (arith, same.count, ready.some);
      most = omega (arith, same.count, ready.most, same.quantum);
      stands = Reaches.Owing None (λ e. absurd (cc)) refl tt;
      counted = record {
        natural = omega (arith, counted.natural);
        entries = omega (arith, counted.entries);
        since = counted.since;
        longest = counted.longest;
        crossed = omega (arith, counted.crossed);
        within = omega (arith, fresh);
        most = omega (arith, same.quantum, counted.most);
      };
      arrivals = record {
        pages = omega (arith, most_owed m.owed m.steps, arrivals.pages);
        ops = omega (arith, most_owed m.owed m.steps, arrivals.ops, ap (λ (f : Memory). f.ops) same.flash);
        few = arrivals.few;
      };
      polls = omega (arith, same.polls, ready.polls);
      exact = same.count ∙ ready.exact ∙ ap (λ q. q - m.crossings % q) (sym same.quantum);
      fresh = λ e. fresh;
    }

numbers_taken : (m : Machine) (v : ℕ) {k : Kernel} → KeepsTaken m.kernel k → numbers_of (vectored m v k) ≡ moved (Take false) (numbers_of m)
unfolding moved
numbers_taken m v same = ap (λ (f : Memory). record (numbers_of m) { steps = m.steps + 1; ops = f.ops }) same.flash

numbers_stopped : (m : Machine) → ◌≡◌ {A = _} (numbers_of m) (moved (Take true) (numbers_of m))
unfolding moved
numbers_stopped m = let same : m.steps ≡ m.steps + 0 = omega arith in ap (λ s. record (numbers_of m) { steps = s }) same

pub taken_vector : {m : Machine} (owed : Owed) (v : ℕ) (k : Kernel) → IsGoing m → m.owed ≡ Some owed → m.steps < 2 ^ 50 → is_taken_now m ≡ true → (answers.Vector v, k) ≡ taken m.kernel owed.target
    → HasStepped m (vectored m v k) None
unfolding lines_of
taken_vector {m} owed v k ready owes few wanted is =
    let w = wanted_of m owed owes wanted in
    let same = interrupt_keeps m.kernel owed.target v k w.on w.some ready.order.paged (sym is) in
    let fresh : m.since ≡ 0 = ready.fresh (ap₂ (λ o d. is_some o && d) owes w.due) in
    let at = owed_at owed ready owes in
    let goes = going_taken v fresh same ready in
    let on : next_of (program m.kernel) (record { now = state_at m.kernel owed.target m.steps m.crossings; due = true })
    ≡ flat_ends.On None (record { now = state_at k v (m.steps + 1) m.crossings; due = false }) =
    subst (AsTaken m.kernel owed.target) (sym is) (interrupt_taken m.kernel owed.target w.on w.some ready.order.paged) m.steps m.crossings in
    record {
      moves = Take false ∷ [];
      goes = record {
        walk = (state_of (vectored m v k), take_move (answers.Vector v, k) false (state_of (vectored m v k)) ready owes few w is refl (rw (ready.going, ready.untorn)), refl);
        told = refl;
        numbers = numbers_taken m v same;
      };
      last = refl;
      some = λ e. cc;
      own = AreOwn.Taking false refl;
      stays = stays_by (keeps_taken v same ready);
      broken = refl;
      flash = same.flash;
      arrivals = goes.arrivals;
      way = StepWay.On goes (λ free. absurd (cc)) refl
          (ap₂ (λ a d. next_of (program m.kernel) (record { now = state_at m.kernel a m.steps m.crossings; due = d })) (sym at) w.due ∙ on);
    }

pub taken_stopped : {m : Machine} (owed : Owed) (stop : Stop) (k : Kernel) → IsGoing m → m.owed ≡ Some owed → m.steps < 2 ^ 50 → is_taken_now m ≡ true
    → (answers.Stopped stop, k) ≡ taken m.kernel owed.target → HasStepped m (record m { kernel = k; end = Some (ends.Stopped stop) }) None
unfolding lines_of
taken_stopped {m} owed stop k ready owes few wanted is =
    let w = wanted_of m owed owes wanted in
    let same : k ≡ m.kernel = interrupt_stays m.kernel owed.target stop k w.on w.some ready.order.paged (sym is) in
    let at = owed_at owed ready owes in
    let on : next_of (program m.kernel) (record { now = state_at m.kernel owed.target m.steps m.crossings; due = true }) ≡ flat_ends.Ends (end_of stop) =
    subst (AsTaken m.kernel owed.target) (sym is) (interrupt_taken m.kernel owed.target w.on w.some ready.order.paged) m.steps m.crossings in
    let new : Machine = record m { kernel = m.kernel; end = Some (ends.Stopped stop) } in
    let keeps : Keeps (state_of m) (state_of new) =
    record {
      layout = refl;
      part = refl;
      quantum = refl;
      flash = refl;
      slots = refl;
      paged = ready.order.paged;
      registers = refl;
      top = ready.top;
      polls = omega arith;
      tables = λ b from to. refl;
      pointer = ready.order.pointer;
    } in
    let bounded : HasBounds m = bounded_counted (numbers_of m) m.crossings m.kernel.quantum (count_in m) m.at m.kernel.mote.devices.polls m.owed ready.counted ready.arrivals ready.polls in
    subst (λ x. HasStepped m (record m { kernel = x; end = Some (ends.Stopped stop) }) None) (sym same) (record {
      moves = Take true ∷ [];
      goes = record {
        walk = (state_of new, take_move (answers.Stopped stop, m.kernel) true (state_of new) ready owes few w (ap (λ x. (answers.Stopped stop, x)) (sym same) ∙ is) refl refl, refl);
        told = refl;
        numbers = numbers_stopped m;
      };
      last = refl;
      some = λ e. cc;
      own = AreOwn.Taking true refl;
      stays = stays_by keeps;
      broken = refl;
      flash = refl;
      arrivals = ready.arrivals;
      way = StepWay.Stopped stop (record {
        order = order_on new keeps refl refl ready;
        bounded = bounded;
        ended = λ e. cc;
        exact = ready.exact;
      }) refl refl refl (ap₂ (λ a d. next_of (program m.kernel) (record { now = state_at m.kernel a m.steps m.crossings; due = d })) (sym at) w.due ∙ on) refl;
    })

-- where none is to be taken
untaken_as : (k : Kernel) (o : Option Owed) (d : Bool) (w : Awaited) → awaited o d ≡ Some w → d && is_wanted_at k o ≡ false
    → w.due && (is_own k.part w.target && (has_bit k.mote.cpu.sreg interrupts && is_enabled k.mote.devices)) ≡ false
untaken_as k None d w is none = absurd (cc)
untaken_as k (Some owed) d w is none =
    let same = some_same is in
    ap (λ (v : Awaited). v.due && (is_own k.part v.target && (has_bit k.mote.cpu.sreg interrupts && is_enabled k.mote.devices))) (sym same) ∙ none

pub untaken_of : (m : Machine) → is_taken_now m ≡ false → IsUntaken m
untaken_of m none w owes = untaken_as m.kernel m.owed m.due w owes none

-- where one is, the arrival is inside the program's part
wanted_inside : {m : Machine} (o : Option Owed) → m.owed ≡ o → IsGoing m → is_taken_now m ≡ true → is_own m.kernel.part m.at ≡ true
wanted_inside {m} None free ready wanted = absurd (none_wanted m free wanted)
wanted_inside {m} (Some owed) owes ready wanted = ap (is_own m.kernel.part) (sym (owed_at owed ready owes)) ∙ (wanted_of m owed owes wanted).inside

pub taken_inside : (m : Machine) → IsGoing m → is_taken_now m ≡ true → is_own m.kernel.part m.at ≡ true
taken_inside m ready wanted = wanted_inside m.owed refl ready wanted
