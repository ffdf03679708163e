-- What the layers above need of a program's accesses.
use Rattle.std.proofs.Common.{◌≡◌, ℕ, ◌+◌, ◌<◌, ◌≤◌, Bool, true, false, cond, refl, ap, ◌∙◌, arith}
use Rattle.std.proofs.lemmas.Bool.{cond_both, cond-true, cond-false}
use Rattle.std.proofs.lemmas.Bool.Decides.{nat_tests}
use Rattle.avr_isa.specs.IoTable.{can_read, can_write, register_at}
use Rattle.avr_isa.specs.declared.io.IoRegister.{IoRegister}
use Rattle.avr_isa.specs.declared.io.IoRegister.TheVariants.{SerialStatus, SerialData, Timer}
use Rattle.mote_devices.specs.Registers.{is_polled}
use Rattle.mote_devices.specs.State.{State, polled, register_count}
use Rattle.mote_devices.specs.Accesses.{Asked, Gave, Refused, read, read_from, written_back, write, modify, written_byte, after_value, line_written, after_write}

-- the registers of the profile are below data address 256
pub can_read_below : (a : ℕ) → can_read a ≡ true → a < register_count
unfolding can_read
can_read_below a can = grind (arith, nat_tests)

pub can_write_below : (a : ℕ) → can_write a ≡ true → a < register_count
unfolding can_write
can_write_below a can = grind (arith, nat_tests)

-- an access that is allowed is answered, and one that isn't is refused
pub read_allowed : (s : State) (a : ℕ) → can_read a ≡ true → read s a ≡ read_from s (register_at a) a
unfolding read
read_allowed s a can = cond-true (can_read a) _ _ can

pub read_refused : (s : State) (a : ℕ) → can_read a ≡ false → read s a ≡ Refused
unfolding read
read_refused s a cannot = cond-false (can_read a) _ _ cannot

pub write_allowed : (s : State) (a v : ℕ) → can_write a ≡ true → write s a v ≡ Gave (line_written (register_at a) v) (after_write (register_at a) s a v)
unfolding write
write_allowed s a v can = cond-true (can_write a) _ _ can

pub write_refused : (s : State) (a v : ℕ) → can_write a ≡ false → write s a v ≡ Refused
unfolding write
write_refused s a v cannot = cond-false (can_write a) _ _ cannot

pub modify_allowed : (s : State) (a clear set : ℕ) → can_read a ≡ true → can_write a ≡ true → modify s a clear set ≡ written_back (read_from s (register_at a) a) a clear set
unfolding modify
modify_allowed s a clear set reads writes =
    ap (λ b. cond b (written_back (read s a) a clear set) Refused) writes ∙ ap (λ asked. written_back asked a clear set) (read_allowed s a reads)

-- a fact of the state after an access
abbrev pub Afterwards : {A : Type 0} → (State → Type 0) → Asked A → Type 0
Afterwards P (Gave answer next) = P next
Afterwards P Refused = Unit {0}

-- an access makes one poll at most, and a write none
pub polls_after_value : (register : IoRegister) (s : State) → (after_value register s).polls ≡ s.polls
polls_after_value SerialData s = refl
polls_after_value _ s = refl

polls_from : (b : Bool) (register : IoRegister) (s : State) → (after_value register (cond b (polled s) s)).polls ≤ s.polls + 1
polls_from true register s = omega (arith, polls_after_value register (polled s))
polls_from false register s = omega (arith, polls_after_value register s)

pub polls_after_read : (s : State) (a : ℕ) → Afterwards (λ next. next.polls ≤ s.polls + 1) (read s a)
unfolding read
polls_after_read s a = cond_both (can_read a) _ _ (Afterwards (λ next. next.polls ≤ s.polls + 1)) (λ can. polls_from (is_polled (register_at a)) (register_at a) s) (λ cannot. tt)

pub polls_after_write : (register : IoRegister) (s : State) (a v : ℕ) → (after_write register s a v).polls ≡ s.polls
polls_after_write SerialStatus s a v = refl
polls_after_write SerialData s a v = refl
polls_after_write Timer s a v = refl
polls_after_write _ s a v = refl

written_polls : (n : ℕ) (asked : Asked ℕ) (a clear set : ℕ) → Afterwards (λ next. next.polls ≤ n) asked → Afterwards (λ next. next.polls ≤ n) (written_back asked a clear set)
unfolding write
written_polls n (Gave v now) a clear set few =
    cond_both (can_write a) _ _ (Afterwards (λ next. next.polls ≤ n)) (λ can. omega (arith, few, polls_after_write (register_at a) now a (written_byte v clear set))) (λ cannot. tt)
written_polls n Refused a clear set few = tt

pub polls_after_modify : (s : State) (a clear set : ℕ) → Afterwards (λ next. next.polls ≤ s.polls + 1) (modify s a clear set)
unfolding modify
polls_after_modify s a clear set =
    cond_both (can_write a) _ _ (Afterwards (λ next. next.polls ≤ s.polls + 1)) (λ can. written_polls (s.polls + 1) (read s a) a clear set (polls_after_read s a)) (λ cannot. tt)
