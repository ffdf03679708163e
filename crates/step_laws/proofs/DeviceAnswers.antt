-- Where nothing or a register of the devices is asked, the guarded and the physical space answer alike.
use Rattle.std.proofs.Common.{◌≡◌, ℕ, ◌+◌, ◌<◌, ◌≤◌, Bool, true, false, cond, ◌&&◌, nat_lt, nat_le, List, refl, ap, subst, arith, ◌∙◌}
use Rattle.std.proofs.lemmas.Bool.Decides.{nat_tests}
use Rattle.std.proofs.lemmas.Bool.{and_parts}
use Rattle.avr_isa.specs.IoTable.{can_read, can_write, register_at}
use Rattle.avr_exec.specs.declared.ask.Ask.{Ask}
use Rattle.avr_exec.specs.declared.ask.Ask.TheVariants.{Nothing, Load, Store, Modify}
use Rattle.avr_exec.specs.declared.answer.Answer.TheVariants.{Done, Byte}
use Rattle.avr_exec.specs.Spaces.{Went}
use Rattle.avr_exec.specs.Execution.{answered_by, answer_of}
use Rattle.sram_layout.specs.Bytes.{byte_at}
use Rattle.flat_machine.specs.Addresses.{is_stack, is_heap}
use Rattle.mote_devices.specs.Registers.{is_polled}
use Rattle.mote_devices.specs.State.{State, polled}
use Rattle.mote_devices.specs.Accesses.{Gave, read, write, modify, value_of, after_value, after_write, line_written, written_byte}
use Rattle.mote_devices.proofs.AccessLaws.{can_read_below, can_write_below, read_allowed, write_allowed, modify_allowed, Afterwards, polls_after_read, polls_after_write, polls_after_modify}
use Rattle.mote_core.specs.Physical.{Physical, is_sram, with_sram, physical_calls, from_device as physical_from, to_device as physical_to}
use Rattle.mote_core.specs.Conditions.{is_device_ask}
use Rattle.flat_machine.specs.Classes.{class_of}
use Rattle.flat_machine.proofs.ClassLaws.{chosen, low_stack, low_heap}
use Rattle.mem_guard.specs.Guarded.{Guarded, load as guarded_load, store as guarded_store, modify as guarded_modify, load_in, store_in, from_device, to_device}
use Rattle.step_laws.specs.Physically.{physical_of, AnswersAlike}

-- below data address 256 there is no SRAM
no_sram : (a : ℕ) → a < 256 → is_sram a ≡ false
no_sram a low = grind (arith, nat_tests)

load_by : (register core stack heap : Bool) (g : Guarded) (a : ℕ) → stack ≡ false → heap ≡ false → load_in (chosen register core stack heap) g a ≡ from_device g a (read g.devices a)
load_by true core stack heap g a s h = refl
load_by false true stack heap g a s h = refl
load_by false false true heap g a s h = absurd (cc)
load_by false false false true g a s h = absurd (cc)
load_by false false false false g a s h = refl

store_by : (register core stack heap : Bool) (g : Guarded) (a v : ℕ) → stack ≡ false → heap ≡ false → store_in (chosen register core stack heap) g a v ≡ to_device g a (write g.devices a v)
store_by true core stack heap g a v s h = refl
store_by false true stack heap g a v s h = refl
store_by false false true heap g a v s h = absurd (cc)
store_by false false false true g a v s h = absurd (cc)
store_by false false false false g a v s h = refl

load_low : (g : Guarded) (a : ℕ) → a < 256 → guarded_load g a ≡ from_device g a (read g.devices a)
unfolding guarded_load class_of
load_low g a low = load_by (nat_lt a 0x20) (nat_le 0x5D a && nat_le a 0x5F) (is_stack a) (is_heap a) g a (low_stack a low) (low_heap a low)

store_low : (g : Guarded) (a v : ℕ) → a < 256 → guarded_store g a v ≡ to_device g a (write g.devices a v)
unfolding guarded_store class_of
store_low g a v low = store_by (nat_lt a 0x20) (nat_le 0x5D a && nat_le a 0x5F) (is_stack a) (is_heap a) g a v (low_stack a low) (low_heap a low)

physical_load_low : (s : Physical) (a : ℕ) → a < 256 → physical_calls.load s a ≡ physical_from s a (read s.devices a)
physical_load_low s a low = ap (λ b. cond b (Went (byte_at s.sram a) s) (physical_from s a (read s.devices a))) (no_sram a low)

physical_store_low : (s : Physical) (a v : ℕ) → a < 256 → physical_calls.store s a v ≡ physical_to s a (write s.devices a v)
physical_store_low s a v low = ap (λ b. cond b (Went tt (with_sram s a v)) (physical_to s a (write s.devices a v))) (no_sram a low)

-- what a read gives, and the devices after it
abbrev polled_by : State → ℕ → State
polled_by s a = cond (is_polled (register_at a)) (polled s) s

abbrev value : State → ℕ → ℕ
value s a = value_of (register_at a) (polled_by s a) a

abbrev after_read : State → ℕ → State
after_read s a = after_value (register_at a) (polled_by s a)

-- and the devices after a read and a write of what was read, changed so
abbrev byte_back : State → (a clear set : ℕ) → ℕ
byte_back s a clear set = written_byte (value s a) clear set

modified : (s : State) (a clear set : ℕ) → can_read a ≡ true → can_write a ≡ true
    → modify s a clear set ≡ Gave (line_written (register_at a) (byte_back s a clear set)) (after_write (register_at a) (after_read s a) a (byte_back s a clear set))
modified s a clear set reads writes = modify_allowed s a clear set reads writes ∙ write_allowed (after_read s a) a (byte_back s a clear set) writes

-- so and_parts spaces answer alike
pub answers_alike : (words : List ℕ) (g : Guarded) (ask : Ask) → is_device_ask ask ≡ true → AnswersAlike words g ask
unfolding answer_of is_device_ask guarded_modify
answers_alike words g Nothing can = record { answer = Done; devices = g.devices; line = g.line; guarded = refl; physical = refl; polls = omega arith }
answers_alike words g (Load a) can =
    let low : a < 256 = can_read_below a can in
    let given = read_allowed g.devices a can in
    let s = physical_of words g in
    record {
      answer = Byte (value g.devices a);
      devices = after_read g.devices a;
      line = g.line;
      guarded = ap (answered_by Byte) (load_low g a low ∙ ap (from_device g a) given);
      physical = ap (answered_by Byte) (physical_load_low s a low ∙ ap (physical_from s a) given);
      polls = subst (Afterwards (λ next. next.polls ≤ g.devices.polls + 1)) given (polls_after_read g.devices a);
    }
answers_alike words g (Store a v) can =
    let low : a < 256 = can_write_below a can in
    let given = write_allowed g.devices a v can in
    let s = physical_of words g in
    record {
      answer = Done;
      devices = after_write (register_at a) g.devices a v;
      line = line_written (register_at a) v;
      guarded = ap (answered_by {A = Unit {0}} (λ _. Done)) (store_low g a v low ∙ ap (to_device g a) given);
      physical = ap (answered_by {A = Unit {0}} (λ _. Done)) (physical_store_low s a v low ∙ ap (physical_to s a) given);
      polls = omega (arith, polls_after_write (register_at a) g.devices a v);
    }
answers_alike words g (Modify a clear set) can =
    let given = modified g.devices a clear set (and_parts _ _ can).0 (and_parts _ _ can).1 in
    let s = physical_of words g in
    record {
      answer = Done;
      devices = after_write (register_at a) (after_read g.devices a) a (byte_back g.devices a clear set);
      line = line_written (register_at a) (byte_back g.devices a clear set);
      guarded = ap (answered_by {A = Unit {0}} (λ _. Done)) (ap (to_device g a) given);
      physical = ap (answered_by {A = Unit {0}} (λ _. Done)) (ap (physical_to s a) given);
      polls = subst (Afterwards (λ next. next.polls ≤ g.devices.polls + 1)) given (polls_after_modify g.devices a clear set);
    }
answers_alike words g _ can = absurd (cc)
