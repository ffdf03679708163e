-- What is mapped is answered: no step that may be made stops.
use Rattle.std.proofs.Common.{◌≡◌, ℕ, true, sym, subst}
use Rattle.std.proofs.lemmas.Bool.{and_parts, cond_both}
use Rattle.avr_isa.specs.declared.form.Form.{Form}
use Rattle.avr_isa.specs.IoTable.{can_read, can_write}
use Rattle.avr_exec.specs.declared.cpu.Cpu.{Cpu}
use Rattle.avr_exec.specs.declared.ask.Ask.{Ask}
use Rattle.avr_exec.specs.declared.ask.Ask.TheVariants.{Load, Store, Modify, PushByte, PopByte, PushReturn, PopReturn}
use Rattle.avr_exec.specs.declared.answer.Answer.TheVariants.{Done, Byte}
use Rattle.avr_exec.specs.declared.stop.BusStop.{BusStop}
use Rattle.avr_isa.specs.Addresses.{wrapping_sum, wrapping_difference}
use Rattle.avr_exec.specs.Spaces.{Outcome, Stopped}
use Rattle.avr_exec.specs.StackRules.{push_on, pop_from, push_return_on, pop_return_from}
use Rattle.avr_exec.specs.Asks.{ask_of}
use Rattle.avr_exec.specs.Execution.{answered_by, answer_of, exec_of}
use Rattle.avr_exec.specs.Likeness.{IsWent}
use Rattle.avr_exec.proofs.OneAnswer.{exec_never_stops}
use Rattle.mote_devices.specs.Accesses.{read, write, modify as modify_device}
use Rattle.mote_devices.proofs.AccessLaws.{read_allowed, write_allowed, modify_allowed}
use Rattle.mote_core.specs.Physical.{Physical, is_sram, from_device, to_device, physical_calls}
use Rattle.mote_core.specs.Conditions.{is_mapped}

device_reads : (s : Physical) (a : ℕ) → can_read a ≡ true → IsWent (answered_by Byte (from_device s a (read s.devices a)))
device_reads s a can = rw (read_allowed s.devices a can) tt

device_writes : (s : Physical) (a v : ℕ) → can_write a ≡ true → IsWent (answered_by {A = Unit {0}} (λ _. Done) (to_device s a (write s.devices a v)))
device_writes s a v can = rw (write_allowed s.devices a v can) tt

modify_went : (s : Physical) (a clear set : ℕ) → can_read a ≡ true → can_write a ≡ true → IsWent (answered_by {A = Unit {0}} (λ _. Done) (to_device s a (modify_device s.devices a clear set)))
unfolding write
modify_went s a clear set reads writes =
    rw (modify_allowed s.devices a clear set reads writes) (subst (λ asked. IsWent (answered_by {A = Unit {0}} (λ _. Done) (to_device s a asked))) (sym (write_allowed _ a _ writes)) tt)

-- what is asked of the space and mapped gets an answer
pub never_stops : (s : Physical) (ask : Ask) → is_mapped ask ≡ true → IsWent (answer_of physical_calls s ask)
unfolding is_mapped answer_of push_on pop_from push_return_on pop_return_from
never_stops s (Load a) mapped =
    cond_both {A = Outcome Physical ℕ} (is_sram a) _ _ (λ o. IsWent (answered_by Byte o)) (λ inside. tt) (λ outside. device_reads s a (rw outside at mapped))
never_stops s (Store a v) mapped =
    cond_both {A = Outcome Physical (Unit {0})} (is_sram a) _ _ (λ o. IsWent (answered_by {A = Unit {0}} (λ _. Done) o)) (λ inside. tt) (λ outside. device_writes s a v (rw outside at mapped))
never_stops s (Modify a clear set) mapped = modify_went s a clear set (and_parts _ _ mapped).0 (and_parts _ _ mapped).1
never_stops s (PushByte sp v) mapped = rw mapped tt
never_stops s (PopByte sp) mapped = rw mapped tt
never_stops s (PushReturn sp ret) mapped = let parts = and_parts (is_sram sp) (is_sram (wrapping_difference sp 1)) mapped in rw (parts.0, parts.1) tt
never_stops s (PopReturn sp) mapped = let parts = and_parts (is_sram (wrapping_sum sp 1)) (is_sram (wrapping_sum sp 2)) mapped in rw (parts.0, parts.1) tt
never_stops s _ mapped = tt

-- so an instruction whose ask is mapped doesn't stop
pub step_never_stops : (s : Physical) (form : Form) (cpu : Cpu) (n : ℕ) → is_mapped (ask_of form cpu) ≡ true → IsWent (exec_of physical_calls form cpu s n)
step_never_stops s form cpu n mapped = exec_never_stops physical_calls form cpu s n (never_stops s (ask_of form cpu) mapped)

-- a stop is none
pub never_stopped : {S A : Type 0} (outcome : Outcome S A) (stop : BusStop) → IsWent outcome → Stopped stop ≡ outcome → ⊥
never_stopped outcome stop went is = subst IsWent (sym is) went
