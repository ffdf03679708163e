-- An instruction that asks nothing, or a register that a program may access, can be stepped.
use Rattle.std.proofs.Common.{◌≡◌, true, refl}
use Rattle.std.specs.Prelude.{Some, Option}
use Rattle.std.proofs.lemmas.Bool.{or_right}
use Rattle.avr_isa.specs.declared.form.Form.{Form}
use Rattle.avr_exec.specs.declared.cpu.Cpu.{Cpu}
use Rattle.avr_exec.specs.declared.ask.Ask.{Ask}
use Rattle.avr_exec.specs.declared.ask.Ask.TheVariants.{Nothing, Load, Store, Modify}
use Rattle.avr_exec.specs.Asks.{ask_of}
use Rattle.avr_exec.specs.Execution.{is_executed}
use Rattle.mote_core.specs.Physical.{is_sram}
use Rattle.mote_core.specs.Conditions.{is_mapped, is_device_ask, can_step}
use Rattle.mote_core.proofs.StepsByAnswer.{can_by}

-- what is asked is mapped
pub device_mapped : (ask : Ask) → is_device_ask ask ≡ true → is_mapped ask ≡ true
unfolding is_device_ask is_mapped
device_mapped Nothing can = refl
device_mapped (Load a) can = or_right (is_sram a) _ can
device_mapped (Store a v) can = or_right (is_sram a) _ can
device_mapped (Modify a clear set) can = can
device_mapped _ can = absurd (cc)

-- so a step of the instruction may be made
pub can_step_device : (f : Option Form) (form : Form) (cpu : Cpu) → f ≡ Some form → is_executed form ≡ true → is_device_ask (ask_of form cpu) ≡ true → can_step f cpu ≡ true
can_step_device f form cpu is executed can = can_by f form cpu is executed (device_mapped (ask_of form cpu) can)
