-- What a step that may be made does.
use Rattle.std.proofs.Common.{◌≡◌, true, sym, ap}
use Rattle.std.specs.Prelude.{Some, None, Option}
use Rattle.std.specs.Option.{option_map, unwrap_or}
use Rattle.std.proofs.lemmas.Bool.{and_parts}
use Rattle.avr_isa.specs.declared.form.Form.{Form}
use Rattle.avr_isa.specs.declared.form.Form.TheVariants.{Nop}
use Rattle.avr_exec.specs.declared.cpu.Cpu.{Cpu}
use Rattle.avr_exec.specs.Asks.{ask_of}
use Rattle.avr_exec.specs.Execution.{is_executed, exec_of}
use Rattle.mote_core.specs.declared.mote.Mote.{Mote}
use Rattle.mote_core.specs.Physical.{physical_calls}
use Rattle.mote_core.specs.Conditions.{is_mapped, can_step}
use Rattle.mote_core.specs.Step.{form_at, next_size, space_of, stepped}

-- where a step may be made, what is decoded is the instruction that the words begin with, and no NOP that
-- stands for none
pub step_form : (f : Option Form) (form : Form) (cpu : Cpu) → can_step f cpu ≡ true → form ≡ unwrap_or f Nop → f ≡ Some form
unfolding can_step
step_form None form cpu can is = absurd (cc)
step_form (Some given) form cpu can is = ap Some (sym is)

pub step_executed : (f : Option Form) (form : Form) (cpu : Cpu) → can_step f cpu ≡ true → f ≡ Some form → is_executed form ≡ true
unfolding can_step
step_executed f form cpu can is = (and_parts _ _ (rw is at can)).0

pub step_mapped : (f : Option Form) (form : Form) (cpu : Cpu) → can_step f cpu ≡ true → f ≡ Some form → is_mapped (ask_of form cpu) ≡ true
unfolding can_step
step_mapped f form cpu can is = (and_parts _ _ (rw is at can)).1

pub stepped_is : (m : Mote) (form : Form) → form_at m ≡ Some form → stepped m ≡ Some (exec_of physical_calls form m.cpu (space_of m None) (next_size m))
unfolding stepped
stepped_is m form is = ap (option_map (λ (f : Form). exec_of physical_calls f m.cpu (space_of m None) (next_size m))) is
