-- A step from the one answer of the space, and quiet steps in a row.
use Rattle.std.proofs.Common.{◌≡◌, ℕ, ◌<◌, ◌≤◌, ◌⊎◌, true, List, refl, ap, subst, arith, ◌∙◌, inl, inr}
use Rattle.std.specs.Prelude.{Some, None, Option}
use Rattle.std.proofs.lemmas.Bool.{and_from}
use Rattle.avr_isa.specs.declared.form.Form.{Form}
use Rattle.avr_exec.specs.declared.cpu.Cpu.{Cpu}
use Rattle.avr_exec.specs.declared.answer.Answer.{Answer}
use Rattle.avr_exec.specs.Asks.{ask_of, finish_of}
use Rattle.avr_exec.specs.Execution.{answer_of, is_executed}
use Rattle.avr_exec.specs.Spaces.{Went as WentOn}
use Rattle.avr_exec.proofs.OneAnswer.{exec_went}
use Rattle.sram_layout.specs.Bytes.{first_address, with_byte}
use Rattle.sram_layout.specs.Regions.{template_cells, kernel_stack, frames, between}
use Rattle.sram_layout.proofs.RegionLaws.{region_beside}
use Rattle.mote_devices.specs.State.{State}
use Rattle.mote_core.specs.declared.mote.Mote.{Mote}
use Rattle.mote_core.specs.declared.mote.Plain.{Plain}
use Rattle.mote_core.specs.declared.mote.Plain.TheVariants.{Went}
use Rattle.mote_core.specs.Physical.{physical_calls}
use Rattle.mote_core.specs.Conditions.{is_mapped, can_step}
use Rattle.mote_core.specs.Shown.{line_shown}
use Rattle.mote_core.specs.Step.{form_at, next_size, space_of, IsPlainStep}
use Rattle.mote_core.specs.QuietSteps.{KeepsKernel, IsQuiet}
use Rattle.mote_core.proofs.Steps.{stepped_is}

-- a step of this instruction may be made
pub can_by : (f : Option Form) (form : Form) (cpu : Cpu) → f ≡ Some form → is_executed form ≡ true → is_mapped (ask_of form cpu) ≡ true → can_step f cpu ≡ true
unfolding can_step
can_by f form cpu is executed mapped = ap (λ x. can_step x cpu) is ∙ and_from (is_executed form) (is_mapped (ask_of form cpu)) executed mapped

-- the step, from what the space answers to what the instruction asks
pub steps_by : (m : Mote) (form : Form) (answer : Answer) (sram : List ℕ) (devices : State) (shown : Plain) → form_at m ≡ Some form
    → answer_of physical_calls (space_of m None) (ask_of form m.cpu) ≡ WentOn answer (record (space_of m None) { sram = sram; devices = devices; line = line_shown shown })
    → IsPlainStep m shown (record m { cpu = finish_of form m.cpu (next_size m) answer; sram = sram; devices = devices })
steps_by m form answer sram devices shown is answered = record {
  executed = stepped_is m form is
      ∙ ap Some (exec_went physical_calls form m.cpu (space_of m None) (next_size m) answer (record (space_of m None) { sram = sram; devices = devices; line = line_shown shown }) answered);
  flash = refl;
  swap = refl;
}

-- a quiet step, from that answer and from the core after it
pub quiet_by : (m : Mote) (form : Form) (answer : Answer) (sram : List ℕ) (cpu : Cpu) → form_at m ≡ Some form → is_executed form ≡ true → is_mapped (ask_of form m.cpu) ≡ true
    → answer_of physical_calls (space_of m None) (ask_of form m.cpu) ≡ WentOn answer (record (space_of m None) { sram = sram }) → finish_of form m.cpu (next_size m) answer ≡ cpu
    → KeepsKernel m.sram sram → IsQuiet m (record m { cpu = cpu; sram = sram })
quiet_by m form answer sram cpu is executed mapped answered finish keeps = record {
  can = can_by (form_at m) form m.cpu is executed mapped;
  step = subst (λ (c : Cpu). IsPlainStep m Went (record m { cpu = c; sram = sram })) finish (steps_by m form answer sram m.devices Went is answered);
  keeps = keeps;
  devices = refl;
}

-- what keeps the kernel's memory: nothing written, one write after another, a cell of the templates, a byte above, the
-- kernel's stack
pub keeps_same : (sram : List ℕ) → KeepsKernel sram sram
keeps_same sram = record { below = λ a low high. refl; above = λ a low high. refl }

keeps_then : {m m' m'' : List ℕ} → KeepsKernel m m' → KeepsKernel m' m'' → KeepsKernel m m''
keeps_then first second = record {
  below = λ a low high. second.below a low high ∙ first.below a low high;
  above = λ a low high. second.above a low high ∙ first.above a low high;
}

keeps_byte : (sram : List ℕ) (a v : ℕ) → first_address ≤ a → (a < template_cells.behind) ⊎ (kernel_stack.first ≤ a) → (a < kernel_stack.behind) ⊎ (frames.first ≤ a)
    → KeepsKernel sram (with_byte sram a v)
keeps_byte sram a v from low high = record {
  below = region_beside (between template_cells kernel_stack) sram a v from (omega arith) low;
  above = region_beside (between kernel_stack frames) sram a v from (omega arith) high;
}

pub keeps_cell : (sram : List ℕ) (a v : ℕ) → template_cells.first ≤ a → a < template_cells.behind → KeepsKernel sram (with_byte sram a v)
keeps_cell sram a v from to = keeps_byte sram a v from (inl to) (inl (omega arith))

pub keeps_above : (sram : List ℕ) (a v : ℕ) → frames.first ≤ a → KeepsKernel sram (with_byte sram a v)
keeps_above sram a v from = keeps_byte sram a v (omega arith) (inr (omega arith)) (inr from)

pub keeps_stack : (sram : List ℕ) (v w : ℕ) → KeepsKernel sram (with_byte (with_byte sram 0x011F v) 0x011E w)
keeps_stack sram v w =
    keeps_then (keeps_byte sram 0x011F v (omega arith) (inr (omega arith)) (inl (omega arith))) (keeps_byte (with_byte sram 0x011F v) 0x011E w (omega arith) (inr (omega arith)) (inl (omega arith)))
