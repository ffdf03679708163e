-- FAULT at a SLEEP, and at any other instruction.
use Rattle.std.proofs.Common.{◌≡◌, ℕ, Bool, true, false, cond, refl, sym, ap, ap₂, ◌∙◌}
use Rattle.std.specs.Prelude.{◌≢◌, Option, Some, None}
use Rattle.avr_isa.specs.declared.form.Form.{Form}
use Rattle.avr_isa.specs.declared.form.Form.TheVariants as forms
use Rattle.avr_decode.specs.Program.{instruction_at}
use Rattle.kernel_entry.specs.declared.kernel.Kernel.{Kernel}
use Rattle.kernel_entry.specs.declared.kernel.Stop.{Stop}
use Rattle.kernel_entry.specs.declared.kernel.Stop.TheVariants.{Asleep}
use Rattle.kernel_entry.specs.declared.kernel.Served.TheVariants as answers
use Rattle.kernel_entry.specs.Parts.{descriptor, image_held, instruction, rested}
use Rattle.kernel_entry.specs.Services.{is_sleep, fault_of, slept, faulted}

is_asleep : Stop → Bool
is_asleep (Asleep at) = true
is_asleep _ = false

not_asleep : (s : Stop) → ((at : ℕ) → s ≢ Asleep at) → is_asleep s ≡ false
unfolding is_asleep
not_asleep (Asleep at) other = absurd (other at refl)
not_asleep _ other = refl

same : (at : ℕ) (i : Option Form) → is_asleep (fault_of at i) ≡ is_sleep i
unfolding is_asleep
same at None = refl
same at (Some forms.Sleep) = refl
same at (Some _) = refl

by_sleep : (k : Kernel) (b : Bool) → is_sleep (instruction k) ≡ b → faulted k ≡ cond b (slept k) (answers.Stopped (fault_of (descriptor k) (instruction k)), rested k)
by_sleep k b is = ap (λ b. cond b (slept k) (answers.Stopped (fault_of (descriptor k) (instruction k)), rested k)) is

-- the instruction at the descriptor's address decides
pub stop_is : (k : Kernel) (at : ℕ) (i : Option Form) (stop : Stop) → stop ≡ fault_of at i → i ≡ instruction_at (image_held k) at → at ≡ descriptor k → stop ≡ fault_of (descriptor k) (instruction k)
stop_is k at i stop is there here = is ∙ ap₂ fault_of here (there ∙ ap (instruction_at (image_held k)) here)

pub asleep_is : (k : Kernel) (at : ℕ) → fault_of (descriptor k) (instruction k) ≡ Asleep at → slept k ≡ faulted k
unfolding is_asleep
asleep_is k at is = sym (by_sleep k true (sym (same (descriptor k) (instruction k)) ∙ ap is_asleep is))

pub awake_is : (k : Kernel) (stop : Stop) → stop ≡ fault_of (descriptor k) (instruction k) → ((at : ℕ) → stop ≢ Asleep at) → (answers.Stopped stop, rested k) ≡ faulted k
awake_is k stop is other = ap (λ s. (answers.Stopped s, rested k)) is ∙ sym (by_sleep k false (sym (same (descriptor k) (instruction k)) ∙ ap is_asleep (sym is) ∙ not_asleep stop other))
