-- The words of a jump are those that its statement has.
use Rattle.std.proofs.Common.{◌≡◌, ℕ, ◌+◌, Bool, true, false, cond, List, length, ap, refl, sym, ◌∙◌}
use Rattle.std.specs.Prelude.{None, Some, Option, Result, Ok, Err}
use Rattle.std.specs.Result.{result_err}
use Rattle.avr_isa.specs.declared.form.Form.{Form}
use Rattle.avr_isa.specs.declared.form.Form.TheVariants as forms
use Rattle.avr_isa.specs.Instruction.{is_valid, size_of}
use Rattle.avr_asm.specs.declared.fault.AsmFault.{AsmFault}
use Rattle.avr_asm.specs.declared.fault.AsmFault.TheVariants.{Reach}
use Rattle.avr_asm.specs.declared.mnemonic.FlagState.TheVariants.{Set}
use Rattle.avr_asm.specs.declared.mnemonic.Jump.{Jump}
use Rattle.avr_asm.specs.declared.mnemonic.Jump.TheVariants.{If}
use Rattle.avr_asm.specs.declared.statement.Statement.TheVariants.{To}
use Rattle.avr_asm.specs.declared.statement.Target.{Target}
use Rattle.avr_asm.specs.declared.statement.Target.TheVariants as targets
use Rattle.avr_asm.specs.Addresses.{Label, address_of, words_of_statement}
use Rattle.avr_asm.specs.Targets.{distance, in_reach, jump_of, jump_to, jump_to_label}
use Rattle.avr_asm.specs.Passes.{IsAdded, IsAddedInstruction}

abbrev okay : Form → Result Form AsmFault
okay form = Ok form

ok_same : (a b : Form) → okay a ≡ okay b → a ≡ b
ok_same a b same = cc

-- a form that is in reach is the one that was made
reached_if : (valid : Bool) (made form : Form) → cond valid (okay made) (Err Reach) ≡ Ok form → made ≡ form
reached_if true made form is = ok_same made form is
reached_if false made form is = absurd (cc)

reached : (made form : Form) → in_reach made ≡ Ok form → size_of form ≡ size_of made
reached made form is = sym (ap size_of (reached_if (is_valid made) made form is))

-- how many words the jumps have
abbrev words_of_jump : Jump → ℕ
words_of_jump jump = words_of_statement (Some (To jump (targets.At 0)))

jump_size : (jump : Jump) (pc a : ℕ) (form : Form) → in_reach (jump_to jump pc a) ≡ Ok form → size_of form ≡ words_of_jump jump
unfolding size_of
jump_size (If Set s) pc a form is = reached (forms.Brbs s (distance pc a)) form is
jump_size jump pc a form is = reached (jump_to jump pc a) form is

label_size : (kind : Jump) (pc : ℕ) (address : Option ℕ) (form : Form) → jump_to_label kind pc address ≡ Ok form → size_of form ≡ words_of_jump kind
label_size kind pc None form is = absurd (cc)
label_size kind pc (Some a) form is = jump_size kind pc a form is

target_size : (labels : List Label) (pc : ℕ) (kind : Jump) (target : Target) (form : Form) → jump_of labels pc kind target ≡ Ok form → size_of form ≡ words_of_jump kind
target_size labels pc kind (targets.At a) form is = jump_size kind pc a form is
target_size labels pc kind (targets.Label name) form is = label_size kind pc (address_of labels name.items) form is

-- whatever the target
any_target : (jump : Jump) (target : Target) → words_of_jump jump ≡ words_of_statement (Some (To jump target))
any_target (If state s) target = refl
any_target _ target = refl

-- an instruction that a jump comes to has as many words as its statement
pub jump_words : (labels : List Label) (pc : ℕ) (jump : Jump) (target : Target) (form : Form) → jump_of labels pc jump target ≡ Ok form → size_of form ≡ words_of_statement (Some (To jump target))
jump_words labels pc jump target form is = target_size labels pc jump target form is ∙ any_target jump target

-- a jump's instruction was added
pub jump_added : (labels : List Label) (jump : Jump) (target : Target) (form : Form) (old new : List ℕ) → jump_of labels (length old) jump target ≡ Ok form → IsAddedInstruction form old new
    → IsAdded labels (Some (To jump target)) old new
jump_added labels jump target form old new is added = record {
  code = added.code;
  joined = added.joined;
  size = added.size ∙ ap (λ n. length old + n) (jump_words labels (length old) jump target form is);
  stands = λ more. rw is (added.stands more);
  sound = ap result_err is;
}
