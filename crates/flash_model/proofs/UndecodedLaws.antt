-- Where nothing is decoded yet.
use Rattle.std.proofs.Common.{◌≡◌, ℕ, true, false, refl}
use Rattle.avr_isa.specs.declared.form.Form.{Form}
use Rattle.flash_model.specs.declared.micro_ops.MicroOp.TheVariants.{Undecoded}
use Rattle.flash_model.specs.MicroOps.{has_form, is_in_sram, CanStandFor}

no_form : has_form Undecoded ≡ false
unfolding has_form
no_form = refl

no_address : is_in_sram Undecoded ≡ true
unfolding is_in_sram
no_address = refl

-- it may stand for any instruction
pub stands_for_any : (form : Form) (n : ℕ) → CanStandFor Undecoded form n
stands_for_any form n = record { in_sram = no_address; instr = λ has. absurd (let none = no_form in cc); size = λ has. absurd (let none = no_form in cc) }
