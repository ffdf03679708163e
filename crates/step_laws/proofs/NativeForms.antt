-- The forms of instructions that stand as they are, and what they ask.
use Rattle.std.proofs.Common.{ℕ, ◌≡◌, ◌+◌, ◌==◌, Bool, true, false, refl, ap, arith, cond, ◌∙◌}
use Rattle.std.specs.Prelude.{if◌then◌else◌, ◌||◌, not}
use Rattle.std.proofs.lemmas.Bool.Decides.{nat_tests}
use Rattle.avr_isa.specs.declared.form.Form.{Form}
use Rattle.avr_isa.specs.declared.form.Form.TheVariants as forms
use Rattle.avr_isa.specs.IoTable.{can_read, can_write, io_address}
use Rattle.avr_exec.specs.declared.cpu.Cpu.{Cpu}
use Rattle.avr_isa.specs.Addresses.{relative}
use Rattle.avr_exec.specs.Registers.{is_own, register}
use Rattle.avr_exec.specs.Asks.{ask_of, load_of, store_of}
use Rattle.avr_exec.specs.Execution.{is_executed}
use Rattle.avr_exec.specs.Likeness.{is_straight, is_transfer}
use Rattle.nat_template.specs.declared.shapes.TemplateShape.TheVariants.{Native, Mem, Jump, Skip, SelfJump, Fault}
use Rattle.nat_template.specs.Shapes.{shape_of_form, is_stack_pointer, can_modify}
use Rattle.mote_core.specs.Conditions.{is_device_ask}
use Rattle.avr_exec.specs.declared.ask.Ask.TheVariants as asks
use Rattle.step_laws.proofs.ShapeTests.{not_chosen, chosen_one}

-- the tests by which the shape was chosen
native_io : (b c : Bool) → (if b then Mem else if c then Native else Fault) ≡ Native → (b ≡ false) × (c ≡ true)
native_io true c is = absurd (cc)
native_io false true is = (refl, refl)
native_io false false is = absurd (cc)

load_by : (a : ℕ) (b : Bool) → is_own a ≡ b → can_read a ≡ true → is_device_ask (load_of a) ≡ true
unfolding load_of is_device_ask
load_by a true own can = ap (λ b. is_device_ask (cond b asks.Nothing (asks.Load a))) own
load_by a false own can = ap (λ b. is_device_ask (cond b asks.Nothing (asks.Load a))) own ∙ can

store_by : (a v : ℕ) (b : Bool) → is_own a ≡ b → can_write a ≡ true → is_device_ask (store_of a v) ≡ true
unfolding store_of is_device_ask
store_by a v true own can = ap (λ b. is_device_ask (cond b asks.Nothing (asks.Store a v))) own
store_by a v false own can = ap (λ b. is_device_ask (cond b asks.Nothing (asks.Store a v))) own ∙ can

pub record IsNative (form : Form) (cpu : Cpu) : Type 0 where
  pub straight : is_straight form ≡ true
  pub runs : is_executed form ≡ true
  pub transfer : is_transfer form ≡ false
  pub asks : is_device_ask (ask_of form cpu) ≡ true

straight_field : (a : ℕ) → is_stack_pointer a ≡ false → (a + 0x20 == 0x5D) || (a + 0x20 == 0x5E) ≡ false
straight_field a is = grind (arith, nat_tests)

pub native_form : (pc : ℕ) (form : Form) (cpu : Cpu) → shape_of_form pc form ≡ Native → IsNative form cpu
unfolding shape_of_form is_straight is_executed is_transfer ask_of is_device_ask
native_form pc (forms.InIo d a) cpu is =
    let t = native_io (is_stack_pointer a) (can_read (io_address a)) is in
    record { straight = ap not (straight_field a t.0); runs = refl; transfer = refl; asks = load_by (a + 0x20) (is_own (a + 0x20)) refl t.1 }
native_form pc (forms.OutIo a r) cpu is =
    let t = native_io (is_stack_pointer a) (can_write (io_address a)) is in
    record { straight = ap not (straight_field a t.0); runs = refl; transfer = refl; asks = store_by (a + 0x20) (register cpu r) (is_own (a + 0x20)) refl t.1 }
native_form pc (forms.Cbi a b) cpu is =
    record { straight = refl; runs = refl; transfer = refl; asks = chosen_one (can_modify (io_address a)) Native Fault Native (λ e. cc) is }
native_form pc (forms.Sbi a b) cpu is =
    record { straight = refl; runs = refl; transfer = refl; asks = chosen_one (can_modify (io_address a)) Native Fault Native (λ e. cc) is }
native_form pc (forms.Sbic a b) cpu is = absurd (not_chosen (can_read (io_address a)) Skip Fault Native (λ e. cc) (λ e. cc) is)
native_form pc (forms.Sbis a b) cpu is = absurd (not_chosen (can_read (io_address a)) Skip Fault Native (λ e. cc) (λ e. cc) is)
native_form pc (forms.Rjmp k) cpu is = absurd (not_chosen (relative pc k == pc) SelfJump Jump Native (λ e. cc) (λ e. cc) is)
native_form pc (forms.Jmp a) cpu is = absurd (not_chosen (a == pc) SelfJump Jump Native (λ e. cc) (λ e. cc) is)
native_form pc forms.Nop cpu is = record { straight = refl; runs = refl; transfer = refl; asks = refl }
native_form pc (forms.Movw d r) cpu is = record { straight = refl; runs = refl; transfer = refl; asks = refl }
native_form pc (forms.Muls d r) cpu is = record { straight = refl; runs = refl; transfer = refl; asks = refl }
native_form pc (forms.Product o d r) cpu is = record { straight = refl; runs = refl; transfer = refl; asks = refl }
native_form pc (forms.Two o d r) cpu is = record { straight = refl; runs = refl; transfer = refl; asks = refl }
native_form pc (forms.Imm o d k) cpu is = record { straight = refl; runs = refl; transfer = refl; asks = refl }
native_form pc (forms.Word o p k) cpu is = record { straight = refl; runs = refl; transfer = refl; asks = refl }
native_form pc (forms.One o d) cpu is = record { straight = refl; runs = refl; transfer = refl; asks = refl }
native_form pc (forms.Bld d b) cpu is = record { straight = refl; runs = refl; transfer = refl; asks = refl }
native_form pc (forms.Bst d b) cpu is = record { straight = refl; runs = refl; transfer = refl; asks = refl }
native_form pc (forms.Bset b) cpu is = record { straight = refl; runs = refl; transfer = refl; asks = refl }
native_form pc (forms.Bclr b) cpu is = record { straight = refl; runs = refl; transfer = refl; asks = refl }
native_form pc forms.Break cpu is = record { straight = refl; runs = refl; transfer = refl; asks = refl }
native_form pc forms.Wdr cpu is = record { straight = refl; runs = refl; transfer = refl; asks = refl }
native_form pc _ cpu is = absurd (cc)
