-- The instructions of the shapes that the services serve.
use Rattle.std.proofs.Common.{◌≡◌, ℕ, Bool, true, false, cond, refl, arith}
use Rattle.std.specs.Prelude.{◌≢◌, ◌==◌, ℤ}
use Rattle.std.proofs.lemmas.Bool.Decides.{nat_tests}
use Rattle.avr_isa.specs.declared.form.Form.{Form}
use Rattle.avr_isa.specs.declared.form.Form.TheVariants as forms
use Rattle.avr_isa.specs.IoTable.{can_read, can_write, io_address}
use Rattle.avr_isa.specs.Addresses.{relative}
use Rattle.avr_exec.specs.Execution.{is_executed}
use Rattle.avr_exec.specs.Likeness.{is_transfer}
use Rattle.nat_template.specs.declared.shapes.TemplateShape.{TemplateShape}
use Rattle.nat_template.specs.declared.shapes.TemplateShape.TheVariants.{Native, Mem, Jump, Branch, Skip, Call, Ret, Ind, SelfJump, Fault}
use Rattle.nat_template.specs.Shapes.{shape_of_form, is_stack_pointer, can_modify}
use Rattle.flat_machine.specs.FlatMachine.{jumps_to_itself}
use Rattle.flat_machine.proofs.ReadLaws.{reads_program}

-- what may not be executed has a shape of its own
pub runs_or_faults : (pc : ℕ) (form : Form) → shape_of_form pc form ≢ Fault → is_executed form ≡ true
unfolding shape_of_form is_executed
runs_or_faults pc forms.Sleep apart = absurd (apart refl)
runs_or_faults pc forms.Spm apart = absurd (apart refl)
runs_or_faults pc _ apart = refl

-- a call, a return, a jump or a call through Z
abbrev pub is_service_jump : TemplateShape → Bool
is_service_jump Native = false
is_service_jump Mem = false
is_service_jump Jump = false
is_service_jump Branch = false
is_service_jump Skip = false
is_service_jump Call = true
is_service_jump Ret = true
is_service_jump Ind = true
is_service_jump SelfJump = false
is_service_jump Fault = false

-- the shapes that a test chooses are none of these
by_io : (b c : Bool) → is_service_jump (cond b Mem (cond c Native Fault)) ≡ true → ⊥
by_io true c is = cc
by_io false true is = cc
by_io false false is = cc

by_access : (c : Bool) → is_service_jump (cond c Native Fault) ≡ true → ⊥
by_access true is = cc
by_access false is = cc

by_skip : (c : Bool) → is_service_jump (cond c Skip Fault) ≡ true → ⊥
by_skip true is = cc
by_skip false is = cc

by_target : (b : Bool) → is_service_jump (cond b SelfJump Jump) ≡ true → ⊥
by_target true is = cc
by_target false is = cc

-- so what holds of the six instructions of these shapes holds of each
pub by_service_jump : (P : Form → Type 0) → ((k : ℤ) → P (forms.Rcall k)) → ((a : ℕ) → P (forms.Call a)) → P forms.Ret → P forms.Reti → P forms.Ijmp → P forms.Icall
    → (pc : ℕ) (form : Form) → is_service_jump (shape_of_form pc form) ≡ true → P form
unfolding shape_of_form
by_service_jump P rcall call ret reti ijmp icall pc (forms.Rcall k) is = rcall k
by_service_jump P rcall call ret reti ijmp icall pc (forms.Call a) is = call a
by_service_jump P rcall call ret reti ijmp icall pc forms.Ret is = ret
by_service_jump P rcall call ret reti ijmp icall pc forms.Reti is = reti
by_service_jump P rcall call ret reti ijmp icall pc forms.Ijmp is = ijmp
by_service_jump P rcall call ret reti ijmp icall pc forms.Icall is = icall
by_service_jump P rcall call ret reti ijmp icall pc (forms.InIo d a) is = absurd (by_io (is_stack_pointer a) (can_read (io_address a)) is)
by_service_jump P rcall call ret reti ijmp icall pc (forms.OutIo a r) is = absurd (by_io (is_stack_pointer a) (can_write (io_address a)) is)
by_service_jump P rcall call ret reti ijmp icall pc (forms.Cbi a b) is = absurd (by_access (can_modify (io_address a)) is)
by_service_jump P rcall call ret reti ijmp icall pc (forms.Sbi a b) is = absurd (by_access (can_modify (io_address a)) is)
by_service_jump P rcall call ret reti ijmp icall pc (forms.Sbic a b) is = absurd (by_skip (can_read (io_address a)) is)
by_service_jump P rcall call ret reti ijmp icall pc (forms.Sbis a b) is = absurd (by_skip (can_read (io_address a)) is)
by_service_jump P rcall call ret reti ijmp icall pc (forms.Rjmp k) is = absurd (by_target (relative pc k == pc) is)
by_service_jump P rcall call ret reti ijmp icall pc (forms.Jmp a) is = absurd (by_target (a == pc) is)
by_service_jump P rcall call ret reti ijmp icall pc _ is = absurd (cc)

-- an RJMP or JMP to its own address, and every other instruction
not_self : (b : Bool) → cond b SelfJump Jump ≢ SelfJump → b ≡ false
not_self true apart = absurd (apart refl)
not_self false apart = refl

pub jumps_on : (pc : ℕ) (form : Form) → shape_of_form pc form ≢ SelfJump → jumps_to_itself pc form ≡ false
unfolding shape_of_form
jumps_on pc (forms.Jmp a) apart = not_self (a == pc) apart
jumps_on pc (forms.Rjmp k) apart = not_self (relative pc k == pc) apart
jumps_on pc _ apart = refl

self_io : (b c : Bool) → cond b Mem (cond c Native Fault) ≡ SelfJump → ⊥
self_io true c is = cc
self_io false true is = cc
self_io false false is = cc

self_access : (c : Bool) → cond c Native Fault ≡ SelfJump → ⊥
self_access true is = cc
self_access false is = cc

self_skip : (c : Bool) → cond c Skip Fault ≡ SelfJump → ⊥
self_skip true is = cc
self_skip false is = cc

self_test : (b : Bool) → cond b SelfJump Jump ≡ SelfJump → b ≡ true
self_test true is = refl
self_test false is = absurd (cc)

pub self_target : (a pc : ℕ) → a == pc ≡ true → a ≡ pc
self_target a pc is = grind (arith, nat_tests)

pub by_self_form : (P : Form → Type 0) (pc : ℕ) → ((k : ℤ) → relative pc k ≡ pc → P (forms.Rjmp k)) → ((a : ℕ) → a ≡ pc → P (forms.Jmp a)) → (form : Form) → shape_of_form pc form ≡ SelfJump → P form
unfolding shape_of_form
by_self_form P pc near far (forms.Rjmp k) is = near k (self_target (relative pc k) pc (self_test (relative pc k == pc) is))
by_self_form P pc near far (forms.Jmp a) is = far a (self_target a pc (self_test (a == pc) is))
by_self_form P pc near far (forms.InIo d a) is = absurd (self_io (is_stack_pointer a) (can_read (io_address a)) is)
by_self_form P pc near far (forms.OutIo a r) is = absurd (self_io (is_stack_pointer a) (can_write (io_address a)) is)
by_self_form P pc near far (forms.Cbi a b) is = absurd (self_access (can_modify (io_address a)) is)
by_self_form P pc near far (forms.Sbi a b) is = absurd (self_access (can_modify (io_address a)) is)
by_self_form P pc near far (forms.Sbic a b) is = absurd (self_skip (can_read (io_address a)) is)
by_self_form P pc near far (forms.Sbis a b) is = absurd (self_skip (can_read (io_address a)) is)
by_self_form P pc near far _ is = absurd (cc)

pub equal_test : (a b : ℕ) → a ≡ b → a == b ≡ true
equal_test a b is = grind (arith, nat_tests)

pub self_jumps : (pc : ℕ) (form : Form) → shape_of_form pc form ≡ SelfJump → jumps_to_itself pc form ≡ true
self_jumps pc form is = by_self_form (λ f. jumps_to_itself pc f ≡ true) pc (λ k e. equal_test (relative pc k) pc e) (λ a e. equal_test a pc e) form is

-- all that read words of the program are served by MEM
pub reads_by_mem : (pc : ℕ) (form : Form) → shape_of_form pc form ≢ Mem → reads_program form ≡ false
unfolding shape_of_form
reads_by_mem pc forms.Lpm0 apart = absurd (apart refl)
reads_by_mem pc forms.Elpm0 apart = absurd (apart refl)
reads_by_mem pc (forms.Lpm d inc) apart = absurd (apart refl)
reads_by_mem pc (forms.Elpm d inc) apart = absurd (apart refl)
reads_by_mem pc _ apart = refl

-- a load or a store, and its kin, transfers no control
mem_access : (c : Bool) (own : TemplateShape) → own ≢ Mem → cond c own Fault ≡ Mem → ⊥
mem_access true own apart is = apart is
mem_access false own apart is = cc

mem_jump : (b : Bool) → cond b SelfJump Jump ≡ Mem → ⊥
mem_jump true is = cc
mem_jump false is = cc

pub mem_straight : (pc : ℕ) (form : Form) → shape_of_form pc form ≡ Mem → is_transfer form ≡ false
unfolding shape_of_form is_transfer
mem_straight pc (forms.Sbic a b) is = absurd (mem_access (can_read (io_address a)) Skip (λ e. cc) is)
mem_straight pc (forms.Sbis a b) is = absurd (mem_access (can_read (io_address a)) Skip (λ e. cc) is)
mem_straight pc (forms.Cpse d r) is = absurd (cc)
mem_straight pc (forms.Sbrc r b) is = absurd (cc)
mem_straight pc (forms.Sbrs r b) is = absurd (cc)
mem_straight pc (forms.Brbs s k) is = absurd (cc)
mem_straight pc (forms.Brbc s k) is = absurd (cc)
mem_straight pc (forms.Rjmp k) is = absurd (mem_jump (relative pc k == pc) is)
mem_straight pc (forms.Jmp a) is = absurd (mem_jump (a == pc) is)
mem_straight pc (forms.Rcall k) is = absurd (cc)
mem_straight pc (forms.Call a) is = absurd (cc)
mem_straight pc forms.Ret is = absurd (cc)
mem_straight pc forms.Reti is = absurd (cc)
mem_straight pc forms.Ijmp is = absurd (cc)
mem_straight pc forms.Icall is = absurd (cc)
mem_straight pc forms.Sleep is = absurd (cc)
mem_straight pc forms.Spm is = absurd (cc)
mem_straight pc _ is = refl
