-- How an instruction is rewritten: as it is, or as a call of the kernel, or with stubs in the place of jumps.
use Rattle.std.specs.Prelude.{ℕ, ◌==◌, ◌&&◌, ◌||◌, Bool, if◌then◌else◌, Option, Some, None}
use Rattle.avr_isa.specs.declared.form.Form.{Form}
use Rattle.avr_isa.specs.declared.form.Form.TheVariants as forms
use Rattle.avr_isa.specs.IoTable.{can_read, can_write, io_address}
use Rattle.avr_isa.specs.Addresses.{relative}
use Rattle.nat_template.specs.declared.shapes.TemplateShape.{TemplateShape}
use Rattle.nat_template.specs.declared.shapes.TemplateShape.TheVariants.{Native, Mem, Jump, Branch, Skip, Call, Ret, Ind, SelfJump, Fault}

-- SPL and SPH as the field A of IN and OUT (ATmega128 datasheet, "Stack Pointer")
abbrev pub is_stack_pointer : ℕ → Bool
is_stack_pointer field = (field == 0x3D) || (field == 0x3E)

-- an access that is allowed has its own shape, and every other faults
abbrev pub if_allowed : Bool → TemplateShape → TemplateShape
if_allowed allowed own = if allowed then own else Fault

-- SBI and CBI read the register and write it
abbrev pub can_modify : ℕ → Bool
can_modify a = can_read a && can_write a

-- an RJMP or JMP to its own address halts
abbrev pub jump_shape : ℕ → ℕ → TemplateShape
jump_shape pc target = if target == pc then SelfJump else Jump

-- the shape of the instruction at the pc, with a row for each form that doesn't always stand as it is
unfoldable pub shape_of_form : ℕ → Form → TemplateShape
shape_of_form pc (forms.LoadOff d base q) = Mem
shape_of_form pc (forms.StoreOff base q r) = Mem
shape_of_form pc (forms.LoadAt d pointer) = Mem
shape_of_form pc (forms.StoreAt pointer r) = Mem
shape_of_form pc (forms.Lds d a) = Mem
shape_of_form pc (forms.Sts a r) = Mem
shape_of_form pc (forms.Pop d) = Mem
shape_of_form pc (forms.Push r) = Mem
shape_of_form pc forms.Lpm0 = Mem
shape_of_form pc forms.Elpm0 = Mem
shape_of_form pc (forms.Lpm d inc) = Mem
shape_of_form pc (forms.Elpm d inc) = Mem
shape_of_form pc (forms.InIo d a) = if is_stack_pointer a then Mem else if_allowed (can_read (io_address a)) Native
shape_of_form pc (forms.OutIo a r) = if is_stack_pointer a then Mem else if_allowed (can_write (io_address a)) Native
shape_of_form pc (forms.Cbi a b) = if_allowed (can_modify (io_address a)) Native
shape_of_form pc (forms.Sbi a b) = if_allowed (can_modify (io_address a)) Native
shape_of_form pc (forms.Sbic a b) = if_allowed (can_read (io_address a)) Skip
shape_of_form pc (forms.Sbis a b) = if_allowed (can_read (io_address a)) Skip
shape_of_form pc (forms.Cpse d r) = Skip
shape_of_form pc (forms.Sbrc r b) = Skip
shape_of_form pc (forms.Sbrs r b) = Skip
shape_of_form pc (forms.Brbs s k) = Branch
shape_of_form pc (forms.Brbc s k) = Branch
shape_of_form pc (forms.Rjmp k) = jump_shape pc (relative pc k)
shape_of_form pc (forms.Jmp a) = jump_shape pc a
shape_of_form pc (forms.Rcall k) = Call
shape_of_form pc (forms.Call a) = Call
shape_of_form pc forms.Ret = Ret
shape_of_form pc forms.Reti = Ret
shape_of_form pc forms.Ijmp = Ind
shape_of_form pc forms.Icall = Ind
shape_of_form pc forms.Sleep = Fault
shape_of_form pc forms.Spm = Fault
shape_of_form pc _ = Native

-- no instruction faults
abbrev pub shape_of : ℕ → Option Form → TemplateShape
shape_of pc None = Fault
shape_of pc (Some form) = shape_of_form pc form
