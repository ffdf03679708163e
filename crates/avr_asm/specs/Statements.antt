-- What a statement means: the instruction, the jump or the word that its mnemonic and its operands make.
use Rattle.std.specs.Prelude.{ℕ, Bool, true, false, ◌&&◌, if◌then◌else◌, Result, Ok, Err}
use Rattle.avr_isa.specs.declared.form.Form.{Form}
use Rattle.avr_isa.specs.declared.form.Form.TheVariants as forms
use Rattle.avr_isa.specs.declared.operation.Base.TheVariants.{Z}
use Rattle.avr_isa.specs.declared.operation.Ptr.TheVariants.{ZInc}
use Rattle.avr_isa.specs.Instruction.{is_valid}
use Rattle.avr_isa.specs.InstructionTable.{is_address, is_bit}
use Rattle.avr_asm.specs.declared.fault.AsmFault.{AsmFault}
use Rattle.avr_asm.specs.declared.fault.AsmFault.TheVariants as faults
use Rattle.avr_asm.specs.declared.mnemonic.FlagState.{FlagState}
use Rattle.avr_asm.specs.declared.mnemonic.FlagState.TheVariants.{Set, Clear}
use Rattle.avr_asm.specs.declared.mnemonic.Operation.{Operation}
use Rattle.avr_asm.specs.declared.mnemonic.Operation.TheVariants as operations
use Rattle.avr_asm.specs.declared.mnemonic.Jump.TheVariants.{If}
use Rattle.avr_asm.specs.declared.mnemonic.ProgramAddress.{ProgramAddress}
use Rattle.avr_asm.specs.declared.mnemonic.ProgramAddress.TheVariants.{Near, Far}
use Rattle.avr_asm.specs.declared.operand.Operand.TheVariants.{Register, Number, Pointer, Displaced, Name}
use Rattle.avr_asm.specs.declared.operand.Operands.{Operands}
use Rattle.avr_asm.specs.declared.operand.Operands.TheVariants.{Zero, One, Two}
use Rattle.avr_asm.specs.declared.operand.Pointer.TheVariants.{At as Through, Alone}
use Rattle.avr_asm.specs.declared.statement.Statement.{Statement}
use Rattle.avr_asm.specs.declared.statement.Statement.TheVariants.{Ready, To, Word}
use Rattle.avr_asm.specs.declared.statement.Target.TheVariants.{At, Label}

abbrev pub Meaning : Type 0
Meaning = Result Statement AsmFault

-- a statement whose numbers have to be in their ranges
abbrev pub in_range : Bool → Statement → Meaning
in_range are_in statement = if are_in then Ok statement else Err faults.Range

-- an instruction, where each operand is in its field, and the pair is defined
abbrev pub ready : Form → Meaning
ready form = in_range (is_valid form) (Ready form)

-- BSET or BCLR
abbrev pub flag_form : FlagState → ℕ → Form
flag_form Set s = forms.Bset s
flag_form Clear s = forms.Bclr s

-- LPM or ELPM without operands
abbrev pub bare_program_load : ProgramAddress → Form
bare_program_load Near = forms.Lpm0
bare_program_load Far = forms.Elpm0

-- LPM or ELPM, which raise Z or not
abbrev pub program_load : ProgramAddress → ℕ → Bool → Form
program_load Near d increment = forms.Lpm d increment
program_load Far d increment = forms.Elpm d increment

-- The right side of the table: what a mnemonic stands for, the operands that it may have, and what it then means. Y and Z
-- alone have displacement 0; a target is a name, or a word address; a word has 16 bits.
unfoldable pub meaning_of : Operation → Operands → Meaning
meaning_of operations.Nop Zero = ready forms.Nop
meaning_of operations.Ret Zero = ready forms.Ret
meaning_of operations.Reti Zero = ready forms.Reti
meaning_of operations.Ijmp Zero = ready forms.Ijmp
meaning_of operations.Icall Zero = ready forms.Icall
meaning_of operations.Sleep Zero = ready forms.Sleep
meaning_of operations.Break Zero = ready forms.Break
meaning_of operations.Wdr Zero = ready forms.Wdr
meaning_of operations.Spm Zero = ready forms.Spm
meaning_of (operations.OneFlag state s) Zero = ready (flag_form state s)
meaning_of (operations.Flag state) (One (Number s)) = ready (flag_form state s)
meaning_of (operations.LoadProgram from) Zero = ready (bare_program_load from)
meaning_of (operations.LoadProgram from) (Two (Register d) (Pointer (Alone Z))) = ready (program_load from d false)
meaning_of (operations.LoadProgram from) (Two (Register d) (Pointer (Through ZInc))) = ready (program_load from d true)
meaning_of (operations.One op) (One (Register d)) = ready (forms.One op d)
meaning_of operations.Push (One (Register r)) = ready (forms.Push r)
meaning_of operations.Pop (One (Register d)) = ready (forms.Pop d)
meaning_of operations.Movw (Two (Register d) (Register r)) = ready (forms.Movw d r)
meaning_of operations.Muls (Two (Register d) (Register r)) = ready (forms.Muls d r)
meaning_of operations.Cpse (Two (Register d) (Register r)) = ready (forms.Cpse d r)
meaning_of (operations.Product op) (Two (Register d) (Register r)) = ready (forms.Product op d r)
meaning_of (operations.Two op) (Two (Register d) (Register r)) = ready (forms.Two op d r)
meaning_of (operations.Imm op) (Two (Register d) (Number k)) = ready (forms.Imm op d k)
meaning_of (operations.Word op) (Two (Register p) (Number k)) = ready (forms.Word op p k)
meaning_of operations.Lds (Two (Register d) (Number a)) = ready (forms.Lds d a)
meaning_of operations.Sts (Two (Number a) (Register r)) = ready (forms.Sts a r)
meaning_of operations.In (Two (Register d) (Number a)) = ready (forms.InIo d a)
meaning_of operations.Out (Two (Number a) (Register r)) = ready (forms.OutIo a r)
meaning_of operations.Bld (Two (Register d) (Number b)) = ready (forms.Bld d b)
meaning_of operations.Bst (Two (Register d) (Number b)) = ready (forms.Bst d b)
meaning_of operations.Sbrc (Two (Register r) (Number b)) = ready (forms.Sbrc r b)
meaning_of operations.Sbrs (Two (Register r) (Number b)) = ready (forms.Sbrs r b)
meaning_of operations.Cbi (Two (Number a) (Number b)) = ready (forms.Cbi a b)
meaning_of operations.Sbi (Two (Number a) (Number b)) = ready (forms.Sbi a b)
meaning_of operations.Sbic (Two (Number a) (Number b)) = ready (forms.Sbic a b)
meaning_of operations.Sbis (Two (Number a) (Number b)) = ready (forms.Sbis a b)
meaning_of operations.Ld (Two (Register d) (Pointer (Through pointer))) = ready (forms.LoadAt d pointer)
meaning_of operations.Ld (Two (Register d) (Pointer (Alone base))) = ready (forms.LoadOff d base 0)
meaning_of operations.St (Two (Pointer (Through pointer)) (Register r)) = ready (forms.StoreAt pointer r)
meaning_of operations.St (Two (Pointer (Alone base)) (Register r)) = ready (forms.StoreOff base 0 r)
meaning_of operations.Ldd (Two (Register d) (Displaced base q)) = ready (forms.LoadOff d base q)
meaning_of operations.Std (Two (Displaced base q) (Register r)) = ready (forms.StoreOff base q r)
meaning_of (operations.Jump kind) (One (Name name)) = Ok (To kind (Label name))
meaning_of (operations.Jump kind) (One (Number a)) = in_range (is_address a) (To kind (At a))
meaning_of (operations.Branch state) (Two (Number s) (Name name)) = in_range (is_bit s) (To (If state s) (Label name))
meaning_of (operations.Branch state) (Two (Number s) (Number a)) = in_range (is_bit s && is_address a) (To (If state s) (At a))
meaning_of operations.Data (One (Number n)) = in_range (is_address n) (Word n)
meaning_of _ _ = Err faults.Form
