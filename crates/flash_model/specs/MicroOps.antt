-- Serves private functions and the contract of `MicroOp::of`: which instruction each micro-operation stands for (AVR Instruction
-- Set Manual), and which may be kept for an instruction.
use Rattle.std.specs.Prelude.{ℕ, ◌≡◌, Bool, true, false}
use Rattle.avr_isa.specs.declared.form.Form.{Form}
use Rattle.avr_isa.specs.declared.form.Form.TheVariants as forms
use Rattle.avr_isa.specs.declared.operation.TwoOp.TheVariants as twos
use Rattle.avr_isa.specs.declared.operation.ImmOp.TheVariants as immediates
use Rattle.avr_isa.specs.declared.operation.WordOp.TheVariants as words
use Rattle.avr_isa.specs.declared.operation.OneOp.TheVariants as ones
use Rattle.avr_isa.specs.declared.operation.Base.TheVariants as bases
use Rattle.sram_layout.specs.Regions.{whole_sram, is_within}
use Rattle.flash_model.specs.declared.micro_ops.MicroOp.{MicroOp}
use Rattle.flash_model.specs.declared.micro_ops.MicroOp.TheVariants.{Undecoded, Other, Nop, Movw, Cpc, Sbc, Add, Cp, Sub, Adc, And, Eor, Or, Mov, Mul, Cpi, Sbci, Subi, Ori, Andi, Ldi, Adiw, Sbiw, Com}
use Rattle.flash_model.specs.declared.micro_ops.MicroOp.TheVariants.{Neg, Swap, Inc, Asr, Lsr, Ror, Dec, Brbs, Brbc, Rjmp, Jmp, Lds, Sts, LoadZ, StoreZ, InSreg, OutSreg, Call, Sbrc, Sbrs, Cpse, Bld}
use Rattle.flash_model.specs.declared.micro_ops.MicroOp.TheVariants.{Bst, Bset, Bclr}

-- it stands for one instruction: the other two do for any
unfoldable pub has_form : MicroOp → Bool
has_form Undecoded = false
has_form Other = false
has_form _ = true

-- the instruction that it stands for; SLEEP, which no step executes, where it stands for any
unfoldable pub form_of : MicroOp → Form
form_of Undecoded = forms.Sleep
form_of Other = forms.Sleep
form_of Nop = forms.Nop
form_of (Movw d r) = forms.Movw d r
form_of (Cpc d r) = forms.Two twos.Cpc d r
form_of (Sbc d r) = forms.Two twos.Sbc d r
form_of (Add d r) = forms.Two twos.Add d r
form_of (Cp d r) = forms.Two twos.Cp d r
form_of (Sub d r) = forms.Two twos.Sub d r
form_of (Adc d r) = forms.Two twos.Adc d r
form_of (And d r) = forms.Two twos.And d r
form_of (Eor d r) = forms.Two twos.Eor d r
form_of (Or d r) = forms.Two twos.Or d r
form_of (Mov d r) = forms.Two twos.Mov d r
form_of (Mul d r) = forms.Two twos.Mul d r
form_of (Cpi d k) = forms.Imm immediates.Cpi d k
form_of (Sbci d k) = forms.Imm immediates.Sbci d k
form_of (Subi d k) = forms.Imm immediates.Subi d k
form_of (Ori d k) = forms.Imm immediates.Ori d k
form_of (Andi d k) = forms.Imm immediates.Andi d k
form_of (Ldi d k) = forms.Imm immediates.Ldi d k
form_of (Adiw p k) = forms.Word words.Adiw p k
form_of (Sbiw p k) = forms.Word words.Sbiw p k
form_of (Com d) = forms.One ones.Com d
form_of (Neg d) = forms.One ones.Neg d
form_of (Swap d) = forms.One ones.Swap d
form_of (Inc d) = forms.One ones.Inc d
form_of (Asr d) = forms.One ones.Asr d
form_of (Lsr d) = forms.One ones.Lsr d
form_of (Ror d) = forms.One ones.Ror d
form_of (Dec d) = forms.One ones.Dec d
form_of (Brbs s k) = forms.Brbs s k
form_of (Brbc s k) = forms.Brbc s k
form_of (Rjmp k) = forms.Rjmp k
form_of (Jmp a) = forms.Jmp a
form_of (Lds d a) = forms.Lds d a
form_of (Sts r a) = forms.Sts a r
form_of (LoadZ d q) = forms.LoadOff d bases.Z q
form_of (StoreZ q r) = forms.StoreOff bases.Z q r
form_of (InSreg d) = forms.InIo d 0x3F
form_of (OutSreg r) = forms.OutIo 0x3F r
form_of (Call a) = forms.Call a
form_of (Sbrc r b size) = forms.Sbrc r b
form_of (Sbrs r b size) = forms.Sbrs r b
form_of (Cpse d r size) = forms.Cpse d r
form_of (Bld d b) = forms.Bld d b
form_of (Bst r b) = forms.Bst r b
form_of (Bset s) = forms.Bset s
form_of (Bclr s) = forms.Bclr s

-- how many words the next instruction has, by a skip; any other has n, which is told
unfoldable pub next_size_in : MicroOp → ℕ → ℕ
next_size_in (Sbrc r b size) n = size
next_size_in (Sbrs r b size) n = size
next_size_in (Cpse d r size) n = size
next_size_in _ n = n

-- the data address that it has with it, if any, is one of SRAM
unfoldable pub is_in_sram : MicroOp → Bool
is_in_sram (Lds d a) = is_within whole_sram a
is_in_sram (Sts r a) = is_within whole_sram a
is_in_sram _ = true

-- it may be kept for an instruction that stands before one of n words: it stands for this one, or for any
pub record CanStandFor (op : MicroOp) (form : Form) (n : ℕ) : Type 0 where
  pub in_sram : is_in_sram op ≡ true
  pub instr : has_form op ≡ true → form_of op ≡ form
  pub size : has_form op ≡ true → next_size_in op n ≡ n
