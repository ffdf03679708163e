-- What an instruction does: what it asks of its bus, which is nothing or one thing, and what becomes of the core by the answer.
-- The addresses of the core's own registers are never asked for.
-- AVR Instruction Set Manual, "Operation" and "Program Counter" of each instruction; "The Program and Data Addressing Modes".
use Rattle.std.specs.Prelude.{ℕ, true, false, not, ◌^◌, ◌==◌, ◌<◌, ◌≤◌, ◌≡◌, if◌then◌else◌}
use Rattle.avr_isa.specs.declared.form.Form.{Form}
use Rattle.avr_isa.specs.declared.form.Form.TheVariants.{Movw, Muls, Product, Two, Cpse, Imm, Word, One, LoadOff, StoreOff, LoadAt, StoreAt, Lds, Sts, Pop, Push, Lpm0, Elpm0, Lpm, Elpm, InIo, OutIo}
use Rattle.avr_isa.specs.declared.form.Form.TheVariants.{Cbi, Sbi, Sbic, Sbis, Bld, Bst, Sbrc, Sbrs, Bset, Bclr, Brbs, Brbc, Rjmp, Rcall, Jmp, Call, Ijmp, Icall, Ret, Reti, Sleep, Spm}
use Rattle.avr_isa.specs.declared.operation.Base.{Base}
use Rattle.avr_isa.specs.declared.operation.Base.TheVariants.{Y, Z}
use Rattle.avr_isa.specs.declared.operation.Ptr.{Ptr}
use Rattle.avr_isa.specs.declared.operation.Ptr.TheVariants.{ZDec, YDec, XDec}
use Rattle.avr_isa.specs.UndefinedPairs.{low_register}
pub use Rattle.avr_isa.specs.IoTable.{io_address}
use Rattle.avr_flags.specs.Status.{has_bit, with_bit, transfer, interrupts}
use Rattle.avr_flags.specs.Products.{signed_product, whole_of}
use Rattle.avr_exec.specs.declared.cpu.Cpu.{Cpu}
use Rattle.avr_exec.specs.declared.ask.Ask.{Ask}
use Rattle.avr_exec.specs.declared.ask.Ask.TheVariants.{Nothing, Load, Store, Modify, PushByte, PopByte, PushReturn, PopReturn, Program, ExtendedProgram, ExtendedProgramRaising}
use Rattle.avr_exec.specs.declared.answer.Answer.{Answer}
use Rattle.avr_exec.specs.declared.answer.Answer.TheVariants.{Done, Byte, Address}
use Rattle.avr_isa.specs.Addresses.{wrapping_sum, wrapping_difference, relative}
use Rattle.avr_exec.specs.Registers.{register, with_register, pair, with_pair, with_status, with_stack, with_counter, is_own}
use Rattle.avr_exec.specs.Arithmetic.{with_pair_result, two_of, immediate_of, word_of, one_of, product_of}
use Rattle.avr_exec.specs.Effects.{loaded, stored, with_pointer, with_z_raised_if, next, after_two_words, branch_if, skip_if, called, returned}

-- the low register of Y and of Z
abbrev pub base_register : Base → ℕ
base_register Y = 28
base_register Z = 30

-- the data address of a displacement from Y or Z
abbrev pub displaced : Cpu → Base → ℕ → ℕ
displaced cpu base q = wrapping_sum (pair cpu (base_register base)) q

-- a pointer's value
abbrev pub pointer_value : Cpu → Ptr → ℕ
pointer_value cpu pointer = pair cpu (low_register pointer)

-- the data address of a pointer with this value: the value, lowered first by a pre-decrement
unfoldable pub pointed : Ptr → ℕ → ℕ
pointed ZDec value = wrapping_difference value 1
pointed YDec value = wrapping_difference value 1
pointed XDec value = wrapping_difference value 1
pointed _ value = value

-- the data address of a pointer
abbrev pub target : Cpu → Ptr → ℕ
target cpu pointer = pointed pointer (pointer_value cpu pointer)

-- a byte wanted from a data address, and a byte for it
unfoldable pub load_of : ℕ → Ask
load_of a = if is_own a then Nothing else Load a

unfoldable pub store_of : ℕ → ℕ → Ask
store_of a v = if is_own a then Nothing else Store a v

-- What an instruction does: what it asks, and what becomes of the core by the number that is answered. It may load a byte from a
-- data address, or store one there, and go on with the core as it is then.
abbrev pub loads : Cpu → ℕ → (ℕ → Cpu) → Ask × (ℕ → Cpu)
loads cpu a rest = (load_of a, λ v. rest (loaded cpu a v))

abbrev pub stores : Cpu → ℕ → ℕ → (Cpu → Cpu) → Ask × (ℕ → Cpu)
stores cpu a v rest = (store_of a v, λ _. rest (stored cpu a v))

-- or ask nothing
abbrev pub sets : Cpu → Ask × (ℕ → Cpu)
sets cpu = (Nothing, λ _. cpu)

-- What each instruction does, where the next one has n words: those not named change the pc alone. SLEEP and SPM aren't executed.
abbrev pub plan_of : Form → Cpu → ℕ → Ask × (ℕ → Cpu)
plan_of (Movw d r) cpu n = sets (next (with_pair cpu d (pair cpu r)))
plan_of (Muls d r) cpu n = sets (next (with_pair_result cpu 0 (whole_of cpu.sreg (signed_product (register cpu d) (register cpu r)))))
plan_of (Product op d r) cpu n = sets (next (product_of op cpu d r))
plan_of (Two op d r) cpu n = sets (next (two_of op cpu d r))
plan_of (Cpse d r) cpu n = sets (skip_if (register cpu d == register cpu r) n cpu)
plan_of (Imm op d k) cpu n = sets (next (immediate_of op cpu d k))
plan_of (Word op p k) cpu n = sets (next (word_of op cpu p k))
plan_of (One op d) cpu n = sets (next (one_of op cpu d))
plan_of (LoadOff d base q) cpu n = loads cpu (displaced cpu base q) (λ v. next (with_register cpu d v))
plan_of (StoreOff base q r) cpu n = stores cpu (displaced cpu base q) (register cpu r) next
plan_of (LoadAt d pointer) cpu n = loads cpu (target cpu pointer) (λ v. next (with_pointer (with_register cpu d v) pointer (pointer_value cpu pointer)))
plan_of (StoreAt pointer r) cpu n = stores cpu (target cpu pointer) (register cpu r) (λ core. next (with_pointer core pointer (pointer_value cpu pointer)))
plan_of (Lds d a) cpu n = loads cpu a (λ v. after_two_words (with_register cpu d v))
plan_of (Sts a r) cpu n = stores cpu a (register cpu r) after_two_words
plan_of (Pop d) cpu n = (PopByte cpu.sp, λ v. next (with_stack (with_register cpu d v) (wrapping_sum cpu.sp 1)))
plan_of (Push r) cpu n = (PushByte cpu.sp (register cpu r), λ _. next (with_stack cpu (wrapping_difference cpu.sp 1)))
plan_of Lpm0 cpu n = (Program (pair cpu 30), λ v. next (with_register cpu 0 v))
plan_of Elpm0 cpu n = (ExtendedProgram (pair cpu 30), λ v. next (with_register cpu 0 v))
plan_of (Lpm d inc) cpu n = (Program (pair cpu 30), λ v. next (with_z_raised_if (with_register cpu d v) inc (pair cpu 30)))
plan_of (Elpm d inc) cpu n = (if inc then ExtendedProgramRaising (pair cpu 30) else ExtendedProgram (pair cpu 30), λ v. next (with_z_raised_if (with_register cpu d v) inc (pair cpu 30)))
plan_of (InIo d a) cpu n = loads cpu (io_address a) (λ v. next (with_register cpu d v))
plan_of (OutIo a r) cpu n = stores cpu (io_address a) (register cpu r) next
plan_of (Cbi a b) cpu n = (Modify (io_address a) (2 ^ b) 0, λ _. next cpu)
plan_of (Sbi a b) cpu n = (Modify (io_address a) 0 (2 ^ b), λ _. next cpu)
plan_of (Sbic a b) cpu n = loads cpu (io_address a) (λ v. skip_if (not (has_bit v (2 ^ b))) n cpu)
plan_of (Sbis a b) cpu n = loads cpu (io_address a) (λ v. skip_if (has_bit v (2 ^ b)) n cpu)
plan_of (Bld d b) cpu n = sets (next (with_register cpu d (with_bit (register cpu d) (2 ^ b) (has_bit cpu.sreg transfer))))
plan_of (Bst d b) cpu n = sets (next (with_status cpu (with_bit cpu.sreg transfer (has_bit (register cpu d) (2 ^ b)))))
plan_of (Sbrc r b) cpu n = sets (skip_if (not (has_bit (register cpu r) (2 ^ b))) n cpu)
plan_of (Sbrs r b) cpu n = sets (skip_if (has_bit (register cpu r) (2 ^ b)) n cpu)
plan_of (Bset s) cpu n = sets (next (with_status cpu (with_bit cpu.sreg (2 ^ s) true)))
plan_of (Bclr s) cpu n = sets (next (with_status cpu (with_bit cpu.sreg (2 ^ s) false)))
plan_of (Brbs s k) cpu n = sets (branch_if (has_bit cpu.sreg (2 ^ s)) k cpu)
plan_of (Brbc s k) cpu n = sets (branch_if (not (has_bit cpu.sreg (2 ^ s))) k cpu)
plan_of (Rjmp k) cpu n = sets (with_counter cpu (relative cpu.pc k))
plan_of (Rcall k) cpu n = (PushReturn cpu.sp (wrapping_sum cpu.pc 1), λ _. called cpu (relative cpu.pc k))
plan_of (Jmp a) cpu n = sets (with_counter cpu a)
plan_of (Call a) cpu n = (PushReturn cpu.sp (wrapping_sum cpu.pc 2), λ _. called cpu a)
plan_of Ijmp cpu n = sets (with_counter cpu (pair cpu 30))
plan_of Icall cpu n = (PushReturn cpu.sp (wrapping_sum cpu.pc 1), λ _. called cpu (pair cpu 30))
plan_of Ret cpu n = (PopReturn cpu.sp, λ a. returned cpu a)
plan_of Reti cpu n = (PopReturn cpu.sp, λ a. with_status (returned cpu a) (with_bit cpu.sreg interrupts true))
plan_of Sleep cpu n = sets cpu
plan_of Spm cpu n = sets cpu
plan_of _ cpu n = sets (next cpu)

-- the number of an answer
abbrev pub number_of : Answer → ℕ
number_of (Byte v) = v
number_of (Address a) = a
number_of Done = 0

-- what an instruction asks, whatever the next one is, and what it makes of the core by an answer
unfoldable pub ask_of : Form → Cpu → Ask
ask_of form cpu = (plan_of form cpu 0).0

unfoldable pub finish_of : Form → Cpu → ℕ → Answer → Cpu
finish_of form cpu n answer = (plan_of form cpu n).1 (number_of answer)

-- What every ask keeps to: a data address below 65,536 and outside the core's own, a register of I/O for
-- a read and write in one, a byte of the program within RAMPZ's and Z's 17 bits.
unfoldable pub IsFine : Ask → Type 0
IsFine Nothing = Unit {0}
IsFine (Load a) = (a < 65536) × (is_own a ≡ false)
IsFine (Store a v) = (a < 65536) × (is_own a ≡ false) × (v < 256)
IsFine (Modify a clear set) = (0x20 ≤ a) × (a < 0x40) × (is_own a ≡ false) × (clear < 256) × (set < 256)
IsFine (PushByte sp v) = (sp < 65536) × (v < 256)
IsFine (PopByte sp) = sp < 65536
IsFine (PushReturn sp ret) = (sp < 65536) × (ret < 65536)
IsFine (PopReturn sp) = sp < 65536
IsFine (Program z) = z < 65536
IsFine (ExtendedProgram z) = z < 65536
IsFine (ExtendedProgramRaising z) = z < 65536
