-- Serves private functions: the kinds of instructions, by which their execution is divided, and what is
-- answered to one byte.
use Rattle.std.specs.Prelude.{ℕ, Bool, true, false, if◌then◌else◌}
use Rattle.avr_isa.specs.declared.form.Form.{Form}
use Rattle.avr_isa.specs.declared.form.Form.TheVariants.{Movw, Two, Imm, Word, One, Cpse, LoadOff, StoreOff, LoadAt, StoreAt, Lds, Sts, Pop, Push, Lpm0, Elpm0, Lpm, Elpm, InIo, OutIo, Cbi, Sbic, Sbi}
use Rattle.avr_isa.specs.declared.form.Form.TheVariants.{Sbis, Sbrc, Sbrs, Brbs, Brbc, Rjmp, Rcall, Jmp, Call, Ijmp, Icall, Ret, Reti, Sleep, Spm}
use Rattle.avr_exec.specs.declared.answer.Answer.{Answer}
use Rattle.avr_exec.specs.declared.answer.Answer.TheVariants.{Done, Byte}
use Rattle.avr_exec.specs.Registers.{is_own}

-- what an instruction works on
pub data Kind : Type 0 where
  -- registers by the arithmetic unit or in pairs: those that are met most often
  Core : Kind
  -- the core's registers otherwise
  Inner : Kind
  -- the pc alone: skips, branches and jumps
  Turn : Kind
  -- a byte that comes from memory or an I/O register
  Fetch : Kind
  -- a byte that comes from the program
  Read : Kind
  -- a byte that goes to memory or an I/O register, or bits of one
  Deposit : Kind
  -- the pc, by a bit of an I/O register
  Probe : Kind
  -- the pc, by way of the stack
  Reach : Kind
  -- SLEEP and SPM, which aren't executed
  Never : Kind

-- the kind of each instruction
unfoldable pub kind_of : Form → Kind
kind_of (Cpse d r) = Turn
kind_of (Sbrc r b) = Turn
kind_of (Sbrs r b) = Turn
kind_of (Brbs s k) = Turn
kind_of (Brbc s k) = Turn
kind_of (Rjmp k) = Turn
kind_of (Jmp a) = Turn
kind_of Ijmp = Turn
kind_of (LoadOff d base q) = Fetch
kind_of (LoadAt d pointer) = Fetch
kind_of (Lds d a) = Fetch
kind_of (Pop d) = Fetch
kind_of Lpm0 = Read
kind_of Elpm0 = Read
kind_of (Lpm d inc) = Read
kind_of (Elpm d inc) = Read
kind_of (InIo d a) = Fetch
kind_of (StoreOff base q r) = Deposit
kind_of (StoreAt pointer r) = Deposit
kind_of (Sts a r) = Deposit
kind_of (Push r) = Deposit
kind_of (OutIo a r) = Deposit
kind_of (Cbi a b) = Deposit
kind_of (Sbi a b) = Deposit
kind_of (Sbic a b) = Probe
kind_of (Sbis a b) = Probe
kind_of (Rcall k) = Reach
kind_of (Call a) = Reach
kind_of Icall = Reach
kind_of Ret = Reach
kind_of Reti = Reach
kind_of Sleep = Never
kind_of Spm = Never
kind_of (Movw d r) = Core
kind_of (Two op d r) = Core
kind_of (Imm op d k) = Core
kind_of (Word op p k) = Core
kind_of (One op d) = Core
kind_of _ = Inner

-- executed, but met seldom
unfoldable pub is_seldom : Form → Bool
is_seldom (Movw d r) = false
is_seldom (Two op d r) = false
is_seldom (Imm op d k) = false
is_seldom (Word op p k) = false
is_seldom (One op d) = false
is_seldom (Brbs s k) = false
is_seldom (Brbc s k) = false
is_seldom (Rjmp k) = false
is_seldom (Jmp a) = false
is_seldom (LoadOff d base q) = false
is_seldom (LoadAt d pointer) = false
is_seldom (Lds d a) = false
is_seldom (InIo d a) = false
is_seldom (StoreOff base q r) = false
is_seldom (StoreAt pointer r) = false
is_seldom (Sts a r) = false
is_seldom (OutIo a r) = false
is_seldom Sleep = false
is_seldom Spm = false
is_seldom _ = true

-- the answer to a load that gave this byte, and to what gives nothing
abbrev pub answered_byte : ℕ → ℕ → Answer
answered_byte a v = if is_own a then Done else Byte v

abbrev pub answered_done : Unit {0} → Answer
answered_done done = Done
