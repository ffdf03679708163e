-- Serves proofs: words in which two executions are compared: over two spaces, and at two places of the program.
use Rattle.std.specs.Prelude.{ℕ, Bool, true, false, not, ◌==◌, ◌||◌}
use Rattle.avr_isa.specs.declared.form.Form.{Form}
use Rattle.avr_isa.specs.declared.form.Form.TheVariants.{Cpse, LoadOff, StoreOff, LoadAt, StoreAt, Lds, Sts, Pop, Push, InIo, OutIo}
use Rattle.avr_isa.specs.declared.form.Form.TheVariants.{Sbic, Sbis, Sbrc, Sbrs, Brbs, Brbc, Rjmp, Rcall, Jmp, Call, Ijmp, Icall, Ret}
use Rattle.avr_isa.specs.declared.form.Form.TheVariants.{Reti, Sleep, Spm}
use Rattle.avr_exec.specs.declared.cpu.Cpu.{Cpu}
use Rattle.avr_isa.specs.IoTable.{io_address}
use Rattle.avr_exec.specs.Spaces.{Outcome, Went, Stopped}

-- the same outcome over another space
abbrev pub over : {S T A : Type 0} → (S → T) → Outcome S A → Outcome T A
over h (Went answer next) = Went answer (h next)
over h (Stopped stop) = Stopped stop

-- the fact holds of the next space; a stop leaves the space
abbrev pub Leaves : {S A : Type 0} → (S → Type 0) → Outcome S A → Type 0
Leaves P (Went answer next) = P next
Leaves P (Stopped stop) = Unit {0}

-- no stop
abbrev pub IsWent : {S A : Type 0} → Outcome S A → Type 0
IsWent (Went answer next) = Unit {0}
IsWent (Stopped stop) = ⊥

-- the same registers and SREG at another pc
abbrev pub moved : Cpu → ℕ → Cpu
moved cpu pc = record cpu { pc = pc }

-- the same registers and SREG at another pc and SP
abbrev pub placed : Cpu → ℕ → ℕ → Cpu
placed cpu pc sp = record cpu { pc = pc; sp = sp }

-- the instructions that may set the pc to something else than the next instruction, and the two that
-- aren't executed
unfoldable pub is_transfer : Form → Bool
is_transfer (Cpse d r) = true
is_transfer (Sbic a b) = true
is_transfer (Sbis a b) = true
is_transfer (Sbrc r b) = true
is_transfer (Sbrs r b) = true
is_transfer (Brbs s k) = true
is_transfer (Brbc s k) = true
is_transfer (Rjmp k) = true
is_transfer (Rcall k) = true
is_transfer (Jmp a) = true
is_transfer (Call a) = true
is_transfer Ijmp = true
is_transfer Icall = true
is_transfer Ret = true
is_transfer Reti = true
is_transfer Sleep = true
is_transfer Spm = true
is_transfer _ = false

-- the data address of SPL or SPH
abbrev pub is_stack_pointer : ℕ → Bool
is_stack_pointer a = a == 0x5D || a == 0x5E

-- the instructions that neither transfer control nor may reach SP: all but transfers, PUSH and POP, loads
-- and stores at data addresses, and IN and OUT of SPL and SPH
unfoldable pub is_straight : Form → Bool
is_straight (LoadOff d base q) = false
is_straight (StoreOff base q r) = false
is_straight (LoadAt d pointer) = false
is_straight (StoreAt pointer r) = false
is_straight (Lds d a) = false
is_straight (Sts a r) = false
is_straight (Pop d) = false
is_straight (Push r) = false
is_straight (InIo d a) = not (is_stack_pointer (io_address a))
is_straight (OutIo a r) = not (is_stack_pointer (io_address a))
is_straight form = not (is_transfer form)
