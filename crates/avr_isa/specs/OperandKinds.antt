-- Serves private functions: kinds of instructions by their operands, where each operand is read once.
use Rattle.std.specs.Prelude.{Bool, true, false}
use Rattle.avr_isa.specs.declared.form.Form.{Form}
use Rattle.avr_isa.specs.declared.form.Form.TheVariants.{Movw, Muls, Product, Two, Cpse, Imm, Word, One, LoadOff, StoreOff, LoadAt, StoreAt, Lds, Sts, Pop, Push, Lpm, Elpm, InIo, OutIo}

-- a result of registers and a constant
abbrev pub makes_result : Form → Bool
makes_result (Movw d r) = true
makes_result (Muls d r) = true
makes_result (Product op d r) = true
makes_result (Two op d r) = true
makes_result (Cpse d r) = true
makes_result (Imm op d k) = true
makes_result (Word op p k) = true
makes_result (One op d) = true
makes_result _ = false

-- a register moved to or from an address
abbrev pub makes_access : Form → Bool
makes_access (LoadOff d base q) = true
makes_access (StoreOff base q r) = true
makes_access (LoadAt d pointer) = true
makes_access (StoreAt pointer r) = true
makes_access (Lds d a) = true
makes_access (Sts a r) = true
makes_access (Pop d) = true
makes_access (Push r) = true
makes_access (Lpm d increment) = true
makes_access (Elpm d increment) = true
makes_access (InIo d a) = true
makes_access (OutIo a r) = true
makes_access _ = false
