-- What the arithmetic instructions do to the registers and to SREG.
-- AVR Instruction Set Manual, "Operation" and "Status Register" of each instruction.
use Rattle.std.specs.Prelude.{ℕ, true, false, ◌+◌, ◌-◌, ◌*◌, ◌/◌, ◌%◌, ◌==◌, bit_and, bit_or, bit_xor}
use Rattle.avr_isa.specs.declared.operation.ProductOp.{ProductOp}
use Rattle.avr_isa.specs.declared.operation.ProductOp.TheVariants.{Mulsu, Fmul, Fmuls, Fmulsu}
use Rattle.avr_isa.specs.declared.operation.TwoOp.{TwoOp}
use Rattle.avr_isa.specs.declared.operation.TwoOp.TheVariants.{Cpc, Sbc, Add, Cp, Sub, Adc, And, Eor, Or, Mov, Mul}
use Rattle.avr_isa.specs.declared.operation.ImmOp.{ImmOp}
use Rattle.avr_isa.specs.declared.operation.ImmOp.TheVariants.{Cpi, Sbci, Subi, Ori, Andi, Ldi}
use Rattle.avr_isa.specs.declared.operation.WordOp.{WordOp}
use Rattle.avr_isa.specs.declared.operation.WordOp.TheVariants.{Adiw, Sbiw}
use Rattle.avr_isa.specs.declared.operation.OneOp.{OneOp}
use Rattle.avr_isa.specs.declared.operation.OneOp.TheVariants.{Com, Neg, Swap, Inc, Asr, Lsr, Ror, Dec}
use Rattle.avr_flags.specs.Status.{with_bit, carry}
use Rattle.avr_flags.specs.Sums.{carry_in, sum_of, sub_of, sbc_of}
use Rattle.avr_flags.specs.Logic.{result_of, shift_of}
use Rattle.avr_flags.specs.Pairs.{adiw_of, sbiw_of}
use Rattle.avr_flags.specs.Products.{signed_product, mixed_product, whole_of, fractional_of}
use Rattle.avr_exec.specs.declared.cpu.Cpu.{Cpu}
use Rattle.avr_exec.specs.Registers.{register, with_register, pair, with_pair, with_status}

-- a result into register d and a new SREG
abbrev pub with_result : Cpu → ℕ → ℕ × ℕ → Cpu
with_result cpu d outcome = with_status (with_register cpu d outcome.0) outcome.1

-- a new SREG alone, after a comparison
abbrev pub compared : Cpu → ℕ × ℕ → Cpu
compared cpu outcome = with_status cpu outcome.1

-- a result into a pair and a new SREG
abbrev pub with_pair_result : Cpu → ℕ → ℕ × ℕ → Cpu
with_pair_result cpu low outcome = with_status (with_pair cpu low outcome.0) outcome.1

-- two registers: ADC adds the carry too, and the bitwise operations clear V
unfoldable pub two_of : TwoOp → Cpu → ℕ → ℕ → Cpu
two_of Cpc cpu d r = compared cpu (sbc_of cpu.sreg (register cpu d) (register cpu r))
two_of Sbc cpu d r = with_result cpu d (sbc_of cpu.sreg (register cpu d) (register cpu r))
two_of Add cpu d r = with_result cpu d (sum_of cpu.sreg (register cpu d) (register cpu r) 0)
two_of Cp cpu d r = compared cpu (sub_of cpu.sreg (register cpu d) (register cpu r))
two_of Sub cpu d r = with_result cpu d (sub_of cpu.sreg (register cpu d) (register cpu r))
two_of Adc cpu d r = with_result cpu d (sum_of cpu.sreg (register cpu d) (register cpu r) (carry_in cpu.sreg))
two_of And cpu d r = with_result cpu d (result_of cpu.sreg (bit_and (register cpu d) (register cpu r)) false)
two_of Eor cpu d r = with_result cpu d (result_of cpu.sreg (bit_xor (register cpu d) (register cpu r)) false)
two_of Or cpu d r = with_result cpu d (result_of cpu.sreg (bit_or (register cpu d) (register cpu r)) false)
two_of Mov cpu d r = with_register cpu d (register cpu r)
two_of Mul cpu d r = with_pair_result cpu 0 (whole_of cpu.sreg (register cpu d * register cpu r))

-- a register and a constant
unfoldable pub immediate_of : ImmOp → Cpu → ℕ → ℕ → Cpu
immediate_of Cpi cpu d k = compared cpu (sub_of cpu.sreg (register cpu d) k)
immediate_of Sbci cpu d k = with_result cpu d (sbc_of cpu.sreg (register cpu d) k)
immediate_of Subi cpu d k = with_result cpu d (sub_of cpu.sreg (register cpu d) k)
immediate_of Ori cpu d k = with_result cpu d (result_of cpu.sreg (bit_or (register cpu d) k) false)
immediate_of Andi cpu d k = with_result cpu d (result_of cpu.sreg (bit_and (register cpu d) k) false)
immediate_of Ldi cpu d k = with_register cpu d k

-- a pair and a constant
unfoldable pub word_of : WordOp → Cpu → ℕ → ℕ → Cpu
word_of Adiw cpu p k = with_pair_result cpu p (adiw_of cpu.sreg (pair cpu p) k)
word_of Sbiw cpu p k = with_pair_result cpu p (sbiw_of cpu.sreg (pair cpu p) k)

-- one register: COM clears V and sets C; V is set after INC of 0x7F and after DEC of 0x80; the bit that comes in at the top is
-- 0 with LSR, the carry with ROR, and with ASR the top bit, which stays
unfoldable pub one_of : OneOp → Cpu → ℕ → Cpu
one_of Com cpu d = with_result cpu d (result_of (with_bit cpu.sreg carry true) (255 - register cpu d) false)
one_of Neg cpu d = with_result cpu d (sub_of cpu.sreg 0 (register cpu d))
one_of Swap cpu d = with_register cpu d (register cpu d % 16 * 16 + register cpu d / 16)
one_of Inc cpu d = with_result cpu d (result_of cpu.sreg ((register cpu d + 1) % 256) (register cpu d == 0x7F))
one_of Asr cpu d = with_result cpu d (shift_of cpu.sreg (register cpu d) (register cpu d / 128))
one_of Lsr cpu d = with_result cpu d (shift_of cpu.sreg (register cpu d) 0)
one_of Ror cpu d = with_result cpu d (shift_of cpu.sreg (register cpu d) (carry_in cpu.sreg))
one_of Dec cpu d = with_result cpu d (result_of cpu.sreg ((register cpu d + 255) % 256) (register cpu d == 0x80))

-- a product into r1:r0
unfoldable pub product_of : ProductOp → Cpu → ℕ → ℕ → Cpu
product_of Mulsu cpu d r = with_pair_result cpu 0 (whole_of cpu.sreg (mixed_product (register cpu d) (register cpu r)))
product_of Fmul cpu d r = with_pair_result cpu 0 (fractional_of cpu.sreg (register cpu d * register cpu r))
product_of Fmuls cpu d r = with_pair_result cpu 0 (fractional_of cpu.sreg (signed_product (register cpu d) (register cpu r)))
product_of Fmulsu cpu d r = with_pair_result cpu 0 (fractional_of cpu.sreg (mixed_product (register cpu d) (register cpu r)))
