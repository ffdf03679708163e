-- The instructions, a row each (AVR Instruction Set Manual, "Operands", "16-bit Opcode" and "32-bit Opcode"): the kinds of its
-- operands say whether these are in their ranges, and where their bits stand.
use Rattle.std.specs.Prelude.{ℕ, ℤ, pos, negsuc, ◌+◌, ◌-◌, ◌*◌, ◌/◌, ◌%◌, Bool, true, ◌&&◌, ◌==◌, nat_lt, nat_le, int_le, if◌then◌else◌, Option, Some, None}
use Rattle.avr_isa.specs.declared.form.Form.{Form}
use Rattle.avr_isa.specs.declared.form.Form.TheVariants.{Nop, Movw, Muls, Product, Two, Cpse, Imm, Word, One, LoadOff, StoreOff, LoadAt, StoreAt, Lds, Sts, Pop, Push, Lpm0, Elpm0, Lpm, Elpm, InIo}
use Rattle.avr_isa.specs.declared.form.Form.TheVariants.{OutIo, Cbi, Sbic, Sbi, Sbis, Bld, Bst, Sbrc, Sbrs, Bset, Bclr, Brbs, Brbc, Rjmp, Rcall, Jmp, Call, Ijmp, Icall, Ret, Reti, Sleep, Break, Wdr}
use Rattle.avr_isa.specs.declared.form.Form.TheVariants.{Spm}
use Rattle.avr_isa.specs.declared.operation.ProductOp.{ProductOp}
use Rattle.avr_isa.specs.declared.operation.ProductOp.TheVariants.{Mulsu, Fmul, Fmuls, Fmulsu}
use Rattle.avr_isa.specs.declared.operation.TwoOp.{TwoOp}
use Rattle.avr_isa.specs.declared.operation.TwoOp.TheVariants.{Cpc, Sbc, Add, Cp, Sub, Adc, And, Eor, Or, Mov, Mul}
use Rattle.avr_isa.specs.declared.operation.ImmOp.{ImmOp}
use Rattle.avr_isa.specs.declared.operation.ImmOp.TheVariants.{Cpi, Sbci, Subi, Ori, Andi, Ldi}
use Rattle.avr_isa.specs.declared.operation.WordOp.{WordOp}
use Rattle.avr_isa.specs.declared.operation.WordOp.TheVariants.{Adiw, Sbiw}
use Rattle.avr_isa.specs.declared.operation.OneOp.{OneOp}
use Rattle.avr_isa.specs.declared.operation.OneOp.TheVariants.{Com, Neg, Swap, Inc, Asr, Lsr, Ror, Dec}
use Rattle.avr_isa.specs.declared.operation.Base.{Base}
use Rattle.avr_isa.specs.declared.operation.Base.TheVariants.{Y, Z}
use Rattle.avr_isa.specs.declared.operation.Ptr.{Ptr}
use Rattle.avr_isa.specs.declared.operation.Ptr.TheVariants.{ZInc, ZDec, YInc, YDec, X, XInc, XDec}

-- What a row says: whether each operand is in its range, the first word, and the second, where there is one.
pub record Row : Type 0 where
  pub in_range : Bool
  pub first : ℕ
  pub second : Option ℕ

-- a row of one word
abbrev pub one_word : Bool → ℕ → Row
one_word in_range first = record { in_range = in_range; first = first; second = None }

-- The ranges of operands. -------------------------------------------------------------------------

-- r0 to r31
abbrev pub is_register : ℕ → Bool
is_register n = nat_lt n 32

-- a register from `low` on and below `high`
abbrev pub is_between : (low high n : ℕ) → Bool
is_between low high n = nat_le low n && nat_lt n high

-- a bit of a register or of SREG
abbrev pub is_bit : ℕ → Bool
is_bit n = nat_lt n 8

-- a data address, or the number of a word of the program
abbrev pub is_address : ℕ → Bool
is_address n = nat_lt n 65536

-- a signed number in `n` numbers of two's complement
abbrev pub twos_complement : ℕ → ℤ → ℕ
twos_complement n (pos k) = k
twos_complement n (negsuc k) = n - 1 - k

-- The kinds of operands, by the row of an opcode, which has 0 for the bits of the operands. -------

-- no operands
abbrev pub no_operands : ℕ → Row
no_operands opcode = one_word true opcode

-- .... ..rd dddd rrrr
abbrev pub two_registers : (opcode d r : ℕ) → Row
two_registers opcode d r = one_word (is_register d && is_register r) (opcode + (512 * (r / 16) + 16 * d + r % 16))

-- .... .... dddd rrrr, each an even register, which is twice the field
abbrev pub two_pairs : (opcode d r : ℕ) → Row
two_pairs opcode d r = one_word (is_register d && (d % 2 == 0) && (is_register r && (r % 2 == 0))) (opcode + (16 * (d / 2) + r / 2))

-- .... .... dddd rrrr, each a register below `high`, which is 16 more than the field
abbrev pub two_high_registers : (high opcode d r : ℕ) → Row
two_high_registers high opcode d r = one_word (is_between 16 high d && is_between 16 high r) (opcode + (16 * (d - 16) + (r - 16)))

-- .... KKKK dddd KKKK, a register that is 16 more than the field
abbrev pub high_register_and_byte : (opcode d k : ℕ) → Row
high_register_and_byte opcode d k = one_word (is_between 16 32 d && nat_lt k 256) (opcode + (256 * (k / 16) + 16 * (d - 16) + k % 16))

-- .... .... KKdd KKKK, an even register that is 24 and twice the field
abbrev pub pair_and_six_bits : (opcode p k : ℕ) → Row
pair_and_six_bits opcode p k = one_word (is_between 24 32 p && (p % 2 == 0) && nat_lt k 64) (opcode + (64 * (k / 16) + 16 * ((p - 24) / 2) + k % 16))

-- .... ...d dddd ....
abbrev pub one_register : (opcode d : ℕ) → Row
one_register opcode d = one_word (is_register d) (opcode + 16 * d)

-- .... ...d dddd ...., and the address in the second word
abbrev pub register_and_address : (opcode d a : ℕ) → Row
register_and_address opcode d a = record { in_range = is_register d && is_address a; first = opcode + 16 * d; second = Some a }

-- ..q. qq.d dddd .qqq
abbrev pub register_and_displacement : (opcode d q : ℕ) → Row
register_and_displacement opcode d q = one_word (is_register d && nat_lt q 64) (opcode + (8192 * (q / 32) + 1024 * (q / 8 % 4) + 16 * d + q % 8))

-- .... .AAd dddd AAAA
abbrev pub register_and_io : (opcode d a : ℕ) → Row
register_and_io opcode d a = one_word (is_register d && nat_lt a 64) (opcode + (512 * (a / 16) + 16 * d + a % 16))

-- .... .... AAAA Abbb
abbrev pub io_and_bit : (opcode a b : ℕ) → Row
io_and_bit opcode a b = one_word (nat_lt a 32 && is_bit b) (opcode + (8 * a + b))

-- .... ...d dddd .bbb
abbrev pub register_and_bit : (opcode d b : ℕ) → Row
register_and_bit opcode d b = one_word (is_register d && is_bit b) (opcode + (16 * d + b))

-- .... .... .sss ....
abbrev pub flag : (opcode s : ℕ) → Row
flag opcode s = one_word (is_bit s) (opcode + 16 * s)

-- .... ..kk kkkk ksss
abbrev pub flag_and_branch : (opcode s : ℕ) → (k : ℤ) → Row
flag_and_branch opcode s k = one_word (is_bit s && (int_le (negsuc 63) k && int_le k (pos 63))) (opcode + (8 * twos_complement 128 k + s))

-- .... kkkk kkkk kkkk
abbrev pub jump : (opcode : ℕ) → (k : ℤ) → Row
jump opcode k = one_word (int_le (negsuc 2047) k && int_le k (pos 2047)) (opcode + twos_complement 4096 k)

-- the address in the second word
abbrev pub one_address : (opcode a : ℕ) → Row
one_address opcode a = record { in_range = is_address a; first = opcode; second = Some a }

-- The opcodes of the operations that share a row. --------------------------------------------------

abbrev pub product_opcode : ProductOp → ℕ
product_opcode Mulsu = 0x0300  -- 0000 0011 0ddd 0rrr
product_opcode Fmul = 0x0308  -- 0000 0011 0ddd 1rrr
product_opcode Fmuls = 0x0380  -- 0000 0011 1ddd 0rrr
product_opcode Fmulsu = 0x0388  -- 0000 0011 1ddd 1rrr

abbrev pub two_opcode : TwoOp → ℕ
two_opcode Cpc = 0x0400  -- 0000 01rd dddd rrrr
two_opcode Sbc = 0x0800  -- 0000 10rd dddd rrrr
two_opcode Add = 0x0C00  -- 0000 11rd dddd rrrr
two_opcode Cp = 0x1400  -- 0001 01rd dddd rrrr
two_opcode Sub = 0x1800  -- 0001 10rd dddd rrrr
two_opcode Adc = 0x1C00  -- 0001 11rd dddd rrrr
two_opcode And = 0x2000  -- 0010 00rd dddd rrrr
two_opcode Eor = 0x2400  -- 0010 01rd dddd rrrr
two_opcode Or = 0x2800  -- 0010 10rd dddd rrrr
two_opcode Mov = 0x2C00  -- 0010 11rd dddd rrrr
two_opcode Mul = 0x9C00  -- 1001 11rd dddd rrrr

abbrev pub imm_opcode : ImmOp → ℕ
imm_opcode Cpi = 0x3000  -- 0011 KKKK dddd KKKK
imm_opcode Sbci = 0x4000  -- 0100 KKKK dddd KKKK
imm_opcode Subi = 0x5000  -- 0101 KKKK dddd KKKK
imm_opcode Ori = 0x6000  -- 0110 KKKK dddd KKKK
imm_opcode Andi = 0x7000  -- 0111 KKKK dddd KKKK
imm_opcode Ldi = 0xE000  -- 1110 KKKK dddd KKKK

abbrev pub word_opcode : WordOp → ℕ
word_opcode Adiw = 0x9600  -- 1001 0110 KKdd KKKK
word_opcode Sbiw = 0x9700  -- 1001 0111 KKdd KKKK

abbrev pub one_opcode : OneOp → ℕ
one_opcode Com = 0x9400  -- 1001 010d dddd 0000
one_opcode Neg = 0x9401  -- 1001 010d dddd 0001
one_opcode Swap = 0x9402  -- 1001 010d dddd 0010
one_opcode Inc = 0x9403  -- 1001 010d dddd 0011
one_opcode Asr = 0x9405  -- 1001 010d dddd 0101
one_opcode Lsr = 0x9406  -- 1001 010d dddd 0110
one_opcode Ror = 0x9407  -- 1001 010d dddd 0111
one_opcode Dec = 0x940A  -- 1001 010d dddd 1010

-- the bit B of a base, 10q0 qq.d dddd Bqqq
abbrev pub base_bit : Base → ℕ
base_bit Z = 0x0  -- 0...
base_bit Y = 0x8  -- 1...

-- the bits P of a pointer, 1001 00.d dddd PPPP
abbrev pub pointer_bits : Ptr → ℕ
pointer_bits ZInc = 0x1  -- 0001
pointer_bits ZDec = 0x2  -- 0010
pointer_bits YInc = 0x9  -- 1001
pointer_bits YDec = 0xA  -- 1010
pointer_bits X = 0xC  -- 1100
pointer_bits XInc = 0xD  -- 1101
pointer_bits XDec = 0xE  -- 1110

-- The rows, in the order of the opcodes. ----------------------------------------------------------

abbrev pub row : Form → Row
row Nop = no_operands 0x0000  -- 0000 0000 0000 0000
row (Movw d r) = two_pairs 0x0100 d r  -- 0000 0001 dddd rrrr
row (Muls d r) = two_high_registers 32 0x0200 d r  -- 0000 0010 dddd rrrr
row (Product op d r) = two_high_registers 24 (product_opcode op) d r
row (Two op d r) = two_registers (two_opcode op) d r
row (Cpse d r) = two_registers 0x1000 d r  -- 0001 00rd dddd rrrr
row (Imm op d k) = high_register_and_byte (imm_opcode op) d k
row (LoadOff d base q) = register_and_displacement (0x8000 + base_bit base) d q  -- 10q0 qq0d dddd Bqqq
row (StoreOff base q r) = register_and_displacement (0x8200 + base_bit base) r q  -- 10q0 qq1r rrrr Bqqq
row (Lds d a) = register_and_address 0x9000 d a  -- 1001 000d dddd 0000, a
row (LoadAt d pointer) = one_register (0x9000 + pointer_bits pointer) d  -- 1001 000d dddd PPPP
row (Lpm d increment) = one_register (if increment then 0x9005 else 0x9004) d  -- 1001 000d dddd 0101 with Z+, 1001 000d dddd 0100 with Z
row (Elpm d increment) = one_register (if increment then 0x9007 else 0x9006) d  -- 1001 000d dddd 0111 with Z+, 1001 000d dddd 0110 with Z
row (Pop d) = one_register 0x900F d  -- 1001 000d dddd 1111
row (Sts a r) = register_and_address 0x9200 r a  -- 1001 001r rrrr 0000, a
row (StoreAt pointer r) = one_register (0x9200 + pointer_bits pointer) r  -- 1001 001r rrrr PPPP
row (Push r) = one_register 0x920F r  -- 1001 001r rrrr 1111
row (One op d) = one_register (one_opcode op) d
row (Bset s) = flag 0x9408 s  -- 1001 0100 0sss 1000
row (Bclr s) = flag 0x9488 s  -- 1001 0100 1sss 1000
row Ijmp = no_operands 0x9409  -- 1001 0100 0000 1001
row (Jmp a) = one_address 0x940C a  -- 1001 0100 0000 1100, a
row (Call a) = one_address 0x940E a  -- 1001 0100 0000 1110, a
row Ret = no_operands 0x9508  -- 1001 0101 0000 1000
row Icall = no_operands 0x9509  -- 1001 0101 0000 1001
row Reti = no_operands 0x9518  -- 1001 0101 0001 1000
row Sleep = no_operands 0x9588  -- 1001 0101 1000 1000
row Break = no_operands 0x9598  -- 1001 0101 1001 1000
row Wdr = no_operands 0x95A8  -- 1001 0101 1010 1000
row Lpm0 = no_operands 0x95C8  -- 1001 0101 1100 1000
row Elpm0 = no_operands 0x95D8  -- 1001 0101 1101 1000
row Spm = no_operands 0x95E8  -- 1001 0101 1110 1000
row (Word op p k) = pair_and_six_bits (word_opcode op) p k
row (Cbi a b) = io_and_bit 0x9800 a b  -- 1001 1000 AAAA Abbb
row (Sbic a b) = io_and_bit 0x9900 a b  -- 1001 1001 AAAA Abbb
row (Sbi a b) = io_and_bit 0x9A00 a b  -- 1001 1010 AAAA Abbb
row (Sbis a b) = io_and_bit 0x9B00 a b  -- 1001 1011 AAAA Abbb
row (InIo d a) = register_and_io 0xB000 d a  -- 1011 0AAd dddd AAAA
row (OutIo a r) = register_and_io 0xB800 r a  -- 1011 1AAr rrrr AAAA
row (Rjmp k) = jump 0xC000 k  -- 1100 kkkk kkkk kkkk
row (Rcall k) = jump 0xD000 k  -- 1101 kkkk kkkk kkkk
row (Brbs s k) = flag_and_branch 0xF000 s k  -- 1111 00kk kkkk ksss
row (Brbc s k) = flag_and_branch 0xF400 s k  -- 1111 01kk kkkk ksss
row (Bld d b) = register_and_bit 0xF800 d b  -- 1111 100d dddd 0bbb
row (Bst d b) = register_and_bit 0xFA00 d b  -- 1111 101d dddd 0bbb
row (Sbrc r b) = register_and_bit 0xFC00 r b  -- 1111 110r rrrr 0bbb
row (Sbrs r b) = register_and_bit 0xFE00 r b  -- 1111 111r rrrr 0bbb
