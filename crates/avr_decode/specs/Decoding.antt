-- What the words mean, as a function that computes. The meaning itself is `IsDecoded` of avr_isa, which
-- goes from the instructions to their words; decode_laws shows that the two are the same.
use Rattle.std.specs.Prelude.{ℕ, ℤ, pos, negsuc, ◌+◌, ◌-◌, ◌*◌, ◌/◌, ◌%◌, Bool, true, false, ◌&&◌, ◌||◌, ◌==◌, nat_lt, if◌then◌else◌, Option, Some, None}
use Rattle.avr_isa.specs.declared.form.Form.{Form}
use Rattle.avr_isa.specs.declared.form.Form.TheVariants.{Nop, Movw, Muls, Product, Two, Cpse, Imm, Word, One, LoadOff, StoreOff, LoadAt, StoreAt, Lds, Sts, Pop, Push, Lpm0, Elpm0, Lpm, Elpm, InIo}
use Rattle.avr_isa.specs.declared.form.Form.TheVariants.{OutIo, Cbi, Sbic, Sbi, Sbis, Bld, Bst, Sbrc, Sbrs, Bset, Bclr, Brbs, Brbc, Rjmp, Rcall, Jmp, Call, Ijmp, Icall, Ret, Reti, Sleep, Break, Wdr}
use Rattle.avr_isa.specs.declared.form.Form.TheVariants.{Spm}
use Rattle.avr_isa.specs.declared.operation.ProductOp.TheVariants.{Mulsu, Fmul, Fmuls, Fmulsu}
use Rattle.avr_isa.specs.declared.operation.TwoOp.{TwoOp}
use Rattle.avr_isa.specs.declared.operation.TwoOp.TheVariants.{Cpc, Sbc, Add, Cp, Sub, Adc, And, Eor, Or, Mov, Mul}
use Rattle.avr_isa.specs.declared.operation.ImmOp.{ImmOp}
use Rattle.avr_isa.specs.declared.operation.ImmOp.TheVariants.{Cpi, Sbci, Subi, Ori, Andi, Ldi}
use Rattle.avr_isa.specs.declared.operation.WordOp.TheVariants.{Adiw, Sbiw}
use Rattle.avr_isa.specs.declared.operation.OneOp.TheVariants.{Com, Neg, Swap, Inc, Asr, Lsr, Ror, Dec}
use Rattle.avr_isa.specs.declared.operation.Base.TheVariants.{Y, Z}
use Rattle.avr_isa.specs.declared.operation.Ptr.TheVariants.{ZInc, ZDec, YInc, YDec, X, XInc, XDec}
use Rattle.avr_isa.specs.UndefinedPairs.{is_undefined}

-- The operands of a word. -------------------------------------------------------------------------

-- ddddd at bits 8 to 4
abbrev pub destination_of : ℕ → ℕ
destination_of w = w / 16 % 32

-- r at bit 9 and rrrr at bits 3 to 0
abbrev pub source_of : ℕ → ℕ
source_of w = 16 * (w / 512 % 2) + w % 16

-- dddd at bits 7 to 4, of r16 to r31
abbrev pub high_destination_of : ℕ → ℕ
high_destination_of w = 16 + w / 16 % 16

-- KKKK at bits 11 to 8 and at bits 3 to 0
abbrev pub constant_of : ℕ → ℕ
constant_of w = 16 * (w / 256 % 16) + w % 16

-- ddd at bits 6 to 4, of r16 to r23
abbrev pub mid_destination_of : ℕ → ℕ
mid_destination_of w = 16 + w / 16 % 8

-- rrr at bits 2 to 0, of r16 to r23
abbrev pub mid_source_of : ℕ → ℕ
mid_source_of w = 16 + w % 8

-- q at bit 13, qq at bits 11 and 10, qqq at bits 2 to 0
abbrev pub displacement_of : ℕ → ℕ
displacement_of w = 32 * (w / 8192 % 2) + (8 * (w / 1024 % 4) + w % 8)

-- dd at bits 5 and 4, of the pairs from r24
abbrev pub pair_of : ℕ → ℕ
pair_of w = 24 + 2 * (w / 16 % 4)

-- KK at bits 7 and 6 and KKKK at bits 3 to 0
abbrev pub six_bits_of : ℕ → ℕ
six_bits_of w = 16 * (w / 64 % 4) + w % 16

-- AA at bits 10 and 9 and AAAA at bits 3 to 0
abbrev pub io_of : ℕ → ℕ
io_of w = 16 * (w / 512 % 4) + w % 16

-- AAAAA at bits 7 to 3
abbrev pub low_io_of : ℕ → ℕ
low_io_of w = w / 8 % 32

-- bbb at bits 2 to 0
abbrev pub bit_of : ℕ → ℕ
bit_of w = w % 8

-- sss at bits 6 to 4
abbrev pub flag_of : ℕ → ℕ
flag_of w = w / 16 % 8

-- the number that `k` stands for in a field of 2 * half numbers
abbrev pub signed_of : ℕ → ℕ → ℤ
signed_of half k = if nat_lt k half then pos k else negsuc (2 * half - 1 - k)

-- kkkkkkk at bits 9 to 3
abbrev pub branch_of : ℕ → ℤ
branch_of w = signed_of 64 (w / 8 % 128)

-- k at bits 11 to 0
abbrev pub jump_of : ℕ → ℤ
jump_of w = signed_of 2048 (w % 4096)

-- The instructions of one word, by the leading bits. ----------------------------------------------

-- an operation on two registers
abbrev pub two_of : TwoOp → ℕ → Form
two_of op w = Two op (destination_of w) (source_of w)

-- an operation on a register and a constant
abbrev pub immediate_of : ImmOp → ℕ → Form
immediate_of op w = Imm op (high_destination_of w) (constant_of w)

-- 0000 0011, by bits 7 and 3
unfoldable pub product_form : ℕ → Option Form
product_form w =
    if (w / 128 % 2 == 0) && (w / 8 % 2 == 0) then Some (Product Mulsu (mid_destination_of w) (mid_source_of w))
    else if w / 128 % 2 == 0 then Some (Product Fmul (mid_destination_of w) (mid_source_of w))
    else if w / 8 % 2 == 0 then Some (Product Fmuls (mid_destination_of w) (mid_source_of w))
    else Some (Product Fmulsu (mid_destination_of w) (mid_source_of w))

-- 0000 00, by bits 9 and 8
unfoldable pub move_or_product_form : ℕ → Option Form
move_or_product_form w =
    if w / 256 % 4 == 1 then Some (Movw (2 * (w / 16 % 16)) (2 * (w % 16)))
    else if w / 256 % 4 == 2 then Some (Muls (high_destination_of w) (16 + w % 16))
    else if w / 256 % 4 == 3 then product_form w
    else if w == 0 then Some Nop
    else None

-- 0000, by bits 11 and 10
unfoldable pub form_0000 : ℕ → Option Form
form_0000 w =
    if w / 1024 % 4 == 0 then move_or_product_form w
    else if w / 1024 % 4 == 1 then Some (two_of Cpc w)
    else if w / 1024 % 4 == 2 then Some (two_of Sbc w)
    else Some (two_of Add w)

-- 0001, by bits 11 and 10
unfoldable pub form_0001 : ℕ → Option Form
form_0001 w =
    if w / 1024 % 4 == 0 then Some (Cpse (destination_of w) (source_of w))
    else if w / 1024 % 4 == 1 then Some (two_of Cp w)
    else if w / 1024 % 4 == 2 then Some (two_of Sub w)
    else Some (two_of Adc w)

-- 0010, by bits 11 and 10
unfoldable pub form_0010 : ℕ → Option Form
form_0010 w =
    if w / 1024 % 4 == 0 then Some (two_of And w)
    else if w / 1024 % 4 == 1 then Some (two_of Eor w)
    else if w / 1024 % 4 == 2 then Some (two_of Or w)
    else Some (two_of Mov w)

-- 10q0, by bits 9 and 3
unfoldable pub displaced_form : ℕ → Option Form
displaced_form w =
    if (w / 512 % 2 == 0) && (w / 8 % 2 == 0) then Some (LoadOff (destination_of w) Z (displacement_of w))
    else if w / 512 % 2 == 0 then Some (LoadOff (destination_of w) Y (displacement_of w))
    else if w / 8 % 2 == 0 then Some (StoreOff Z (displacement_of w) (destination_of w))
    else Some (StoreOff Y (displacement_of w) (destination_of w))

-- 1001 000, by bits 3 to 0
unfoldable pub load_form : ℕ → Option Form
load_form w =
    if w % 16 == 1 then Some (LoadAt (destination_of w) ZInc)
    else if w % 16 == 2 then Some (LoadAt (destination_of w) ZDec)
    else if w % 16 == 4 then Some (Lpm (destination_of w) false)
    else if w % 16 == 5 then Some (Lpm (destination_of w) true)
    else if w % 16 == 6 then Some (Elpm (destination_of w) false)
    else if w % 16 == 7 then Some (Elpm (destination_of w) true)
    else if w % 16 == 9 then Some (LoadAt (destination_of w) YInc)
    else if w % 16 == 10 then Some (LoadAt (destination_of w) YDec)
    else if w % 16 == 12 then Some (LoadAt (destination_of w) X)
    else if w % 16 == 13 then Some (LoadAt (destination_of w) XInc)
    else if w % 16 == 14 then Some (LoadAt (destination_of w) XDec)
    else if w % 16 == 15 then Some (Pop (destination_of w))
    else None

-- 1001 001, by bits 3 to 0
unfoldable pub store_form : ℕ → Option Form
store_form w =
    if w % 16 == 1 then Some (StoreAt ZInc (destination_of w))
    else if w % 16 == 2 then Some (StoreAt ZDec (destination_of w))
    else if w % 16 == 9 then Some (StoreAt YInc (destination_of w))
    else if w % 16 == 10 then Some (StoreAt YDec (destination_of w))
    else if w % 16 == 12 then Some (StoreAt X (destination_of w))
    else if w % 16 == 13 then Some (StoreAt XInc (destination_of w))
    else if w % 16 == 14 then Some (StoreAt XDec (destination_of w))
    else if w % 16 == 15 then Some (Push (destination_of w))
    else None

-- 1001 0101 .... 1000, by bits 7 to 4
unfoldable pub plain_form : ℕ → Option Form
plain_form w =
    if w / 16 % 16 == 0 then Some Ret
    else if w / 16 % 16 == 1 then Some Reti
    else if w / 16 % 16 == 8 then Some Sleep
    else if w / 16 % 16 == 9 then Some Break
    else if w / 16 % 16 == 10 then Some Wdr
    else if w / 16 % 16 == 12 then Some Lpm0
    else if w / 16 % 16 == 13 then Some Elpm0
    else if w / 16 % 16 == 14 then Some Spm
    else None

-- 1001 010. .... 1000, by bits 8 and 7
unfoldable pub flag_or_plain_form : ℕ → Option Form
flag_or_plain_form w =
    if w / 128 % 4 == 0 then Some (Bset (flag_of w))
    else if w / 128 % 4 == 1 then Some (Bclr (flag_of w))
    else plain_form w

-- 1001 010, by bits 3 to 0
unfoldable pub one_register_form : ℕ → Option Form
one_register_form w =
    if w % 16 == 0 then Some (One Com (destination_of w))
    else if w % 16 == 1 then Some (One Neg (destination_of w))
    else if w % 16 == 2 then Some (One Swap (destination_of w))
    else if w % 16 == 3 then Some (One Inc (destination_of w))
    else if w % 16 == 5 then Some (One Asr (destination_of w))
    else if w % 16 == 6 then Some (One Lsr (destination_of w))
    else if w % 16 == 7 then Some (One Ror (destination_of w))
    else if w % 16 == 10 then Some (One Dec (destination_of w))
    else if w % 16 == 8 then flag_or_plain_form w
    else if w == 0x9409 then Some Ijmp
    else if w == 0x9509 then Some Icall
    else None

-- 1001 01, by bits 9 and 8
unfoldable pub register_or_pair_form : ℕ → Option Form
register_or_pair_form w =
    if w / 256 % 4 == 2 then Some (Word Adiw (pair_of w) (six_bits_of w))
    else if w / 256 % 4 == 3 then Some (Word Sbiw (pair_of w) (six_bits_of w))
    else one_register_form w

-- 1001 10, by bits 9 and 8
unfoldable pub io_bit_form : ℕ → Option Form
io_bit_form w =
    if w / 256 % 4 == 0 then Some (Cbi (low_io_of w) (bit_of w))
    else if w / 256 % 4 == 1 then Some (Sbic (low_io_of w) (bit_of w))
    else if w / 256 % 4 == 2 then Some (Sbi (low_io_of w) (bit_of w))
    else Some (Sbis (low_io_of w) (bit_of w))

-- 1001 00, by bit 9
unfoldable pub transfer_form : ℕ → Option Form
transfer_form w =
    if w / 512 % 2 == 0 then load_form w
    else store_form w

-- 1001, by bits 11 and 10
unfoldable pub form_1001 : ℕ → Option Form
form_1001 w =
    if w / 1024 % 4 == 0 then transfer_form w
    else if w / 1024 % 4 == 1 then register_or_pair_form w
    else if w / 1024 % 4 == 2 then io_bit_form w
    else Some (two_of Mul w)

-- 1011, by bit 11
unfoldable pub io_form : ℕ → Option Form
io_form w =
    if w / 2048 % 2 == 0 then Some (InIo (destination_of w) (io_of w))
    else Some (OutIo (io_of w) (destination_of w))

-- 1111 1, by bits 10, 9 and 3
unfoldable pub register_bit_form : ℕ → Option Form
register_bit_form w =
    if w / 8 % 2 == 1 then None
    else if w / 512 % 4 == 0 then Some (Bld (destination_of w) (bit_of w))
    else if w / 512 % 4 == 1 then Some (Bst (destination_of w) (bit_of w))
    else if w / 512 % 4 == 2 then Some (Sbrc (destination_of w) (bit_of w))
    else Some (Sbrs (destination_of w) (bit_of w))

-- 1111, by bits 11 and 10
unfoldable pub form_1111 : ℕ → Option Form
form_1111 w =
    if w / 1024 % 4 == 0 then Some (Brbs (bit_of w) (branch_of w))
    else if w / 1024 % 4 == 1 then Some (Brbc (bit_of w) (branch_of w))
    else register_bit_form w

-- every instruction of one word, by bits 15 to 12
unfoldable pub one_word_form : ℕ → Option Form
one_word_form w =
    if w / 4096 == 0 then form_0000 w
    else if w / 4096 == 1 then form_0001 w
    else if w / 4096 == 2 then form_0010 w
    else if w / 4096 == 3 then Some (immediate_of Cpi w)
    else if w / 4096 == 4 then Some (immediate_of Sbci w)
    else if w / 4096 == 5 then Some (immediate_of Subi w)
    else if w / 4096 == 6 then Some (immediate_of Ori w)
    else if w / 4096 == 7 then Some (immediate_of Andi w)
    else if w / 4096 == 8 then displaced_form w
    else if w / 4096 == 9 then form_1001 w
    else if w / 4096 == 10 then displaced_form w
    else if w / 4096 == 11 then io_form w
    else if w / 4096 == 12 then Some (Rjmp (jump_of w))
    else if w / 4096 == 13 then Some (Rcall (jump_of w))
    else if w / 4096 == 14 then Some (immediate_of Ldi w)
    else form_1111 w

-- The instructions of two words. ------------------------------------------------------------------

-- LDS and STS: 1001 00.. .... 0000
abbrev pub is_direct : ℕ → Bool
is_direct w = (w / 1024 == 36) && (w % 16 == 0)

-- JMP and CALL, with the high six bits of the target 0
abbrev pub is_absolute : ℕ → Bool
is_absolute w = (w == 0x940C) || (w == 0x940E)

-- the first word of LDS, STS, JMP or CALL
unfoldable pub is_long : ℕ → Bool
is_long w = is_direct w || is_absolute w

-- how many words the instruction has that begins with this word; what is no instruction has one
abbrev pub size_by_first_word : ℕ → ℕ
size_by_first_word w = if is_long w then 2 else 1

-- what such a word means with the word after it
unfoldable pub two_word_form : ℕ → ℕ → Form
two_word_form w a =
    if w == 0x940C then Jmp a
    else if w == 0x940E then Call a
    else if w / 512 % 2 == 0 then Lds (destination_of w) a
    else Sts a (destination_of w)

-- All. ---------------------------------------------------------------------------------------------

-- a form, unless it is one of the undefined pairs
unfoldable pub defined_form : Form → Option Form
defined_form f = if is_undefined f then None else Some f

-- the form, if there is one and it is no undefined pair
unfoldable pub if_defined : Option Form → Option Form
if_defined None = None
if_defined (Some f) = defined_form f

-- the instruction that two words begin with
unfoldable pub the_form : ℕ → ℕ → Option Form
the_form first second = if_defined (if is_long first then Some (two_word_form first second) else one_word_form first)
