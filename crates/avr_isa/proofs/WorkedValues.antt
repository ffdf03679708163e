-- The definitions tried on worked values of the manual and of small programs.
use Rattle.std.proofs.Common.{◌≡◌, ℕ, negsuc, pos, true, false, List, [], ◌∷◌, Some, refl}
use Rattle.avr_isa.specs.declared.form.Form.TheVariants.{Movw, Imm, Two, Word, Sts, LoadAt, LoadOff, InIo, OutIo, Brbs, Rjmp, Bset, One}
use Rattle.avr_isa.specs.declared.operation.ImmOp.TheVariants.{Ldi}
use Rattle.avr_isa.specs.declared.operation.TwoOp.TheVariants.{Mul}
use Rattle.avr_isa.specs.declared.operation.WordOp.TheVariants.{Adiw}
use Rattle.avr_isa.specs.declared.operation.OneOp.TheVariants.{Dec}
use Rattle.avr_isa.specs.declared.operation.Base.TheVariants.{Y}
use Rattle.avr_isa.specs.declared.operation.Ptr.TheVariants.{X, XInc}
use Rattle.avr_isa.specs.Instruction.{fields_in_range, is_valid}
use Rattle.avr_isa.specs.UndefinedPairs.{is_undefined}
use Rattle.avr_isa.specs.Encoding.{first_word, second_word}
use Rattle.avr_isa.specs.IoTable.{can_read, can_write, io_address}
use Rattle.avr_isa.specs.Image.{word, byte}
use Rattle.avr_isa.specs.Crossing.{is_crossing}

-- LDI r16,15; LDI r24,200; OUT PORTA,r16; RJMP to itself; DEC r24; BREQ 8; IN r24,SREG; SEI
words : List ℕ
words = first_word (Imm Ldi 16 15) ∷ first_word (Imm Ldi 24 200) ∷ first_word (OutIo 0x1B 16) ∷ first_word (Rjmp (negsuc 0)) ∷ first_word (One Dec 24) ∷ first_word (Brbs 1 (pos 8))
    ∷ first_word (InIo 24 0x3F) ∷ first_word (Bset 7) ∷ []

words-are : words ≡ 0xE00F ∷ 0xEC88 ∷ 0xBB0B ∷ 0xCFFF ∷ 0x958A ∷ 0xF041 ∷ 0xB78F ∷ 0x9478 ∷ []
unfolding words first_word
words-are = refl

-- MOVW r24,r30; ADIW r30,1; LDD r5,Y+63; MUL r16,r17; LD r24,X
more_words : List ℕ
more_words = first_word (Movw 24 30) ∷ first_word (Word Adiw 30 1) ∷ first_word (LoadOff 5 Y 63) ∷ first_word (Two Mul 16 17) ∷ first_word (LoadAt 24 X) ∷ []

more_words-are : more_words ≡ 0x01CF ∷ 0x9631 ∷ 0xAC5F ∷ 0x9F01 ∷ 0x918C ∷ []
unfolding more_words first_word
more_words-are = refl

-- STS 0x0101,r24
sts-words : (first_word (Sts 0x0101 24) ≡ 0x9380) × (second_word (Sts 0x0101 24) ≡ Some 0x0101)
unfolding first_word second_word
sts-words = (refl, refl)

-- LD r26,X+ is undefined, LD r28,X+ is not
pairs : (is_valid (LoadAt 26 XInc) ≡ false) × (is_valid (LoadAt 28 XInc) ≡ true)
unfolding is_valid fields_in_range is_undefined
pairs = (refl, refl)

-- PINA (field 0x19) is only read, PORTA is read and written, 0x5C is nothing
ports : (can_read (io_address 0x19) ≡ true) × (can_write (io_address 0x19) ≡ false) × (can_write (io_address 0x1B) ≡ true) × (can_read 0x5C ≡ false)
unfolding can_read can_write
ports = (refl, refl, refl, refl)

-- the words and bytes of the image 0xE00F, 0xBB0B
image : List ℕ
image = 0xE00F ∷ 0xBB0B ∷ []

image-words : (word image 1 ≡ 0xBB0B) × (word image 2 ≡ 0xFFFF) × (byte image 0 ≡ 0x0F) × (byte image 1 ≡ 0xE0) × (byte image 5 ≡ 0xFF)
unfolding image
image-words = (refl, refl, refl, refl, refl)

-- a step to itself, one back, one on, and one on into the next page
crossings : (is_crossing 5 5 ≡ true) × (is_crossing 5 4 ≡ true) × (is_crossing 5 6 ≡ false) × (is_crossing 127 128 ≡ true)
crossings = (refl, refl, refl, refl)
