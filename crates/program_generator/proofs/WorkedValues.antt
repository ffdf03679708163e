-- Words of worked programs, and the instructions that the fixed words are.
use Rattle.std.proofs.Common.{◌≡◌, pos, negsuc, [], ◌∷◌, refl}
use Rattle.avr_isa.specs.declared.form.Form.TheVariants.{Brbs, Imm, Jmp, One, OutIo, Rjmp}
use Rattle.avr_isa.specs.declared.operation.ImmOp.TheVariants.{Ldi}
use Rattle.avr_isa.specs.declared.operation.OneOp.TheVariants.{Dec}
use Rattle.avr_isa.specs.Encoding.{first_word}
use Rattle.base.specs.Sequences.{next_number}
use Rattle.program_generator.specs.Generated.{ending, words_from}

-- the first number behind seed 7, and the one behind the largest seed
number_of_seed_7 : next_number 7 ≡ 1025555898
number_of_seed_7 = refl

number_of_largest_seed : next_number 4294967295 ≡ 1012239698
number_of_largest_seed = refl

-- ADD r21,r16; INC r17; SUB r20,r20; INC r21
words_of_seed_7 : words_from 7 4 ≡ 0x0F50 ∷ 0x9513 ∷ 0x1B44 ∷ 0x9553 ∷ []
unfolding words_from first_word
words_of_seed_7 = refl

-- ADD r20,r22; EOR r23,r16
words_of_seed_0 : words_from 0 2 ≡ 0x0F46 ∷ 0x2770 ∷ []
unfolding words_from first_word
words_of_seed_0 = refl

-- LDI r24,200
beginning_is : first_word (Imm Ldi 24 200) ≡ 0xEC88
unfolding first_word
beginning_is = refl

-- PORTA is the I/O register 0x1B, and the flag of BREQ is 1.
ending_is : first_word (One Dec 24) ∷ first_word (Brbs 1 (pos 2)) ∷ first_word (Jmp 1) ∷ 1 ∷ first_word (OutIo 0x1B 16) ∷ first_word (OutIo 0x1B 17)
    ∷ first_word (OutIo 0x1B 18) ∷ first_word (OutIo 0x1B 19) ∷ first_word (OutIo 0x1B 20) ∷ first_word (OutIo 0x1B 21) ∷ first_word (OutIo 0x1B 22)
    ∷ first_word (OutIo 0x1B 23) ∷ first_word (Rjmp (negsuc 0)) ∷ [] ≡ ending
unfolding first_word
ending_is = refl
