-- Worked values: inline templates instruction by instruction, and in words.
use Rattle.std.specs.Prelude.{◌≡◌, refl, ℕ, pos, List, [], ◌∷◌, ◌++◌}
use Rattle.avr_isa.specs.declared.form.Form.{Form}
use Rattle.avr_isa.specs.declared.form.Form.TheVariants.{Movw, Imm, Word, LoadOff, StoreOff, Lds, Sts, InIo, OutIo, Brbs, Brbc, Rjmp, Call}
use Rattle.avr_isa.specs.declared.operation.ImmOp.TheVariants.{Cpi}
use Rattle.avr_isa.specs.declared.operation.WordOp.TheVariants.{Adiw, Sbiw}
use Rattle.avr_isa.specs.declared.operation.Base.TheVariants.{Z}
use Rattle.avr_isa.specs.Encoding.{first_word, second_word}
use Rattle.nat_template.specs.Words.{words_of_forms}
use Rattle.nat_template.specs.Inline.{push_forms, pop_forms, load_forms, store_forms}

-- what all begin with, and what all end with
abbrev begin : List Form
begin = Sts 0x0105 30 ∷ Sts 0x0106 31 ∷ InIo 30 0x3F ∷ Sts 0x0102 30 ∷ []

abbrev end : List Form
end =
    Lds 30 0x0102 ∷ OutIo 0x3F 30 ∷ Lds 30 0x0105 ∷ Lds 31 0x0106 ∷ Rjmp (pos 10)
    ∷ Lds 30 0x0102 ∷ OutIo 0x3F 30 ∷ Lds 30 0x0105 ∷ Lds 31 0x0106 ∷ Call 0xF004
    ∷ []

-- PUSH of any register
push_written : (r : ℕ) → push_forms r ≡ begin
    ++ Lds 30 0x0103 ∷ Lds 31 0x0104
    ∷ Imm Cpi 31 0x0D ∷ Brbs 0 (pos 16) ∷ Imm Cpi 31 0x11 ∷ Brbc 0 (pos 14)
    ∷ StoreOff Z 0 r ∷ Word Sbiw 30 1 ∷ Sts 0x0103 30 ∷ Sts 0x0104 31
    ∷ end
unfolding push_forms second_word
push_written r = refl

-- POP to any register
pop_written : (d : ℕ) → pop_forms d ≡ begin
    ++ Lds 30 0x0103 ∷ Lds 31 0x0104 ∷ Word Adiw 30 1
    ∷ Imm Cpi 31 0x0D ∷ Brbs 0 (pos 15) ∷ Imm Cpi 31 0x11 ∷ Brbc 0 (pos 13)
    ∷ LoadOff d Z 0 ∷ Sts 0x0103 30 ∷ Sts 0x0104 31
    ∷ end
unfolding pop_forms second_word
pop_written d = refl

-- LDD with Y and any displacement
load_written : (d q : ℕ) → load_forms d q ≡ begin
    ++ Movw 30 28 ∷ Word Adiw 30 q
    ∷ Imm Cpi 31 0x0D ∷ Brbs 0 (pos 11) ∷ Imm Cpi 31 0x11 ∷ Brbc 0 (pos 9)
    ∷ LoadOff d Z 0
    ∷ end
unfolding load_forms second_word
load_written d q = refl

-- STD with Y and any displacement
store_written : (q r : ℕ) → store_forms q r ≡ begin
    ++ Movw 30 28 ∷ Word Adiw 30 q
    ∷ Imm Cpi 31 0x0D ∷ Brbs 0 (pos 11) ∷ Imm Cpi 31 0x11 ∷ Brbc 0 (pos 9)
    ∷ StoreOff Z 0 r
    ∷ end
unfolding store_forms second_word
store_written q r = refl

-- both in words
abbrev begin_words : List ℕ
begin_words = 0x93E0 ∷ 0x0105 ∷ 0x93F0 ∷ 0x0106 ∷ 0xB7EF ∷ 0x93E0 ∷ 0x0102 ∷ []

abbrev end_words : List ℕ
end_words =
    0x91E0 ∷ 0x0102 ∷ 0xBFEF ∷ 0x91E0 ∷ 0x0105 ∷ 0x91F0 ∷ 0x0106 ∷ 0xC00A
    ∷ 0x91E0 ∷ 0x0102 ∷ 0xBFEF ∷ 0x91E0 ∷ 0x0105 ∷ 0x91F0 ∷ 0x0106 ∷ 0x940E ∷ 0xF004
    ∷ []

-- PUSH r16, as docs/LOADER.md has its words: 0x8300 is ST Z, r16
abbrev pub push_words : List ℕ
push_words = begin_words
    ++ 0x91E0 ∷ 0x0103 ∷ 0x91F0 ∷ 0x0104
    ∷ 0x30FD ∷ 0xF080 ∷ 0x31F1 ∷ 0xF470
    ∷ 0x8300 ∷ 0x9731 ∷ 0x93E0 ∷ 0x0103 ∷ 0x93F0 ∷ 0x0104
    ∷ end_words

push_worked : words_of_forms (push_forms 16) ≡ push_words
unfolding push_forms first_word second_word
push_worked = refl

-- STD Y+63, r25: 0x96FF is ADIW r30, 63, and 0x8390 is ST Z, r25
store_worked : words_of_forms (store_forms 63 25) ≡ begin_words
    ++ 0x01FE ∷ 0x96FF
    ∷ 0x30FD ∷ 0xF058 ∷ 0x31F1 ∷ 0xF448
    ∷ 0x8390
    ∷ end_words
unfolding store_forms first_word second_word
store_worked = refl
