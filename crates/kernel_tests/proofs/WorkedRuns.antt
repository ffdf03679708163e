-- Worked values: which instructions end a run, what closes one, and a page with a call in its midst.
use Rattle.std.proofs.Common.{◌≡◌, ℕ, ◌<◌, ◌/◌, Bool, true, false, List, [], ◌∷◌, length, map, arith, refl, below_none, below_more}
use Rattle.avr_decode.specs.Decoding.{the_form, if_defined, defined_form, one_word_form, two_word_form, form_0000, form_1001, form_1111, move_or_product_form, transfer_form, store_form}
use Rattle.avr_decode.specs.Decoding.{register_or_pair_form, one_register_form, flag_or_plain_form, plain_form, register_bit_form, is_long}
use Rattle.avr_isa.specs.Encoding.{first_word}
use Rattle.avr_isa.specs.UndefinedPairs.{is_undefined}
use Rattle.avr_isa.specs.Addresses.{relative}
use Rattle.flash_words.specs.Pages.{page_words}
use Rattle.nat_template.specs.Shapes.{shape_of_form}
use Rattle.nat_template.specs.Stubs.{stub, words_of}
use Rattle.nat_template.specs.Templates.{template_by}
use Rattle.page_draft.specs.Runs.{address, ends_at, closing_at, IsRun}
use Rattle.page_draft.specs.CodePages.{map_words, code, page_pieces}

-- this word at address 4, with NOP around it
abbrev at_four : ℕ → List ℕ
at_four word = 0 ∷ 0 ∷ 0 ∷ 0 ∷ word ∷ 0 ∷ []

-- NOP, PUSH r16, BRNE, SBRC r0, RCALL, CALL, ICALL
abbrev returning : List ℕ
returning = 0x0000 ∷ 0x930F ∷ 0xF409 ∷ 0xFC00 ∷ 0xD001 ∷ 0x940E ∷ 0x9509 ∷ []

-- RJMP, JMP, RJMP to itself, RET, RETI, IJMP, SLEEP, and no instruction
abbrev leaving : List ℕ
leaving = 0xC001 ∷ 0x940C ∷ 0xCFFF ∷ 0x9508 ∷ 0x9518 ∷ 0x9409 ∷ 0x9588 ∷ 0xFFFF ∷ []

-- whether each ends a run
abbrev ends : List ℕ → List Bool
ends words = map (λ word. ends_at (at_four word) 4) words

runs_go_on : ends returning ≡ false ∷ false ∷ false ∷ false ∷ false ∷ false ∷ false ∷ []
unfolding the_form if_defined defined_form one_word_form two_word_form form_0000 form_1001 form_1111 move_or_product_form transfer_form store_form register_or_pair_form one_register_form flag_or_plain_form plain_form register_bit_form is_long is_undefined relative shape_of_form first_word
runs_go_on = refl

runs_end : ends leaving ≡ true ∷ true ∷ true ∷ true ∷ true ∷ true ∷ true ∷ true ∷ []
unfolding the_form if_defined defined_form one_word_form two_word_form form_0000 form_1001 form_1111 move_or_product_form transfer_form store_form register_or_pair_form one_register_form flag_or_plain_form plain_form register_bit_form is_long is_undefined relative shape_of_form first_word
runs_end = refl

-- how many words close a run behind each: a plain stub behind what goes on by itself
abbrev closing : List ℕ → List ℕ
closing words = map (λ word. length (words_of (closing_at (at_four word) 4))) words

closed : closing returning ≡ 3 ∷ 3 ∷ 3 ∷ 3 ∷ 0 ∷ 0 ∷ 0 ∷ []
unfolding the_form if_defined defined_form one_word_form two_word_form form_0000 form_1001 form_1111 move_or_product_form transfer_form store_form register_or_pair_form one_register_form flag_or_plain_form plain_form register_bit_form is_long is_undefined relative shape_of_form first_word stub
closed = refl

unclosed : closing leaving ≡ 0 ∷ 0 ∷ 0 ∷ 0 ∷ 0 ∷ 0 ∷ 0 ∷ 0 ∷ []
unfolding the_form if_defined defined_form one_word_form two_word_form form_0000 form_1001 form_1111 move_or_product_form transfer_form store_form register_or_pair_form one_register_form flag_or_plain_form plain_form register_bit_form is_long is_undefined relative shape_of_form first_word stub
unclosed = refl

-- LDI r16, 3; RCALL 3; RJMP to itself; RET
abbrev called : List ℕ
called = 0xE003 ∷ 0xD001 ∷ 0xCFFF ∷ 0x9508 ∷ []

below_three : (P : ℕ → Type 0) → P 0 → P 1 → P 2 → (i : ℕ) → i < 3 → P i
below_three P p0 p1 p2 = below_more P 2 (below_more P 1 (below_more P 0 (below_none P) p0) p1) p2

-- the call is in the midst of the run, which its last instruction ends
run_with_a_call : IsRun called 0 2
unfolding the_form if_defined defined_form one_word_form is_long is_undefined relative shape_of_form
run_with_a_call = record {
  inside = λ i most. below_three (λ i. address called 0 i < length called) (omega arith) (omega arith) (omega arith) i (omega arith);
  paged = λ i most. below_three (λ i. address called 0 i / page_words ≡ 0 / page_words) refl refl refl i (omega arith);
  goes_on = λ i below. below_more (λ i. ends_at called (address called 0 i) ≡ false) 1
      (below_more (λ i. ends_at called (address called 0 i) ≡ false) 0 (below_none (λ i. ends_at called (address called 0 i) ≡ false)) refl) refl i below;
}

-- the page: the original page and the number of entries, the map, LDI, the call with a stub to 3, and the halt
page_with_a_call : words_of (page_pieces called 0 2) ≡
    0x0000 ∷ 0x0003 ∷ 0x0005 ∷ 0x0106 ∷ 0x020C
    ∷ 0xE003 ∷ 0x940E ∷ 0xF006 ∷ 0x0001 ∷ 0x940E ∷ 0xF000 ∷ 0x0003 ∷ 0x940E ∷ 0xF00C ∷ 0x0002 ∷ []
unfolding the_form if_defined defined_form one_word_form is_long is_undefined relative shape_of_form template_by stub first_word map_words code page_pieces
page_with_a_call = refl
