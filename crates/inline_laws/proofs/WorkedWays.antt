-- Worked values: the words of a PUSH read as its instructions, the guard at the edges of the window, and bytes after a push.
use Rattle.std.specs.Prelude.{◌≡◌, refl, ℕ, Bool, true, false, ◌&&◌, not, List}
use Rattle.avr_isa.specs.Encoding.{second_word}
use Rattle.avr_flags.specs.Status.{has_bit, carry, with_result_flags}
use Rattle.avr_flags.specs.Sums.{difference_of}
use Rattle.avr_isa.specs.Instruction.{is_valid, fields_in_range}
use Rattle.avr_isa.specs.UndefinedPairs.{is_undefined}
use Rattle.avr_isa.specs.Encoding.{first_word}
use Rattle.avr_decode.specs.Decoding.{the_form, is_long, two_word_form, one_word_form, product_form, move_or_product_form, form_0000, form_0001, form_0010, displaced_form, load_form, store_form}
use Rattle.avr_decode.specs.Decoding.{plain_form, flag_or_plain_form, one_register_form, register_or_pair_form, io_bit_form, transfer_form, form_1001, io_form, register_bit_form, form_1111}
use Rattle.avr_decode.specs.Decoding.{defined_form, if_defined}
use Rattle.sram_layout.specs.Bytes.{byte_at, with_byte}
use Rattle.base.specs.Lists.{many}
use Rattle.nat_template.specs.Inline.{push_forms}
use Rattle.nat_template.proofs.WorkedTemplates.{push_words}
use Rattle.inline_laws.specs.Rows.{Row}
use Rattle.inline_laws.specs.InlineWays.{saved, with_pushed}
use Rattle.inline_laws.proofs.Blocks.{compared}

-- PUSH r16
push_read : Row push_words 0 (push_forms 16)
unfolding push_forms second_word the_form is_long two_word_form one_word_form product_form move_or_product_form form_0000 form_0001 form_0010
    displaced_form load_form store_form plain_form flag_or_plain_form one_register_form register_or_pair_form io_bit_form transfer_form form_1001
    io_form register_bit_form form_1111 defined_form if_defined first_word is_valid fields_in_range is_undefined
push_read = (
  refl,
  (
    refl,
    (
      refl,
      (
        refl,
        (
          refl,
          (
            refl,
            (
              refl,
              (
                refl,
                (refl, (refl, (refl, (refl, (refl, (refl, (refl, (refl, (refl, (refl, (refl, (refl, (refl, (refl, (refl, (refl, tt)))))))))))))))),
              ),
            ),
          ),
        ),
      ),
    ),
  ),
)

-- BRLO is taken below 0x0D, and BRSH from 0x11 on, whatever SREG was
abbrev is_inside : (s high : ℕ) → Bool
is_inside s high = not (has_bit (compared s high 0x0D) carry) && has_bit (compared (compared s high 0x0D) high 0x11) carry

edges : (is_inside 0 0x0C ≡ false) × (is_inside 0 0x0D ≡ true) × (is_inside 0 0x10 ≡ true) × (is_inside 0 0x11 ≡ false) × (is_inside 0xFF 0x0C ≡ false) × (is_inside 0xFF 0x0D ≡ true)
    × (is_inside 0xFF 0x10 ≡ true) × (is_inside 0xFF 0x11 ≡ false)
unfolding difference_of with_result_flags
edges = (refl, refl, refl, refl, refl, refl, refl, refl)

-- 7 pushed at 0x0D00, with Z 0x1234 and SREG 0x80 in their cells: the pointer is 0x0CFF then
abbrev pushed : List ℕ
pushed = with_pushed (saved (many 4096 0) 0x34 0x12 0x80) 0x0D00 7

pushed_bytes : (byte_at pushed 0x0D00 ≡ 7) × (byte_at pushed 0x0103 ≡ 0xFF) × (byte_at pushed 0x0104 ≡ 0x0C) × (byte_at pushed 0x0105 ≡ 0x34) × (byte_at pushed 0x0106 ≡ 0x12)
    × (byte_at pushed 0x0102 ≡ 0x80) × (byte_at pushed 0x0CFF ≡ 0)
unfolding many byte_at with_byte
pushed_bytes = (refl, refl, refl, refl, refl, refl, refl)
