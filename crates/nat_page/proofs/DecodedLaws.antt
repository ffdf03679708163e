-- What flash has decoded of the image's words.
use Rattle.std.proofs.Common.{◌≡◌, ℕ, ◌+◌, ◌<◌, List, length, take, Option, Some, None, unwrap_or, arith, refl, sym, ap, ap₂, ◌∙◌}
use Rattle.std.proofs.lemmas.List.{get_or-take, get_or_default}
use Rattle.avr_isa.specs.declared.form.Form.{Form}
use Rattle.avr_isa.specs.declared.form.Form.TheVariants.{Nop}
use Rattle.avr_isa.specs.Image.{word}
use Rattle.avr_isa.specs.UndefinedPairs.{is_undefined}
use Rattle.avr_decode.specs.Decoding.{the_form, is_long, if_defined, defined_form, one_word_form, form_0000, move_or_product_form}
use Rattle.flash_words.specs.Pages.{word_count, word_at}
use Rattle.flash_words.specs.Layouts.{image_of}
use Rattle.flash_words.specs.declared.layout.Layout.{Layout}
use Rattle.flash_model.specs.Code.{behind}

-- a word of 0 is NOP
nop_word : (second : ℕ) → the_form 0 second ≡ Some Nop
unfolding the_form is_long if_defined defined_form one_word_form form_0000 move_or_product_form is_undefined
nop_word second = refl

-- an instruction that words are decoded to is theirs, but for a NOP whose word isn't 0
its_own : (form : Option Form) (instr : Form) → unwrap_or form Nop ≡ instr → (instr ≡ Nop → form ≡ Some Nop) → form ≡ Some instr
its_own None instr is nop = nop (sym is) ∙ ap Some is
its_own (Some f) instr is nop = ap Some is

-- a word of the image is flash's word at the same address
pub same_word : (n a : ℕ) (words : List ℕ) → a < n → a < length words → word (take n words) a ≡ word_at words a
same_word n a words below inside = get_or-take n words a 0xFFFF below ∙ get_or_default words a 0xFFFF 0 inside

-- the words of the image are flash's
pub decoded_in_image : (layout : Layout) (words : List ℕ) (a : ℕ) (instr : Form) → length words ≡ word_count → a + 1 < layout.image_words → a + 1 < word_count
    → instr ≡ unwrap_or (the_form (word_at words a) (word_at words (behind a))) Nop → (instr ≡ Nop → word_at words a ≡ 0)
    → the_form (word (image_of layout words) a) (word (image_of layout words) (a + 1)) ≡ Some instr
decoded_in_image layout words a instr size inside small is nop =
    let first : word (image_of layout words) a ≡ word_at words a = same_word layout.image_words a words (omega arith) (omega arith) in
    let next : behind a ≡ a + 1 = omega arith in
    let second : word (image_of layout words) (a + 1) ≡ word_at words (behind a) = same_word layout.image_words (a + 1) words (omega arith) (omega arith) ∙ ap (word_at words) (sym next) in
    ap₂ the_form first second ∙ its_own _ instr (sym is) (λ same. ap (λ w. the_form w (word_at words (behind a))) (nop same) ∙ nop_word (word_at words (behind a)))
