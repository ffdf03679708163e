-- What flash has decoded of an instruction whose words lie in the image.
use Rattle.std.proofs.Common.{◌≡◌, ℕ, ◌+◌, ◌%◌, ◌<◌, Bool, true, false, cond, List, length, Some, unwrap_or, arith, refl, sym, ap, ap₂, ◌∙◌, inl, inr}
use Rattle.avr_isa.specs.declared.form.Form.{Form}
use Rattle.avr_isa.specs.declared.form.Form.TheVariants.{Nop}
use Rattle.avr_isa.specs.Image.{word}
use Rattle.avr_decode.specs.Decoding.{the_form, if_defined, is_long, one_word_form, size_by_first_word, two_word_form}
use Rattle.avr_decode.specs.Program.{instruction_at}
use Rattle.flash_model.specs.Code.{behind, decoded_at}
use Rattle.flash_words.specs.declared.layout.Layout.{Layout}
use Rattle.flash_words.specs.Layouts.{image_of}
use Rattle.flash_words.specs.Pages.{word_at}
use Rattle.nat_page.proofs.DecodedLaws.{same_word}
use Rattle.tk_watch.specs.Touching.{LiesInImage}

-- one word alone says what it means
one_word : (long : Bool) (first a b : ℕ) → is_long first ≡ long → size_by_first_word first ≡ 1 → the_form first a ≡ the_form first b
unfolding the_form
one_word true first a b is size = absurd (omega (arith, sym (ap (λ l. cond l 2 1) is) ∙ size))
one_word false first a b is size =
    ap (λ l. if_defined (cond l (Some (two_word_form first a)) (one_word_form first))) is
    ∙ sym (ap (λ l. if_defined (cond l (Some (two_word_form first b)) (one_word_form first))) is)

pub known_form : (layout : Layout) (words : List ℕ) (a : ℕ) (form : Form) → a < 65536 → length words ≡ 65536 → LiesInImage layout words a → instruction_at (image_of layout words) a ≡ Some form
    → (decoded_at words a).instr ≡ form
known_form layout words a form small size (inl both) is =
    let first = same_word layout.image_words a words (omega (arith, both)) (omega (arith, small, size)) in
    let second = same_word layout.image_words ((a + 1) % 65536) words (omega (arith, both)) (omega (arith, size)) in
    ap (λ f. unwrap_or f Nop) (sym (ap₂ the_form first second) ∙ is)
known_form layout words a form small size (inr (last, short)) is =
    let image = image_of layout words in
    let other = word image ((a + 1) % 65536) in
    let first = same_word layout.image_words a words (omega (arith, last)) (omega (arith, small, size)) in
    ap (λ f. unwrap_or f Nop) (one_word (is_long (word_at words a)) (word_at words a) (word_at words (behind a)) other refl short ∙ sym (ap (λ w. the_form w other) first) ∙ is)
