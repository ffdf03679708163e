-- Images that have the same words in an original page, and behind it, have the same runs there.
use Rattle.std.proofs.Common.{◌≡◌, ℕ, zero, suc, ◌+◌, ◌*◌, ◌/◌, ◌%◌, ◌<◌, ◌≤◌, List, ◌∷◌, ◌++◌, length, map, arith, refl, sym, ap, ap₂, ◌∙◌, subst, inl, inr}
use Rattle.std.specs.Prelude.{if◌then◌else◌, []}
use Rattle.std.proofs.lemmas.Bool.{cases_lt, cases_eq}
use Rattle.std.proofs.lemmas.Grind.{same_number_lists}
use Rattle.avr_isa.specs.Image.{word}
use Rattle.avr_decode.specs.Decoding.{the_form, size_by_first_word}
use Rattle.flash_words.specs.Pages.{page_words}
use Rattle.flash_words.specs.Layouts.{most_image_words}
use Rattle.flash_words.specs.declared.layout.Layout.{Layout}
use Rattle.nat_template.specs.declared.piece.Piece.{Piece}
use Rattle.nat_template.specs.declared.piece.Piece.TheVariants.{Fixed}
use Rattle.nat_template.specs.Shapes.{shape_of}
use Rattle.nat_template.specs.Stubs.{stub}
use Rattle.nat_template.specs.Templates.{template_of}
use Rattle.page_draft.specs.Standing.{size}
use Rattle.page_draft.specs.Runs.{next_of, template_at, closing_at, ends_at, never_returns, is_closed, address, templates, IsRun}
use Rattle.page_draft.specs.CodePages.{map_words, code, page_pieces}
use Rattle.page_index.specs.Entries.{Lists}
use Rattle.page_draft.proofs.RunLaws.{length-map_words}
use Rattle.nat_page.specs.Making.{PageStops}
use Rattle.nat_page.proofs.HeldLaws.{map_words-item}

-- they have as many words, and the same ones in the original page of t and behind it
pub record AreAlike (image other : List ℕ) (t : ℕ) : Type 0 where
  pub size : length image ≡ length other
  pub words : (a : ℕ) → t / page_words ≡ a / page_words → word image a ≡ word other a
  pub seconds : (a : ℕ) → t / page_words ≡ a / page_words → word image (a + 1) ≡ word other (a + 1)

-- One instruction. --------------------------------------------------------------------------------

-- its second word doesn't wrap
second-alike : (image other : List ℕ) (t a : ℕ) → t < most_image_words → AreAlike image other t → t / page_words ≡ a / page_words → word image ((a + 1) % 65536) ≡ word other ((a + 1) % 65536)
second-alike image other t a short alike paged =
    let next : (a + 1) % 65536 ≡ a + 1 = omega arith in
    ap (word image) next ∙ alike.seconds a paged ∙ sym (ap (word other) next)

next-alike : (image other : List ℕ) (t a : ℕ) → AreAlike image other t → t / page_words ≡ a / page_words → next_of image a ≡ next_of other a
next-alike image other t a alike paged = ap (λ w. a + size_by_first_word w) (alike.words a paged)

module _ (image other : List ℕ) (t a : ℕ) (short : t < most_image_words) (alike : AreAlike image other t) (paged : t / page_words ≡ a / page_words) where
  template-alike : template_at image a ≡ template_at other a
  template-alike =
      let Template : ℕ → ℕ → ℕ → List Piece = λ first second behind. template_of a first (the_form first second) (size_by_first_word behind) in
      let second = (a + 1) % 65536 in
      ap (λ w. Template w (word image second) (word image (a + 1))) (alike.words a paged) ∙
      ap (λ w. Template (word other a) w (word image (a + 1))) (second-alike image other t a short alike paged) ∙
      ap (Template (word other a) (word other second)) (alike.seconds a paged)

  closing-alike : closing_at image a ≡ closing_at other a
  closing-alike =
      ap₂ (λ first second. if is_closed (shape_of a (the_form first second)) then stub a (a + size_by_first_word first) else []) (alike.words a paged) (second-alike image other t a short alike paged)

  ends-alike : ends_at image a ≡ ends_at other a
  ends-alike =
      ap₂ (λ first second. never_returns (shape_of a (the_form first second)) (the_form first second)) (alike.words a paged) (second-alike image other t a short alike paged)

-- The instructions of a run. ----------------------------------------------------------------------

-- its first instructions, with the last one, are in the original page of the first
abbrev pub ArePaged : List ℕ → (t last : ℕ) → Type 0
ArePaged image t last = (i : ℕ) → i ≤ last → address image t i / page_words ≡ t / page_words

pub address-alike : (image other : List ℕ) (t last i : ℕ) → AreAlike image other t → ArePaged image t last → i ≤ suc last → address image t i ≡ address other t i
address-alike image other t last zero alike paged near = refl
address-alike image other t last (suc i) alike paged near =
    next-alike image other t (address image t i) alike (sym (paged i (omega arith))) ∙ ap (next_of other) (address-alike image other t last i alike paged (omega arith))

templates-alike : (image other : List ℕ) (t last i : ℕ) → t < most_image_words → AreAlike image other t → ArePaged image t last → i ≤ suc last → templates image t i ≡ templates other t i
templates-alike image other t last zero short alike paged near = refl
templates-alike image other t last (suc i) short alike paged near =
    let here = template-alike image other t (address image t i) short alike (sym (paged i (omega arith))) ∙ ap (template_at other) (address-alike image other t last i alike paged (omega arith)) in
    ap₂ (λ front back. front ++ back) (templates-alike image other t last i short alike paged (omega arith)) here

module _ (image other : List ℕ) (t last : ℕ) (short : t < most_image_words) (alike : AreAlike image other t) (paged : ArePaged image t last) where
  map-alike : map_words image t (suc last) ≡ map_words other t (suc last)
  map-alike =
      same_number_lists _ _ (length-map_words image t (suc last) ∙ sym (length-map_words other t (suc last))) (λ k below.
      let near : k < suc last = omega (arith, length-map_words image t (suc last)) in
      let item = ap₂ (λ a front. 256 * (a % page_words) + (2 + suc last + size front)) (address-alike image other t last k alike paged (omega arith))
      (templates-alike image other t last k short alike paged (omega arith)) in
      map_words-item image t (suc last) k near ∙ item ∙ sym (map_words-item other t (suc last) k near))

  code-alike : code image t last ≡ code other t last
  unfolding code
  code-alike =
      let end = closing-alike image other t (address image t last) short alike (sym (paged last (omega arith))) ∙ ap (closing_at other) (address-alike _ _ _ _ _ alike paged (omega arith)) in
      ap₂ (λ front back. front ++ back) (templates-alike image other t last (suc last) short alike paged (omega arith)) end

  pub pieces-alike : page_pieces image t last ≡ page_pieces other t last
  unfolding page_pieces
  pieces-alike = ap₂ (λ words body. Fixed (t / page_words) ∷ Fixed (suc last) ∷ map Fixed words ++ body) (map-alike) (code-alike)

-- A run, and why it stops. ------------------------------------------------------------------------

pub run-alike : (image other : List ℕ) (t last : ℕ) → t < most_image_words → AreAlike image other t → IsRun image t last → IsRun other t last
run-alike image other t last short alike run =
    let Here : (i : ℕ) → i ≤ last → address image t i ≡ address other t i = λ i near. address-alike image other t last i alike run.paged (omega arith) in
    record {
      inside = λ i near. omega (arith, Here i near, alike.size, run.inside i near);
      paged = λ i near. ap (λ a. a / page_words) (sym (Here i near)) ∙ run.paged i near;
      goes_on = λ i below.
          let near : i ≤ last = omega arith in
          sym (ends-alike image other t (address image t i) short alike (sym (run.paged i near)) ∙ ap (ends_at other) (Here i near)) ∙ run.goes_on i below;
    }

pub stops-alike : (layout : Layout) (image other words : List ℕ) (page t last : ℕ) → t < most_image_words → AreAlike image other t → ArePaged image t last → PageStops layout image words page t last
    → PageStops layout other words page t last
stops-alike layout image other words page t last short alike paged (PageStops.Ends ends) =
    PageStops.Ends (sym (ends-alike image other t (address image t last) short alike (sym (paged last (omega arith))) ∙ ap (ends_at other) (address-alike _ _ _ _ _ alike paged (omega arith))) ∙ ends)
stops-alike layout image other words page t last short alike paged (PageStops.Leaves leaves) =
    PageStops.Leaves (λ same. leaves (ap (λ a. a / page_words) (address-alike image other t last (suc last) alike paged (omega arith)) ∙ same))
stops-alike layout image other words page t last short alike paged (PageStops.Outside outside) =
    PageStops.Outside (omega (arith, address-alike image other t last (suc last) alike paged (omega arith), alike.size))
stops-alike layout image other words page t last short alike paged (PageStops.Known p i v pool apart lists) =
    PageStops.Known p i v pool apart (subst (λ (a : ℕ). Lists words p i a v) (address-alike image other t last (suc last) alike paged (omega arith)) lists)
stops-alike layout image other words page t last short alike paged (PageStops.Full full) =
    let next : address image t (suc last) ≡ address other t (suc last) = address-alike image other t last (suc last) alike paged (omega arith) in
    elim (cases_eq (address image t (suc last) / page_words) (t / page_words)) [
      | inl same ↦ (
          let Paged : ArePaged image t (suc last) = λ i near. elim (cases_lt i (suc last)) [
            | inl before ↦ paged i (omega arith)
            | inr end ↦ (let here : suc last ≡ i = omega arith in ap (λ k. address image t k / page_words) (sym here) ∙ same)
          ] in
          PageStops.Full (rw (ap size (pieces-alike image other t (suc last) short alike Paged)) at full))
      | inr leaves ↦ PageStops.Leaves (λ same. leaves (ap (λ a. a / page_words) next ∙ same))
    ]
