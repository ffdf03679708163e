-- A run's addresses and templates: both go up, and a page with more instructions has more words.
use Rattle.std.proofs.Common.{◌≡◌, ℕ, zero, suc, ◌+◌, ◌/◌, ◌<◌, ◌≤◌, Bool, true, false, cond, List, length, map, arith, sym, ap, ◌∙◌, inl, inr}
use Rattle.std.proofs.lemmas.Bool.{cases_lt}
use Rattle.std.proofs.lemmas.Bool.Decides.{nat_tests}
use Rattle.std.proofs.lemmas.List.FromFn.{length-map-range_with_len}
use Rattle.avr_isa.specs.Image.{word}
use Rattle.avr_isa.specs.Crossing.{is_crossing}
use Rattle.avr_decode.specs.Decoding.{is_long, the_form}
use Rattle.avr_decode.specs.Program.{instruction_at}
use Rattle.nat_template.specs.declared.piece.Piece.TheVariants.{Fixed}
use Rattle.page_draft.specs.Standing.{size}
use Rattle.page_draft.specs.Runs.{shape_at, size_at, next_of, template_at, is_closed, closing_at, address, templates, IsRun}
use Rattle.page_draft.specs.CodePages.{map_words, map_word, code, page_pieces, page_size}
use Rattle.page_draft.proofs.PieceLaws.{size-append, size-fixed}
use Rattle.nat_template.proofs.Sizes.{template_size}
use Rattle.page_draft.proofs.Widths.{closed_range, plain_range}
use Rattle.flash_words.specs.Layouts.{most_image_words}

-- inside an image no address wraps, so an instruction's second word is the one at the next address
pub same_second : (image : List ℕ) (a : ℕ) → a < length image → length image ≤ most_image_words → instruction_at image a ≡ the_form (word image a) (word image (a + 1))
same_second image a inside short = ap (λ b. the_form (word image a) (word image b)) (omega arith)

one_or_two : (long : Bool) → (1 ≤ cond long 2 1) × (cond long 2 1 ≤ 2)
one_or_two true = (omega arith, omega arith)
one_or_two false = (omega arith, omega arith)

-- an instruction has one word or two
pub size_at-range : (image : List ℕ) (pc : ℕ) → (1 ≤ size_at image pc) × (size_at image pc ≤ 2)
size_at-range image pc = one_or_two (is_long (word image pc))

pub template_at-range : (image : List ℕ) (pc : ℕ) → (1 ≤ size (template_at image pc)) × (size (template_at image pc) ≤ 39)
template_at-range image pc = template_size (shape_at image pc) pc (word image pc) (instruction_at image pc) (size_at image (pc + 1))

pub closing_at-range : (image : List ℕ) (pc : ℕ) → (3 ≤ size (template_at image pc) + size (closing_at image pc)) × (size (closing_at image pc) ≤ 22)
closing_at-range image pc = closed_range (shape_at image pc) pc (word image pc) (next_of image pc) (instruction_at image pc) (size_at image (pc + 1))

module _ (image : List ℕ) (t : ℕ) where
  -- addresses and templates go up
  pub address-rises : (i j : ℕ) → i < j → address image t i < address image t j
  address-rises i zero below = absurd (omega arith)
  address-rises i (suc j) below =
      let more = size_at-range image (address image t j) in
      elim (cases_lt i j) [
        | inl before ↦ (let earlier : address image t i < address image t j = address-rises i j before in omega arith)
        | inr same ↦ let here : i ≡ j = omega arith in rw here (omega arith)
      ]

  pub size-templates : (n : ℕ) → size (templates image t (suc n)) ≡ size (templates image t n) + size (template_at image (address image t n))
  size-templates n = size-append (templates image t n) (template_at image (address image t n))

  pub templates-rise : (i j : ℕ) → i < j → size (templates image t i) + size (template_at image (address image t i)) ≤ size (templates image t j)
  templates-rise i zero below = absurd (omega arith)
  templates-rise i (suc j) below =
      let more = size-templates j in
      elim (cases_lt i j) [
        | inl before ↦ (let earlier = templates-rise i j before in omega arith)
        | inr same ↦ let here : i ≡ j = omega arith in rw here (omega arith)
      ]

  -- the words of a page
  pub length-map_words : (n : ℕ) → length (map_words image t n) ≡ n
  unfolding map_words
  length-map_words n = length-map-range_with_len (map_word image t n) 0 n

  pub size-code : (last : ℕ) → size (code image t last) ≡ size (templates image t (suc last)) + size (closing_at image (address image t last))
  unfolding code
  size-code last = size-append (templates image t (suc last)) (closing_at image (address image t last))

  pub page_size-is : (last : ℕ) → page_size image t last ≡ last + 3 + size (templates image t (suc last)) + size (closing_at image (address image t last))
  unfolding page_pieces
  page_size-is last =
      let words = map_words image t (suc last) in
      omega (arith, size-append (map Fixed words) (code image t last), size-fixed words, length-map_words (suc last), size-code last)

-- a step onward in one original page is no crossing
pub uncounted : (from to : ℕ) → from < to → to / 128 ≡ from / 128 → is_crossing from to ≡ false
uncounted from to forward paged = grind (arith, nat_tests)

-- a page with more instructions of a run has no fewer words
page_grows : (image : List ℕ) (t last : ℕ) → IsRun image t (suc last) → page_size image t last ≤ page_size image t (suc last)
page_grows image t last run =
    let here = address image t last in
    let next = address image t (suc last) in
    let same : next / 128 ≡ here / 128 = run.paged (suc last) (omega arith) ∙ sym (run.paged last (omega arith)) in
    let plain = plain_range (is_closed (shape_at image here)) here next (uncounted here next (address-rises image t last (suc last) (omega arith)) same) in
    let more = size-templates image t (suc last) in
    let behind = closing_at-range image next in
    omega (arith, page_size-is image t last, page_size-is image t (suc last))

shorter_run : (image : List ℕ) (t last : ℕ) → IsRun image t (suc last) → IsRun image t last
shorter_run image t last run = record {
  inside = λ i near. run.inside i (omega arith);
  paged = λ i near. run.paged i (omega arith);
  goes_on = λ i below. run.goes_on i (omega arith);
}

pub page_size-rises : (image : List ℕ) (t i last : ℕ) → IsRun image t last → i ≤ last → page_size image t i ≤ page_size image t last
page_size-rises image t i zero run near = let same : i ≡ 0 = omega arith in omega (arith, ap (page_size image t) same)
page_size-rises image t i (suc last) run near = elim (cases_lt i (suc last)) [
  | inl before ↦ omega (arith, page_size-rises image t i last (shorter_run image t last run) (omega arith), page_grows image t last run)
  | inr all ↦ (let same : i ≡ suc last = omega arith in omega (arith, ap (page_size image t) same))
]
