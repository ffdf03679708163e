-- A flash of which each page has its form and its links holds code of the image; and the other way round.
use Rattle.std.proofs.Common.{◌≡◌, ℕ, ◌+◌, ◌*◌, ◌/◌, ◌%◌, ◌<◌, ◌≤◌, List, ◌∷◌, ◌++◌, length, take, length-take, arith, sym, ap, ◌∙◌, inl, inr}
use Rattle.std.specs.Prelude.{◌⊎◌}
use Rattle.std.proofs.lemmas.Bool.{cases_lt, cases_order}
use Rattle.std.proofs.lemmas.Grind.{same_number_lists}
use Rattle.std.proofs.lemmas.List.{get_or-take, get_or_past, get_or_default}
use Rattle.avr_isa.specs.Image.{word}
use Rattle.flash_words.proofs.PageLaws.{page_word}
use Rattle.flash_words.specs.Pages.{word_count, page_count, page_words, word_at, page_of}
use Rattle.flash_words.specs.Memory.{kernel_first, return_word}
use Rattle.flash_words.specs.Layouts.{IsRight, image_of, most_image_words}
use Rattle.flash_words.specs.declared.layout.Layout.{Layout}
use Rattle.page_index.specs.Maps.{IsPool, IsFree, IsMap}
use Rattle.page_index.specs.Entries.{Lists, IsEntry}
use Rattle.page_index.proofs.EntryLaws.{one_place}
use Rattle.page_index.proofs.MapLaws.{same_address, map_of_entry}
use Rattle.nat_template.specs.declared.piece.Piece.{Piece}
use Rattle.nat_template.specs.declared.piece.Piece.TheVariants.{Link}
use Rattle.page_draft.specs.Standing.{jump_word, size, Stands}
use Rattle.page_draft.specs.CodePages.{page_pieces, HoldsRun, Anywhere}
use Rattle.nat_page.specs.Links.{IsLinkOf}
use Rattle.nat_page.specs.Faithful.{IsFaithful, IsRewritten}
use Rattle.nat_page.proofs.LinkLaws.{all_links, each_link_more}
use Rattle.nat_page.proofs.StayLaws.{holds_more, held_used, same_run}
use Rattle.nat_page.proofs.HeldLaws.{map_held}
use Rattle.nat_page.proofs.FaithfulLaws.{faithful_mapped}
use Rattle.page_draft.proofs.PieceLaws.{stands_split}
use Rattle.pool_check.specs.Forms.{HasForm}
use Rattle.pool_check.specs.Links.{IsOneEntry, HasLinks, HaveForms, HaveFormsAround, IsChecked}
use Rattle.pool_check.proofs.MovedLaws.{holds_alone, holds_in_flash, stands_leading}

-- a page of the pool that has its form
pub mapped_page : (layout : Layout) (image words : List ℕ) (page : ℕ) → length image ≤ most_image_words → IsPool layout page → HasForm layout image page (page_of words page) → IsFree words page
    ⊎ IsMap words page
mapped_page layout image words page short pool form = elim (form.pool pool) [
  | inl free ↦ inl free
  | inr code ↦ inr (map_held Anywhere image words page code.first code.last short (holds_in_flash image words page code.first code.last code.holds))
]

pub pool_low : (layout : Layout) (page : ℕ) → IsRight layout → IsPool layout page → page < page_count
pool_low layout page right pool = omega (arith, pool.to, right.pool_below_kernel)

module _ (layout : Layout) (image words : List ℕ) where
  -- no address has two entries
  once : IsRight layout → length image ≤ most_image_words → IsChecked layout image words → (page page' i i' t v v' : ℕ) → IsPool layout page → IsPool layout page' → Lists words page i t v
      → Lists words page' i' t v' → (page ≡ page') × (i ≡ i')
  once right short checked page page' i i' t v v' pool pool' lists lists' = elim (cases_order page page') [
    | inl same ↦ (
        let map = map_of_entry words page' i' t v' (mapped_page layout image words page' short pool' (checked.forms page' (pool_low layout page' right pool'))) lists' in
        (same, same_address words page' i i' t v v' map (rw same at lists) lists'))
    | inr (inl lower) ↦ absurd ((checked.links page' pool').alone page i i' t v v' pool lower lists lists')
    | inr (inr higher) ↦ absurd ((checked.links page pool).alone page' i' i t v' v pool' higher lists' lists)
  ]

  -- the links of a page lead to entries
  leading : (page first last : ℕ) → HasLinks layout image words page → HoldsRun Anywhere image words page first last → HoldsRun (IsEntry layout words) image words page first last
  leading page first last links holds =
      let own : ℕ → ℕ → Type 0 = λ s t. IsLinkOf (page_pieces image first last) (page_words * page) s t in
      let Leads : ℕ → ℕ → Type 0 = λ s t. word_at words s ≡ jump_word → IsEntry layout words t (word_at words (s + 1)) in
      record {
        run = holds.run;
        fits = holds.fits;
        stands = stands_leading (IsEntry layout words) words (page_words * page) (page_pieces image first last) holds.stands
            (each_link_more own Leads (page_words * page) (page_pieces image first last) (λ s t link jump. (links.lead first last s t holds link jump).entry)
            (all_links (page_pieces image first last) (page_words * page)));
        rest = holds.rest;
      }

  rewritten : (page : ℕ) → IsPool layout page → HasForm layout image page (page_of words page) → HasLinks layout image words page → IsFree words page ⊎ IsRewritten layout image words page
  rewritten page pool form links = elim (form.pool pool) [
    | inl free ↦ inl free
    | inr code ↦ inr (record { first = code.first; last = code.last; holds = leading page code.first code.last links (holds_in_flash image words page code.first code.last code.holds) })
  ]

  pub forms_around : HaveForms layout image words → HaveFormsAround layout image words
  forms_around forms page low out = forms page low

  -- a word below the pool is the image's, and one of the kernel is RET
  pub below_pool : (a : ℕ) → IsRight layout → HaveFormsAround layout image words → a < page_words * layout.pool_first → word_at words a ≡ word image a
  below_pool a right around below =
      let page = a / page_words in
      let there : page_words * page + (a % page_words) ≡ a = omega arith in
      let form = around page (omega (arith, right.pool_below_kernel)) (λ pool. omega (arith, pool.from)) in
      sym (page_word words page (a % page_words) (omega arith) ∙ ap (word_at words) there) ∙ form.below (omega arith) (a % page_words) (omega arith) ∙ ap (word image) there

  pub kernel_word : (a : ℕ) → IsRight layout → HaveFormsAround layout image words → kernel_first ≤ a → a < word_count → word_at words a ≡ return_word
  kernel_word a right around from to =
      let page = a / page_words in
      let there : page_words * page + (a % page_words) ≡ a = omega arith in
      sym (page_word words page (a % page_words) (omega arith) ∙ ap (word_at words) there)
      ∙ (around page (omega arith) (λ pool. omega (arith, pool.to, right.pool_below_kernel))).kernel (omega arith) (a % page_words) (omega arith)

pub outside : (image : List ℕ) (a : ℕ) → length image ≤ a → word image a ≡ 0xFFFF
outside image a beyond = get_or_past image a 0xFFFF beyond

inside : (image : List ℕ) (a : ℕ) → a < length image → word image a ≡ word_at image a
inside image a within = get_or_default image a 0xFFFF 0 within

module _ (layout : Layout) (image words : List ℕ) where
  pub held_image : IsRight layout → length words ≡ word_count → length image ≡ layout.image_words → HaveFormsAround layout image words → image_of layout words ≡ image
  held_image right whole long around =
      let cut : length (take layout.image_words words) ≡ layout.image_words = omega (arith, length-take layout.image_words words, right.image_fits) in
      same_number_lists (take layout.image_words words) image (cut ∙ sym long) (λ k within.
      let below : k < layout.image_words = omega arith in
      get_or-take layout.image_words words k 0 below ∙ below_pool layout image words k right around (omega (arith, right.image_below_pool)) ∙ inside image k (omega arith))

  -- below the pool flash has the image's words, and erased ones behind
  below_word : (a : ℕ) → IsRight layout → IsFaithful layout image words → a < page_words * layout.pool_first → word_at words a ≡ word image a
  below_word a right code below = elim (cases_lt a layout.image_words) [
    | inl within ↦ sym (get_or-take layout.image_words words a 0 within) ∙ ap (λ held. word_at held a) code.held ∙ sym (inside image a (omega (arith, code.image_length)))
    | inr beyond ↦ code.erased a beyond below ∙ sym (outside image a (omega (arith, code.image_length)))
  ]

  pub checked_code : IsRight layout → length words ≡ word_count → length image ≡ layout.image_words → IsChecked layout image words → IsFaithful layout image words
  checked_code right whole long checked =
      let around = forms_around layout image words checked.forms in
      record {
        whole = whole;
        image_length = long;
        held = held_image right whole long around;
        erased = λ a after before. below_pool layout image words a right around before ∙ outside image a (omega (arith, long));
        kernel = λ a from to. kernel_word layout image words a right around from to;
        pages = λ page pool. rewritten layout image words page pool (checked.forms page (pool_low layout page right pool)) (checked.links page pool);
        once = once layout image words right (omega (arith, right.image_fits)) checked;
      }

  -- the other way round
  one_entry : (t v : ℕ) → IsRight layout → IsFaithful layout image words → IsEntry layout words t v → IsOneEntry layout words t v
  one_entry t v right code entry = record { entry = entry; one = λ v' entry'. one_place layout words t v' v (faithful_mapped layout image words right code) entry' entry }

-- each link of pieces that stand with leads
lead_of : (leads : ℕ → ℕ → Type 0) (words : List ℕ) (a : ℕ) (before behind : List Piece) (t : ℕ) → Stands leads words a (before ++ Link t ∷ behind) → word_at words (a + size before) ≡ jump_word
    → leads t (word_at words (a + size before + 1))
lead_of leads words a before behind t stands jump =
    elim (stands_split leads words a before (Link t ∷ behind) stands).1.0.0 [
      | inl bridge ↦ absurd (omega (arith, bridge.0, jump))
      | inr leading ↦ leading.1
    ]

pub code_links : (layout : Layout) (image words : List ℕ) (page : ℕ) → IsRight layout → IsFaithful layout image words → IsPool layout page → HasLinks layout image words page
code_links layout image words page right code pool = record {
  alone = λ lower i j t v v' pool' below lists lists'. omega (arith, (code.once lower page i j t v v' pool' pool lists lists').0);
  lead = λ first last s t holds link jump. elim (code.pages page pool) [
    | inl free ↦ absurd (held_used Anywhere image words page first last (omega (arith, code.image_length, right.image_fits)) holds free)
    | inr run ↦ (
        let same = same_run (IsEntry layout words) Anywhere image words page run.first run.last first last run.holds holds in
        let there = rw same.1 at (rw same.0 at run.holds) in
        one_entry layout image words t (word_at words (s + 1)) right code
        (rw link.at (lead_of (IsEntry layout words) words (page_words * page) link.before link.behind t (rw link.split at there.stands) (rw link.at at jump))))
  ];
}

pub code_forms : (layout : Layout) (image words : List ℕ) (page : ℕ) → IsRight layout → IsFaithful layout image words → page < page_count → HasForm layout image page (page_of words page)
code_forms layout image words page right code low = record {
  below = λ before k within. page_word words page k within ∙ below_word layout image words (page_words * page + k) right code (omega arith);
  kernel = λ from k within. page_word words page k within ∙ code.kernel (page_words * page + k) (omega arith) (omega arith);
  pool = λ pool. elim (code.pages page pool) [
    | inl free ↦ inl free
    | inr run ↦ inr (record { first = run.first; last = run.last; holds = holds_alone _ _ _ _ _ (holds_more _ _ _ _ _ _ _ (λ a v entry. tt) run.holds) })
  ];
}

pub code_checked : (layout : Layout) (image words : List ℕ) → IsRight layout → IsFaithful layout image words → IsChecked layout image words
code_checked layout image words right code = record {
  forms = λ page low. code_forms layout image words page right code low;
  links = λ page pool. code_links layout image words page right code pool;
}
