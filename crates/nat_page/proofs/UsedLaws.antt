-- How many pages of the pool are used: none in a new flash, one more where a page is made, as many where a
-- link is resolved, and all where no page is free.
use Rattle.std.proofs.Common.{◌≡◌, ℕ, zero, suc, ◌+◌, ◌<◌, ◌≤◌, ◌==◌, Bool, true, false, not, List, length, refl, sym, ap, ap₂, ◌∙◌, arith, inl, inr, ⊎_elim}
use Rattle.std.specs.Prelude.{◌≢◌, if◌then◌else◌}
use Rattle.std.proofs.lemmas.Bool.{cases_eq}
use Rattle.std.proofs.lemmas.Bool.Decides.{nat_tests}
use Rattle.flash_words.specs.Layouts.{IsRight, most_image_words, most_image_pages}
use Rattle.flash_words.specs.declared.layout.Layout.{Layout}
use Rattle.page_index.specs.Maps.{IsPool, IsFree, IsMap, original_page}
use Rattle.page_index.specs.Entries.{IsEntry, IsMapped}
use Rattle.page_index.proofs.MapLaws.{free_word}
use Rattle.page_index.proofs.ChangeLaws.{SamePage}
use Rattle.page_draft.specs.Standing.{IsLink}
use Rattle.page_draft.specs.CodePages.{HoldsRun}
use Rattle.nat_page.specs.Links.{IsLinkIn, with_two_words}
use Rattle.nat_page.specs.Used.{is_used, used_among, used_pages}
use Rattle.nat_page.specs.Faithful.{IsFaithful}
use Rattle.nat_page.specs.Making.{HasNoFree, MakesPage}
use Rattle.nat_page.proofs.HeldLaws.{original_held}
use Rattle.nat_page.proofs.MadeLaws.{makes_holds, makes_other}
use Rattle.nat_page.proofs.KeptLaws.{KeepsRun}
use Rattle.nat_page.proofs.RelinkLaws.{relinks}

original_small : (w : ℕ) → w < most_image_pages → not (w == 0xFFFF) ≡ true
original_small w small = grind (arith, nat_tests)

-- a free page isn't used, and one with a map is
pub free_unused : (words : List ℕ) (page : ℕ) → IsFree words page → is_used words page ≡ false
free_unused words page free = ap (λ w. not (w == 0xFFFF)) (free_word words page 0 (omega arith) free)

pub map_used : (words : List ℕ) (page : ℕ) → IsMap words page → is_used words page ≡ true
map_used words page map = original_small (original_page words page) map.original

pub holds_run_used : (leads : ℕ → ℕ → Type 0) (image words : List ℕ) (page t last : ℕ) → length image ≤ most_image_words → HoldsRun leads image words page t last → is_used words page ≡ true
holds_run_used leads image words page t last short holds =
    let original = original_held leads image words page t last holds in
    let begins : t < length image = holds.run.inside 0 (omega arith) in
    original_small (original_page words page) (omega arith)

-- a page that stays is used where it was
pub same_used : (words words' : List ℕ) (page : ℕ) → SamePage words words' page → is_used words' page ≡ is_used words page
same_used words words' page same = sym (ap (λ w. not (w == 0xFFFF)) (same.word 0 (omega arith)))

-- counts of n pages
counted : (used used' : Bool) (n m : ℕ) → used ≡ used' → n ≡ m → (if used then 1 else 0) + n ≡ (if used' then 1 else 0) + m
counted used used' n m head tail = ap₂ (λ b k. (if b then 1 else 0) + k) head tail

pub at_most : (used : Bool) (n m : ℕ) → m ≤ n → (if used then 1 else 0) + m ≤ suc n
at_most true n m below = omega arith
at_most false n m below = omega arith

-- no more than there are
pub used_among-most : (words : List ℕ) (first n : ℕ) → used_among words first n ≤ n
unfolding used_among
used_among-most words first zero = omega arith
used_among-most words first (suc n) = at_most (is_used words (first + n)) n (used_among words first n) (used_among-most words first n)

-- pages that stay
pub used_among-same : (words words' : List ℕ) (first n : ℕ) → ((page : ℕ) → first ≤ page → page < first + n → is_used words' page ≡ is_used words page)
    → used_among words' first n ≡ used_among words first n
unfolding used_among
used_among-same words words' first zero same = refl
used_among-same words words' first (suc n) same =
    counted _ _ _ _ (same (first + n) (omega arith) (omega arith)) (used_among-same words words' first n (λ page low high. same page low (omega arith)))

-- one page more
one_more : (used used' : Bool) (n m : ℕ) → used ≡ true → used' ≡ false → n ≡ m → (if used then 1 else 0) + n ≡ (if used' then 1 else 0) + m + 1
one_more true false n m is is' tail = omega arith
one_more true true n m is is' tail = absurd (cc)
one_more false used' n m is is' tail = absurd (cc)

carried : (used used' : Bool) (n m : ℕ) → used ≡ used' → n ≡ m + 1 → (if used then 1 else 0) + n ≡ (if used' then 1 else 0) + m + 1
carried used used' n m head tail = counted used used' n (m + 1) head tail ∙ omega arith

before_last : (first n page : ℕ) → page < first + suc n → first + n ≢ page → page < first + n
before_last first n page below apart = omega arith

pub used_among-more : (words words' : List ℕ) (first n page : ℕ) → first ≤ page → page < first + n → is_used words page ≡ false → is_used words' page ≡ true
    → ((other : ℕ) → other ≢ page → is_used words' other ≡ is_used words other) → used_among words' first n ≡ used_among words first n + 1
unfolding used_among
used_among-more words words' first zero page low high free used same = absurd (omega arith)
used_among-more words words' first (suc n) page low high free used same = elim (cases_eq (first + n) page) [
  | inl is ↦ one_more _ _ _ _ (ap (is_used words') is ∙ used) (ap (is_used words) is ∙ free) (used_among-same words words' first n (λ other low' high'. same other (λ is'. omega arith)))
  | inr apart ↦ carried _ _ _ _ (same (first + n) apart) (used_among-more _ _ _ _ _ low (before_last first n page high apart) free used same)
]

-- all of them, and none
used_among-all : (words : List ℕ) (first n : ℕ) → ((page : ℕ) → first ≤ page → page < first + n → is_used words page ≡ true) → used_among words first n ≡ n
unfolding used_among
used_among-all words first zero used = refl
used_among-all words first (suc n) used =
    counted _ _ _ _ (used (first + n) (omega arith) (omega arith)) (used_among-all words first n (λ page low high. used page low (omega arith))) ∙ omega arith

used_among-none : (words : List ℕ) (first n : ℕ) → ((page : ℕ) → first ≤ page → page < first + n → is_used words page ≡ false) → used_among words first n ≡ 0
unfolding used_among
used_among-none words first zero free = refl
used_among-none words first (suc n) free =
    counted (is_used words (first + n)) false (used_among words first n) 0 (free (first + n) (omega arith) (omega arith)) (used_among-none words first n (λ page low high. free page low (omega arith)))

-- no more than the pool has
pub used_pages-most : (layout : Layout) (words : List ℕ) → used_pages layout words ≤ layout.pool_pages
used_pages-most layout words = used_among-most words layout.pool_first layout.pool_pages

-- where every page is free, as in a new flash, none is used
pub none_used : (layout : Layout) (words : List ℕ) → ((page : ℕ) → IsPool layout page → IsFree words page) → used_pages layout words ≡ 0
none_used layout words free =
    used_among-none words layout.pool_first layout.pool_pages (λ page low high. free_unused words page (free page (record { from = low; to = high })))

-- where no page is free all are used
pub all_used : (layout : Layout) (words : List ℕ) → IsMapped layout words → HasNoFree layout words → used_pages layout words ≡ layout.pool_pages
all_used layout words mapped full =
    used_among-all words layout.pool_first layout.pool_pages (λ page low high.
    let pool : IsPool layout page = record { from = low; to = high } in
    ⊎_elim (λ free. absurd (full page pool free)) (map_used words page) (mapped.pages page pool))

-- where a page is made one more is used
pub used_made : (layout : Layout) (image old new : List ℕ) (page t place : ℕ) → IsRight layout → IsFaithful layout image old → IsPool layout page → IsFree old page
    → MakesPage layout image old new page t place → used_pages layout new ≡ used_pages layout old + 1
used_made layout image old new page t place right code pool free makes =
    let short : length image ≤ most_image_words = omega (arith, code.image_length, right.image_fits) in
    let holds = makes_holds layout (IsEntry layout new) image old new page t place right code pool makes in
    used_among-more _ _ _ _ _ pool.from pool.to (free_unused old page free) (holds_run_used _ _ _ _ _ _ short holds)
    (λ other apart. same_used _ _ _ (makes_other _ _ _ _ _ _ _ _ right code pool makes apart))

-- where each page keeps its run as many are used
pub used_kept : (layout : Layout) (image words words' : List ℕ) (page t last : ℕ) → KeepsRun layout image words words' page t last → used_pages layout words' ≡ used_pages layout words
used_kept layout image words words' page t last keeps =
    let leads : ℕ → ℕ → Type 0 = λ a v. IsEntry layout words a v in
    used_among-same words words' layout.pool_first layout.pool_pages (λ other low high. elim (cases_eq other page) [
      | inl same ↦ rw same (holds_run_used leads image words' page t last keeps.short keeps.new ∙ sym (holds_run_used leads image words page t last keeps.short keeps.old))
      | inr apart ↦ same_used words words' other (keeps.others other apart)
    ])

pub used_relinked : (layout : Layout) (image words : List ℕ) (s t w w' : ℕ) → IsRight layout → IsFaithful layout image words → IsLinkIn layout image words s t → IsLink (IsEntry layout words) w w' t
    → used_pages layout (with_two_words words s w w') ≡ used_pages layout words
used_relinked layout image words s t w w' right code in_page link =
    used_kept layout image words (with_two_words words s w w') in_page.page in_page.first in_page.last (relinks layout image words s t w w' right code in_page link)
