-- Pages with the same words.
use Rattle.std.proofs.Common.{◌≡◌, ℕ, ◌+◌, ◌*◌, ◌/◌, ◌%◌, ◌<◌, ◌≤◌, List, length, take, length-take, arith, sym, ap, ◌∙◌}
use Rattle.std.proofs.lemmas.Grind.{same_number_lists}
use Rattle.std.proofs.lemmas.List.{get_or-take}
use Rattle.flash_words.specs.Pages.{word_count, page_words, word_at, page_of}
use Rattle.flash_words.specs.Layouts.{IsRight, image_of, most_image_words}
use Rattle.flash_words.specs.declared.layout.Layout.{Layout}
use Rattle.flash_words.proofs.PageLaws as pages
use Rattle.page_index.specs.Maps.{IsPool, IsMap}
use Rattle.page_index.specs.Entries.{Lists}
use Rattle.page_index.proofs.ChangeLaws.{SamePage, lists_alike}
use Rattle.page_draft.specs.CodePages.{Anywhere, IsCodePage}
use Rattle.nat_page.proofs.HeldLaws.{map_held}
use Rattle.nat_page.proofs.StayLaws.{holds_alike}
use Rattle.pool_check.proofs.MovedLaws.{holds_alone, holds_in_flash}

pub same_page : (words words' : List ℕ) (page : ℕ) → page_of words' page ≡ page_of words page → SamePage words words' page
same_page words words' page same = record {
  word = λ k below. sym (pages.page_word words page k below) ∙ sym (ap (λ (p : List ℕ). word_at p k) same) ∙ pages.page_word words' page k below;
}

pub lists_there : (words words' : List ℕ) (page i t v : ℕ) → page_of words' page ≡ page_of words page → Lists words page i t v → Lists words' page i t v
lists_there words words' page i t v same lists = lists_alike words words' page i t v (same_page words words' page same) lists

pub code_there : (image words words' : List ℕ) (page : ℕ) → page_of words' page ≡ page_of words page → IsCodePage image words page → IsCodePage image words' page
code_there image words words' page same code = record {
  first = code.first;
  last = code.last;
  holds = holds_alike Anywhere Anywhere image words words' page code.first code.last (λ a v leads. leads) (same_page words words' page same) code.holds;
}

-- a page of code has a map
pub code_map : (image words : List ℕ) (page : ℕ) → length image ≤ most_image_words → IsCodePage image words page → IsMap words page
code_map image words page short code = map_held Anywhere image words page code.first code.last short code.holds

-- a word of a page that stays
pub word_there : (words words' : List ℕ) (a : ℕ) → page_of words' (a / page_words) ≡ page_of words (a / page_words) → word_at words' a ≡ word_at words a
word_there words words' a same =
    let here : page_words * (a / page_words) + a % page_words ≡ a = omega arith in
    let one = (same_page words words' (a / page_words) same).word (a % page_words) (omega arith) in
    sym (ap (word_at words') here) ∙ sym one ∙ ap (word_at words) here

-- the image stays where the pages outside the pool do
pub image_there : (layout : Layout) (words words' : List ℕ) → IsRight layout → length words ≡ word_count → length words' ≡ length words
    → ((page : ℕ) → ¬ IsPool layout page → page_of words' page ≡ page_of words page) → image_of layout words' ≡ image_of layout words
image_there layout words words' right whole size outside =
    let n = layout.image_words in
    let cut' : length (take n words') ≡ n = omega (arith, length-take n words', size, whole, right.image_fits) in
    same_number_lists (take n words') (take n words) (cut' ∙ sym (omega (arith, length-take n words, whole, right.image_fits))) (λ k within.
    let below : k < n = omega arith in
    get_or-take n words' k 0 below ∙ word_there words words' k (outside (k / page_words) (λ pool. omega (arith, pool.from, right.image_below_pool))) ∙ sym (get_or-take n words k 0 below))

-- words are the same where all pages are
pub all_there : (words words' : List ℕ) → length words' ≡ length words → ((page : ℕ) → page_of words' page ≡ page_of words page) → words' ≡ words
all_there words words' size same = same_number_lists words' words size (λ a within. word_there words words' a (same (a / page_words)))

-- a page of code by itself, and where it stands in flash
pub code_alone : (image words : List ℕ) (page : ℕ) → IsCodePage image words page → IsCodePage image (page_of words page) 0
code_alone image words page code = record { first = code.first; last = code.last; holds = holds_alone image words page code.first code.last code.holds }

pub code_in_flash : (image words : List ℕ) (page : ℕ) → IsCodePage image (page_of words page) 0 → IsCodePage image words page
code_in_flash image words page code = record { first = code.first; last = code.last; holds = holds_in_flash image words page code.first code.last code.holds }
