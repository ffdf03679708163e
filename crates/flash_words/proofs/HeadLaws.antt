-- First words of pages, where one page gets other words.
use Rattle.std.proofs.Common.{◌≡◌, ℕ, ◌+◌, ◌-◌, ◌*◌, ◌<◌, ◌≤◌, ◌⊎◌, List, length, arith, ap, ◌∙◌, inl, inr}
use Rattle.std.specs.Prelude.{◌≢◌}
use Rattle.std.proofs.lemmas.Bool.{cases_lt}
use Rattle.flash_words.specs.declared.heads.Heads.{Heads}
use Rattle.flash_words.specs.Pages.{word_count, page_count, page_words, page_of, set_page}
use Rattle.flash_words.specs.Heads.{head, AreHeads, AreHeadsBeside}
use Rattle.std.specs.Prelude.{slice_index}
use Rattle.flash_words.proofs.PageLaws.{length-set_page, page_same, word_in_page, word_out_of_page}

-- the first word of another page begins below it or behind it
apart : (page other : ℕ) → other ≢ page → (page_words * other < page_words * page) ⊎ (page_words * page + page_words ≤ page_words * other)
apart page other differs = elim (cases_lt other page) [ inl below ↦ inl (omega arith) | inr above ↦ inr (omega (arith, differs)) ]

-- the others begin as they did
heads_beside : (words new : List ℕ) (heads : Heads) (page : ℕ) → AreHeads words heads → length words ≡ word_count → page < page_count → length new ≡ page_words
    → AreHeadsBeside (set_page words page new) heads page
heads_beside words new heads page h size few long =
    let inside : page_words * page + page_words ≤ length words = omega (arith, size) in
    record {
      sized = h.sized;
      each = λ other below differs s. rw (word_out_of_page words new page (page_words * other) long inside (apart page other differs)) (h.each other below s);
    }

-- the page itself begins as the words that it gets
head_set : (words new : List ℕ) (page : ℕ) → length words ≡ word_count → page < page_count → length new ≡ page_words → head (set_page words page new) page ≡ slice_index new 0
head_set words new page size few long =
    let none : page_words * page - page_words * page ≡ 0 = omega arith in
    word_in_page words new page (page_words * page) long (omega (arith, size)) (omega arith) (omega arith) ∙ ap (slice_index new) none

-- the words of which one page got others
pub record IsSet (words : List ℕ) (heads : Heads) (page : ℕ) (new : List ℕ) : Type 0 where
  pub size : length words ≡ word_count
  pub own : page_of words page ≡ new
  pub first : head words page ≡ slice_index new 0
  pub beside : AreHeadsBeside words heads page

pub page_set : (old words : List ℕ) (heads : Heads) (page : ℕ) (new : List ℕ) → words ≡ set_page old page new → length old ≡ word_count → AreHeads old heads → page < page_count
    → length new ≡ page_words → IsSet words heads page new
page_set old words heads page new is size h few long =
    let inside : page_words * page + page_words ≤ length old = omega (arith, size) in
    rw is (record {
      size = length-set_page old new page long inside ∙ size;
      own = page_same old new page long inside;
      first = head_set old new page size few long;
      beside = heads_beside old new heads page h size few long;
    })
