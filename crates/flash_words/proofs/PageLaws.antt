-- One page set, and then one word or one page read. words is the list of flash's words.
use Rattle.std.proofs.Common.{◌≡◌, ℕ, ◌+◌, ◌-◌, ◌*◌, ◌<◌, ◌≤◌, ◌⊎◌, List, length, take, drop, arith, ◌∙◌, sym, inl, inr}
use Rattle.std.specs.Prelude.{◌≢◌, slice_index}
use Rattle.std.proofs.lemmas.Grind.{same_number_lists}
use Rattle.std.proofs.lemmas.Bool.{cases_lt}
use Rattle.flash_words.specs.Pages.{page_words, word_at, page_of, set_page}
use Rattle.base.proofs.Pieces.{length-replaced, replaced_in, replaced_below, replaced_above, front_replaced, replaced_twice, part_replaced, same_part, part_item, length-part}
use Rattle.base.proofs.Numbers.{unequal}

-- the length stays
pub length-set_page : (words new : List ℕ) (page : ℕ) → length new ≡ page_words → page_words * page + page_words ≤ length words → length (set_page words page new) ≡ length words
unfolding set_page
length-set_page words new page fits inside = length-replaced (page_words * page) page_words words new fits inside

-- a word in the page
pub word_in_page : (words new : List ℕ) (page a : ℕ) → length new ≡ page_words → page_words * page + page_words ≤ length words → page_words * page ≤ a → a < page_words * page + page_words
    → word_at (set_page words page new) a ≡ slice_index new (a - page_words * page)
unfolding set_page
word_in_page words new page a fits inside above below = replaced_in (page_words * page) page_words a words new fits inside above below

-- a word outside
pub word_out_of_page : (words new : List ℕ) (page a : ℕ) → length new ≡ page_words → page_words * page + page_words ≤ length words → (a < page_words * page) ⊎ (page_words * page + page_words ≤ a)
    → word_at (set_page words page new) a ≡ word_at words a
unfolding set_page
word_out_of_page words new page a fits inside (inl below) = replaced_below (page_words * page) page_words a words new fits inside below
word_out_of_page words new page a fits inside (inr above) = replaced_above (page_words * page) page_words a words new fits inside above

-- the words in front of the page
pub take-set_page : (words new : List ℕ) (page n : ℕ) → page_words * page ≤ length words → n ≤ page_words * page → take n (set_page words page new) ≡ take n words
unfolding set_page
take-set_page words new page n inside in_front =
    front_replaced (page_words * page) n words new (drop (page_words * page + page_words) words) inside in_front

-- the page itself
pub page_same : (words new : List ℕ) (page : ℕ) → length new ≡ page_words → page_words * page + page_words ≤ length words → page_of (set_page words page new) page ≡ new
unfolding set_page page_of
page_same words new page fits inside = part_replaced (page_words * page) page_words words new fits inside

-- another page
pub page_other : (words new : List ℕ) (page other : ℕ) → length new ≡ page_words → page_words * page + page_words ≤ length words → other ≢ page
    → page_of (set_page words page new) other ≡ page_of words other
unfolding page_of
page_other words new page other fits inside apart =
    same_part (page_words * other) page_words (set_page words page new) words (length-set_page words new page fits inside) (λ a above below.
    word_out_of_page words new page a fits inside (elim (cases_lt other page) [ inl lower ↦ inl (omega arith) | inr higher ↦ inr (omega (arith, unequal other page apart higher)) ]))

-- a page set twice
pub set_page_twice : (words new newer : List ℕ) (page : ℕ) → length new ≡ page_words → page_words * page + page_words ≤ length words
    → set_page (set_page words page new) page newer ≡ set_page words page newer
unfolding set_page
set_page_twice words new newer page fits inside = replaced_twice (page_words * page) page_words words new newer fits inside

-- word k of a page
pub page_word : (words : List ℕ) (page k : ℕ) → k < page_words → slice_index (page_of words page) k ≡ word_at words (page_words * page + k)
unfolding page_of
page_word words page k below = part_item (page_words * page) page_words k words below

pub length-page_of : (words : List ℕ) (page : ℕ) → page_words * page + page_words ≤ length words → length (page_of words page) ≡ page_words
unfolding page_of
length-page_of words page inside = length-part (page_words * page) page_words words inside

-- pages whose words agree
pub page_alike : (words words' : List ℕ) (page page' : ℕ)
    → ((k : ℕ) → k < page_words → word_at words (page_words * page + k) ≡ word_at words' (page_words * page' + k))
    → page_words * page + page_words ≤ length words → page_words * page' + page_words ≤ length words' → page_of words page ≡ page_of words' page'
page_alike words words' page page' alike inside inside' =
    let long = length-page_of words page inside in
    let long' = length-page_of words' page' inside' in
    same_number_lists _ _ (long ∙ sym long') (λ k within.
    let below : k < page_words = omega arith in
    page_word words page k below ∙ alike k below ∙ sym (page_word words' page' k below))
