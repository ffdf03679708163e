-- What a page holds that was erased, or programmed over what it held.
use Rattle.std.proofs.Common.{◌≡◌, ℕ, zero, suc, ◌+◌, ◌-◌, ◌*◌, ◌<◌, ◌≤◌, List, [], ◌∷◌, length, ◌⊎◌, arith, ◌∙◌, sym, ap, inl, inr}
use Rattle.std.specs.Prelude.{slice_index, bit_and}
use Rattle.std.proofs.lemmas.Nat.{and_le_l}
use Rattle.std.proofs.lemmas.Bool.{cases_lt}
use Rattle.flash_words.specs.Pages.{word_count, page_count, page_words, word_at, page_of, set_page, blank, programmed}
use Rattle.flash_words.specs.Memory.{AreWords}
use Rattle.flash_words.specs.JumpSets.{IsBlankFrom}
use Rattle.flash_words.proofs.PageLaws.{word_in_page, word_out_of_page, page_word, length-page_of}
use Rattle.base.proofs.ManyLaws.{length-many, get_or-many}

pub length-blank : length blank ≡ page_words
unfolding blank
length-blank = length-many page_words 0xFFFF

-- each of its words is 0xFFFF
pub blank_from : IsBlankFrom blank 0
unfolding blank
blank_from k from below = get_or-many page_words 0xFFFF k below

pub length-programmed : (page words : List ℕ) (n : ℕ) → length page ≡ n → length words ≡ n → length (programmed page words) ≡ n
length-programmed [] words n size size' = size
length-programmed (old ∷ page) [] n size size' = size'
length-programmed (old ∷ page) (new ∷ words) zero size size' = absurd (omega arith)
length-programmed (old ∷ page) (new ∷ words) (suc n) size size' = ap suc (length-programmed page words n (omega arith) (omega arith))

full : (old new : ℕ) → bit_and old new ≡ 0xFFFF → old < 65536 → old ≡ 0xFFFF
full old new is fits = omega (arith, and_le_l old new)

-- a word that is 0xFFFF once it was programmed was so before
programmed_left : (page words : List ℕ) (n k : ℕ) → length page ≡ n → length words ≡ n → k < n → slice_index (programmed page words) k ≡ 0xFFFF → slice_index page k < 65536
    → slice_index page k ≡ 0xFFFF
programmed_left (old ∷ page) (new ∷ words) (suc n) zero size size' below left fits = full old new left fits
programmed_left (old ∷ page) (new ∷ words) (suc n) (suc k) size size' below left fits = programmed_left page words n k (omega arith) (omega arith) (omega arith) left fits
programmed_left _ _ _ _ size size' below left fits = absurd (omega arith)

-- a word of a page that is 0xFFFF once the page was programmed stays
word_left : (words new : List ℕ) (page a : ℕ) → length words ≡ word_count → AreWords words → page < page_count → length new ≡ page_words → page_words * page ≤ a → a < page_words * page + page_words
    → slice_index (programmed (page_of words page) new) (a - page_words * page) ≡ 0xFFFF
    → word_at (set_page words page (programmed (page_of words page) new)) a ≡ word_at words a
word_left words new page a size fit few long above below left =
    let k = a - page_words * page in
    let inside : page_words * page + page_words ≤ length words = omega (arith, size) in
    let old = page_of words page in
    let long' : length old ≡ page_words = length-page_of words page inside in
    let fits : length (programmed old new) ≡ page_words = length-programmed old new page_words long' long in
    let there : page_words * page + k ≡ a = omega arith in
    let here : slice_index old k ≡ word_at words a = page_word words page k (omega arith) ∙ ap (word_at words) there in
    let fit' : slice_index old k < 65536 = (let fit_there = fit a in omega arith) in
    word_in_page words (programmed old new) page a fits inside above below ∙ left ∙ sym (programmed_left old new page_words k long' long (omega arith) left fit') ∙ here

-- programming leaves each word outside of the page, and those of the page that are 0xFFFF behind it
pub others_left : (words new : List ℕ) (page n a : ℕ) → length words ≡ word_count → AreWords words → page < page_count → length new ≡ page_words
    → IsBlankFrom (programmed (page_of words page) new) n
    → (a < page_words * page) ⊎ (page_words * page + n ≤ a)
    → word_at (set_page words page (programmed (page_of words page) new)) a ≡ word_at words a
others_left words new page n a size fit few long rest out =
    let inside : page_words * page + page_words ≤ length words = omega (arith, size) in
    let new' = programmed (page_of words page) new in
    let fits : length new' ≡ page_words = length-programmed (page_of words page) new page_words (length-page_of words page inside) long in
    elim out [
      | inl below ↦ word_out_of_page words new' page a fits inside (inl below)
      | inr above ↦ elim (cases_lt a (page_words * page + page_words)) [
        | inl within ↦ word_left words new page a size fit few long (omega arith) within (rest (a - page_words * page) (omega arith) (omega arith))
        | inr higher ↦ word_out_of_page words new' page a fits inside (inr higher)
      ]
    ]
