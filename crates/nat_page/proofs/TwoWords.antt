-- Two words of flash that are exchanged, and the page with them.
use Rattle.std.proofs.Common.{◌≡◌, ℕ, ◌+◌, ◌-◌, ◌*◌, ◌<◌, ◌≤◌, List, length, arith, sym, ◌∙◌, inl, inr, subst}
use Rattle.std.specs.Prelude.{◌≢◌, slice_index}
use Rattle.std.proofs.lemmas.Bool.{cases_eq, cases_lt}
use Rattle.std.proofs.lemmas.List.{length-set, get_or-set_same, get_or-set_other}
use Rattle.std.proofs.lemmas.Grind.{same_number_lists}
use Rattle.flash_words.specs.Pages.{page_words, word_at, page_of, set_page}
use Rattle.flash_words.proofs.PageLaws.{length-set_page, word_in_page, word_out_of_page, page_word, length-page_of}
use Rattle.nat_page.specs.Links.{with_two_words}

pub length-with_two_words : (words : List ℕ) (s first second : ℕ) → length (with_two_words words s first second) ≡ length words
unfolding with_two_words
length-with_two_words words s first second = length-set _ (s + 1) second ∙ length-set words s first

-- the two, and each other word
pub first_of_two : (words : List ℕ) (s first second : ℕ) → s + 1 < length words → word_at (with_two_words words s first second) s ≡ first
unfolding with_two_words
first_of_two words s first second below = get_or-set_other _ (s + 1) s second 0 (λ same. omega arith) ∙ get_or-set_same words s first 0 (omega arith)

pub second_of_two : (words : List ℕ) (s first second : ℕ) → s + 1 < length words → word_at (with_two_words words s first second) (s + 1) ≡ second
unfolding with_two_words
second_of_two words s first second below = get_or-set_same _ (s + 1) second 0 (omega (arith, length-set words s first))

pub word_beside_two : (words : List ℕ) (s a first second : ℕ) → a ≢ s → a ≢ s + 1 → word_at (with_two_words words s first second) a ≡ word_at words a
unfolding with_two_words
word_beside_two words s a first second apart apart' = get_or-set_other _ (s + 1) a second 0 apart' ∙ get_or-set_other words s a first 0 apart

-- word k of the page with its two words, in flash with them
word_of_page : (words : List ℕ) (page k j first second : ℕ) → page_words * page + page_words ≤ length words → k + 1 < page_words → j < page_words
    → slice_index (with_two_words (page_of words page) k first second) j
    ≡ word_at (with_two_words words (page_words * page + k) first second) (page_words * page + j)
word_of_page words page k j first second inside below near =
    let long = length-page_of words page inside in
    elim (cases_eq j k) [
      | inl same ↦ rw same (first_of_two _ k first second (omega arith) ∙ sym (first_of_two words _ first second (omega arith)))
      | inr apart ↦ elim (cases_eq j (k + 1)) [
        | inl same ↦ (
            let there : page_words * page + (k + 1) ≡ page_words * page + k + 1 = omega arith in
            rw (same, there) (second_of_two _ k first second (omega arith) ∙ sym (second_of_two words _ first second (omega arith))))
        | inr apart' ↦
            word_beside_two _ k j first second apart apart' ∙ page_word words page j near ∙ sym (word_beside_two words _ _ first second (λ same. apart (omega arith)) (λ same. apart' (omega arith)))
      ]
    ]

-- a page set to its words with these two is flash with these two
pub two_in_page : (words : List ℕ) (page k first second : ℕ) → page_words * page + page_words ≤ length words → k + 1 < page_words
    → set_page words page (with_two_words (page_of words page) k first second) ≡ with_two_words words (page_words * page + k) first second
two_in_page words page k first second inside below =
    let new = with_two_words (page_of words page) k first second in
    let s = page_words * page + k in
    let long : length new ≡ page_words = length-with_two_words (page_of words page) k first second ∙ length-page_of words page inside in
    same_number_lists _ _ (length-set_page words new page long inside ∙ sym (length-with_two_words words s first second)) (λ i within.
    elim (cases_lt i (page_words * page)) [
      | inl low ↦ word_out_of_page words new page i long inside (inl low) ∙ sym (word_beside_two words s i first second (λ same. omega arith) (λ same. omega arith))
      | inr from ↦ elim (cases_lt i (page_words * page + page_words)) [
        | inr high ↦ word_out_of_page words new page i long inside (inr high) ∙ sym (word_beside_two words s i first second (λ same. omega arith) (λ same. omega arith))
        | inl to ↦ (
            let Word : ℕ → Type 0 = λ b. slice_index new (i - page_words * page) ≡ word_at (with_two_words words s first second) b in
            word_in_page words new page i long inside from to ∙ subst Word (omega arith) (word_of_page words page k (i - page_words * page) first second inside below (omega arith)))
      ]
    ])
