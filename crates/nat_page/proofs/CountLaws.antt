-- How many pages are used.
use Rattle.std.proofs.Common.{◌≡◌, ℕ, suc, ◌+◌, ◌*◌, true, false, cond, eqb, List, arith, refl, sym, ap, ◌∙◌}
use Rattle.std.specs.Prelude.{◌≢◌, not}
use Rattle.std.proofs.lemmas.Bool.Decides.{nat_tests}
use Rattle.std.proofs.lemmas.Bool.{ne_eqb}
use Rattle.flash_words.specs.Pages.{word_at}
use Rattle.nat_page.specs.Used.{is_used, used_among}

pub none_used : (words : List ℕ) (first : ℕ) → 0 ≡ used_among words first 0
unfolding used_among
none_used words first = refl

used_more : (words : List ℕ) (first n : ℕ) → used_among words first (n + 1) ≡ cond (is_used words (first + n)) 1 0 + used_among words first n
unfolding used_among
used_more words first n = let one : n + 1 ≡ suc n = omega arith in ap (used_among words first) one

like : (a b : ℕ) → a ≡ b → eqb a b ≡ true
like a b same = grind (arith, nat_tests)

pub one_more : (words : List ℕ) (first n w : ℕ) → w ≡ word_at words (128 * (first + n)) → w ≢ 0xFFFF → used_among words first (n + 1) ≡ used_among words first n + 1
one_more words first n w is apart =
    let yes' : is_used words (first + n) ≡ true = ap (λ v. not (eqb v 0xFFFF)) (ap (word_at words) (omega arith) ∙ sym is) ∙ ap not (ne_eqb w 0xFFFF apart) in
    used_more words first n ∙ ap (λ b. cond b 1 0 + used_among words first n) yes' ∙ omega arith

pub no_more : (words : List ℕ) (first n w : ℕ) → w ≡ word_at words (128 * (first + n)) → w ≡ 0xFFFF → used_among words first (n + 1) ≡ used_among words first n
no_more words first n w is same =
    let not_so : is_used words (first + n) ≡ false = ap (λ v. not (eqb v 0xFFFF)) (ap (word_at words) (omega arith) ∙ sym is) ∙ ap not (like w 0xFFFF same) in
    used_more words first n ∙ ap (λ b. cond b 1 0 + used_among words first n) not_so ∙ omega arith
