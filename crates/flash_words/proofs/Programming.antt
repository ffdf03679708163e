-- Programming an erased page.
use Rattle.std.proofs.Common.{◌≡◌, ℕ, zero, suc, ◌^◌, ◌<◌, List, [], ◌∷◌, length, get_or, arith, ap₂, ◌∙◌, refl}
use Rattle.std.specs.Prelude.{bit_and, replicate}
use Rattle.std.proofs.Common.{mod-eq_of_lt}
use Rattle.std.proofs.lemmas.Grind.{numeral_and}
use Rattle.flash_words.specs.Pages.{blank, programmed}
use Rattle.base.specs.Lists.{many}

-- a word of an erased page takes the new word
and-erased : (w : ℕ) → w < 2 ^ 16 → bit_and 0xFFFF w ≡ w
and-erased w fits = numeral_and 65534 w refl ∙ mod-eq_of_lt fits

programmed-replicate : (n : ℕ) (words : List ℕ) → length words ≡ n → ((k : ℕ) → k < n → get_or words k 0 < 2 ^ 16) → programmed (replicate n 0xFFFF) words ≡ words
programmed-replicate zero [] lengths fit = refl
programmed-replicate zero (w ∷ words) lengths fit = absurd (omega arith)
programmed-replicate (suc n) [] lengths fit = refl
programmed-replicate (suc n) (w ∷ words) lengths fit =
    ap₂ (λ x xs. x ∷ xs) (and-erased w (fit 0 (omega arith))) (programmed-replicate n words (omega arith) (λ k below. fit (suc k) (omega arith)))

pub programmed-blank : (words : List ℕ) → length words ≡ 128 → ((k : ℕ) → k < 128 → get_or words k 0 < 2 ^ 16) → programmed blank words ≡ words
unfolding blank many
programmed-blank words lengths fit = programmed-replicate 128 words lengths fit
