-- A page all of whose words are erased.
use Rattle.std.proofs.Common.{◌≡◌, ℕ, zero, suc, ◌==◌, true, List, [], ◌∷◌, length, refl, ap, ap₂, ◌∙◌}
use Rattle.std.specs.Prelude.{◌↔◌}
use Rattle.std.proofs.lemmas.Bool.{and_parts, eqb-true}
use Rattle.base.specs.Lists.{many}
use Rattle.flash_words.specs.Pages.{blank}
use Rattle.flash_dump.specs.WrittenDumps.{is_erased}

pub all_erased : (words : List ℕ) → is_erased words ≡ true → words ≡ many (length words) 0xFFFF
unfolding many
all_erased [] all = refl
all_erased (w ∷ words) all =
    let two = and_parts (w == 0xFFFF) (is_erased words) all in
    ap₂ (λ x xs. x ∷ xs) (eqb-true _ _ two.0) (all_erased words two.1)

pub erased_all : (n : ℕ) → is_erased (many n 0xFFFF) ≡ true
unfolding many
erased_all zero = refl
erased_all (suc n) = erased_all n

pub all_are_blank : (words : List ℕ) → length words ≡ 128 → (is_erased words ≡ true) ↔ (words ≡ blank)
unfolding blank
all_are_blank words size = (λ all. all_erased words all ∙ ap (λ n. many n 0xFFFF) size, λ is. ap is_erased is ∙ erased_all 128)
