-- A text cut at the first position of a byte.
use Rattle.std.proofs.Common.{◌≡◌, ℕ, zero, suc, ◌+◌, ◌<◌, ◌≤◌, Bool, true, false, eqb, List, [], ◌∷◌, ◌++◌, length, get_or, take, drop, arith, ap, ◌∙◌, sym, Some, None, inl, inr}
use Rattle.std.specs.Prelude.{◌≢◌, position}
use Rattle.std.specs.List.{position_or_len}
use Rattle.std.proofs.lemmas.List.Sums.{fails_before_first}
use Rattle.std.proofs.lemmas.List.Quantifiers.{position-Some}
use Rattle.std.proofs.lemmas.List.{take-append-drop, drop_more}
use Rattle.std.proofs.lemmas.Bool.{cases_lt}
use Rattle.std.proofs.lemmas.Bool.Decides.{nat_tests}
use Rattle.text_lines.specs.Cutting.{Lacks}

unlike : (b byte : ℕ) → eqb b byte ≡ false → b ≢ byte
unlike b byte differs same = grind (arith, nat_tests)

like : (b byte : ℕ) → eqb b byte ≡ true → b ≡ byte
like b byte equals = grind (arith, nat_tests)

-- the front of a text lacks a byte that stands at none of its positions
lacks_front : (byte : ℕ) (text : List ℕ) (i : ℕ) → ((k : ℕ) → k < i → eqb (get_or text k 0) byte ≡ false) → Lacks byte (take i text)
lacks_front byte [] zero none = tt
lacks_front byte [] (suc i) none = tt
lacks_front byte (b ∷ text) zero none = tt
lacks_front byte (b ∷ text) (suc i) none = (unlike b byte (none 0 (omega arith)), lacks_front byte text i (λ k below. none (suc k) (omega arith)))

lacks_all : (byte : ℕ) (text : List ℕ) → ((k : ℕ) → k < length text → eqb (get_or text k 0) byte ≡ false) → Lacks byte text
lacks_all byte [] none = tt
lacks_all byte (b ∷ text) none = (unlike b byte (none 0 (omega arith)), lacks_all byte text (λ k below. none (suc k) (omega arith)))

-- a byte that is nowhere
pub lacks_unplaced : (byte : ℕ) (text : List ℕ) → position (λ b. eqb b byte) text ≡ None → Lacks byte text
lacks_unplaced byte text nowhere =
    let p : ℕ → Bool = λ b. eqb b byte in
    let far : length text ≤ position_or_len p text = elim (cases_lt (position_or_len p text) (length text)) [
      | inl near ↦ grind (arith, nat_tests)
      | inr beyond ↦ beyond
    ] in
    lacks_all byte text (λ k below. fails_before_first p text k 0 (omega arith))

-- a byte at its first position
pub lacks_placed : (byte : ℕ) (text : List ℕ) (i : ℕ) → position (λ b. eqb b byte) text ≡ Some i → Lacks byte (take i text)
lacks_placed byte text i here =
    let facts = position-Some (λ b. eqb b byte) text i 0 here in
    lacks_front byte text i facts.2

pub cut_placed : (byte : ℕ) (text : List ℕ) (i : ℕ) → position (λ b. eqb b byte) text ≡ Some i → text ≡ take i text ++ byte ∷ drop (i + 1) text
cut_placed byte text i here =
    let facts = position-Some (λ b. eqb b byte) text i 0 here in
    sym (take-append-drop i text) ∙ ap (λ rest. take i text ++ rest) (drop_more text i 0 facts.0 ∙ ap (λ b. b ∷ drop (i + 1) text) (like (get_or text i 0) byte facts.1))
