-- A list of words as its first word and the later ones.
use Rattle.std.proofs.Common.{◌≡◌, ℕ, suc, ◌-◌, ◌≤◌, List, [], ◌∷◌, length, map, take, drop, String, Global, string_bytes, arith, sym, ap, ap₂, ◌∙◌}
use Rattle.std.specs.Prelude.{slice_index_or}
use Rattle.std.proofs.lemmas.List.{take_all}

first_later : (words : List (String Global)) (first : String Global) → 1 ≤ length words → first ≡ slice_index_or words 0 first → words ≡ first ∷ take (length words - 1) (drop 1 words)
first_later [] first some is = absurd (omega arith)
first_later (word ∷ words) first some is = ap₂ (λ w ws. w ∷ ws) (sym is) (sym (take_all (suc (length words) - 1) words (omega arith)))

-- the same of their texts
pub first_bytes : (words : List (String Global)) (first : String Global) (text : List ℕ) → 1 ≤ length words → first ≡ slice_index_or words 0 first → text ≡ string_bytes first
    → map string_bytes words ≡ text ∷ map string_bytes (take (length words - 1) (drop 1 words))
first_bytes words first text some is same =
    ap (map string_bytes) (first_later words first some is)
    ∙ ap (λ word. word ∷ map string_bytes (take (length words - 1) (drop 1 words))) (sym same)
