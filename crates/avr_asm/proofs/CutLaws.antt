-- Parts of a line.
use Rattle.std.proofs.Common.{◌≡◌, ℕ, ◌+◌, ◌-◌, ◌≤◌, get_or, drop, Bool, true, false, cond, eqb, List, [], ◌∷◌, ◌++◌, length, take, arith, ap, refl, sym, ◌∙◌}
use Rattle.std.specs.Prelude.{◌&&◌}
use Rattle.std.specs.List.{list_all, list_any}
use Rattle.std.proofs.lemmas.List.{take-append-drop, drop_more, drop_all}
use Rattle.std.proofs.lemmas.List.Folds.{list_all-append}
use Rattle.std.proofs.lemmas.Bool.{and_right, eq-eqb, ne_eqb}
use Rattle.text_lines.specs.Cutting.{Lacks}
use Rattle.avr_asm.specs.Cuts.{is_blank, before, behind, skip_end, front_word, behind_word}

-- a text in which a byte doesn't stand
pub before_lacking : (byte : ℕ) (text : List ℕ) → Lacks byte text → before byte text ≡ text
before_lacking byte [] lacks = refl
before_lacking byte (b ∷ text) lacks = rw (ne_eqb b byte lacks.0) (ap (λ rest. b ∷ rest) (before_lacking byte text lacks.1))

-- a text that is cut at a byte's first position
pub before_cut : (byte : ℕ) (front rest : List ℕ) → Lacks byte front → before byte (front ++ byte ∷ rest) ≡ front
before_cut byte [] rest lacks = rw (eq-eqb byte byte refl) refl
before_cut byte (b ∷ front) rest lacks = rw (ne_eqb b byte lacks.0) (ap (λ back. b ∷ back) (before_cut byte front rest lacks.1))

and_true : (x : Bool) → (x && true) ≡ x
and_true true = refl
and_true false = refl

-- a text with one more byte at its end: it is all blank where both are
pub skip_blank_end : (text : List ℕ) (b : ℕ) → is_blank b ≡ true → skip_end (text ++ b ∷ []) ≡ skip_end text
skip_blank_end [] b blank = rw blank refl
skip_blank_end (first ∷ text) b blank = rw (list_all-append is_blank text (b ∷ []), blank, and_true (list_all is_blank text), skip_blank_end text b blank) refl

pub keep_end : (text : List ℕ) (b : ℕ) → is_blank b ≡ false → skip_end (text ++ b ∷ []) ≡ text ++ b ∷ []
keep_end [] b shown = rw shown refl
keep_end (first ∷ text) b shown = rw (list_all-append is_blank text (b ∷ []), shown, and_right (list_all is_blank text) false refl, and_right (is_blank first) false refl, keep_end text b shown) refl

-- a text and its last byte
last_off : (text : List ℕ) → 1 ≤ length text → text ≡ take (length text - 1) text ++ get_or text (length text - 1) 0 ∷ []
last_off text some =
    let n = length text - 1 in
    let end : drop (n + 1) text ≡ [] = drop_all (n + 1) text (omega arith) in
    sym (take-append-drop n text) ∙ ap (λ back. take n text ++ back) (drop_more text n 0 (omega arith) ∙ ap (λ back. get_or text n 0 ∷ back) end)

pub skip_blank_last : (text : List ℕ) → 1 ≤ length text → is_blank (get_or text (length text - 1) 0) ≡ true → skip_end (take (length text - 1) text) ≡ skip_end text
skip_blank_last text some blank = sym (ap skip_end (last_off text some) ∙ skip_blank_end (take (length text - 1) text) _ blank)

pub keep_last : (text : List ℕ) → 1 ≤ length text → is_blank (get_or text (length text - 1) 0) ≡ false → text ≡ skip_end text
keep_last text some shown = sym (ap skip_end (last_off text some) ∙ keep_end (take (length text - 1) text) _ shown ∙ sym (last_off text some))

-- the first word of a text
word_take : (blank : Bool) (b : ℕ) (text : List ℕ) → take (length (front_word text)) text ≡ front_word text
    → take (length (cond blank [] (b ∷ front_word text))) (b ∷ text) ≡ cond blank [] (b ∷ front_word text)
word_take true b text rest = refl
word_take false b text rest = ap (λ t. b ∷ t) rest

pub taken_word : (text : List ℕ) → take (length (front_word text)) text ≡ front_word text
taken_word [] = refl
taken_word (b ∷ text) = word_take (is_blank b) b text (taken_word text)

word_drop : (blank : Bool) (b : ℕ) (text : List ℕ) → drop (length (front_word text)) text ≡ behind_word text
    → drop (length (cond blank [] (b ∷ front_word text))) (b ∷ text) ≡ cond blank (b ∷ text) (behind_word text)
word_drop true b text rest = refl
word_drop false b text rest = rest

pub dropped_word : (text : List ℕ) → drop (length (front_word text)) text ≡ behind_word text
dropped_word [] = refl
dropped_word (b ∷ text) = word_drop (is_blank b) b text (dropped_word text)

-- a byte's first position cuts a text
pub behind_cut : (byte : ℕ) (front rest : List ℕ) → Lacks byte front → behind byte (front ++ byte ∷ rest) ≡ rest
behind_cut byte [] rest lacks = rw (eq-eqb byte byte refl) refl
behind_cut byte (b ∷ front) rest lacks = rw (ne_eqb b byte lacks.0) (behind_cut byte front rest lacks.1)

pub some_cut : (byte : ℕ) (front rest : List ℕ) → Lacks byte front → list_any (λ b. eqb b byte) (front ++ byte ∷ rest) ≡ true
some_cut byte [] rest lacks = rw (eq-eqb byte byte refl) refl
some_cut byte (b ∷ front) rest lacks = rw (ne_eqb b byte lacks.0) (some_cut byte front rest lacks.1)

pub none_lacking : (byte : ℕ) (text : List ℕ) → Lacks byte text → list_any (λ b. eqb b byte) text ≡ false
none_lacking byte [] lacks = refl
none_lacking byte (b ∷ text) lacks = rw (ne_eqb b byte lacks.0) (none_lacking byte text lacks.1)
