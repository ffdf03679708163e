-- Pieces in a row: how many words they have, and where the words of each stand.
use Rattle.std.proofs.Common.{◌≡◌, ℕ, zero, suc, ◌+◌, ◌<◌, List, [], ◌∷◌, ◌++◌, length, get_or, map, arith, refl, sym, ap, ◌∙◌, inl, inr, subst}
use Rattle.std.proofs.lemmas.List.{length-append}
use Rattle.std.proofs.lemmas.List.Concat.{flat_map-append}
use Rattle.flash_words.specs.Pages.{word_at}
use Rattle.nat_template.specs.declared.piece.Piece.{Piece}
use Rattle.nat_template.specs.declared.piece.Piece.TheVariants.{Fixed, Link}
use Rattle.nat_template.specs.Stubs.{words_of, words_of_piece}
use Rattle.page_draft.specs.Standing.{IsLink, StandsAt, width, size, Stands}

pub words_of-append : (front back : List Piece) → words_of (front ++ back) ≡ words_of front ++ words_of back
words_of-append front back = flat_map-append words_of_piece front back

pub size-append : (front back : List Piece) → size (front ++ back) ≡ size front + size back
size-append front back = ap length (words_of-append front back) ∙ length-append (words_of front) (words_of back)

pub size-cons : (piece : Piece) (pieces : List Piece) → size (piece ∷ pieces) ≡ width piece + size pieces
size-cons (Fixed word) pieces = omega arith
size-cons (Link t) pieces = omega arith

pub words_of-fixed : (words : List ℕ) → words_of (map Fixed words) ≡ words
words_of-fixed [] = refl
words_of-fixed (word ∷ words) = ap (λ rest. word ∷ rest) (words_of-fixed words)

pub size-fixed : (words : List ℕ) → size (map Fixed words) ≡ length words
size-fixed words = ap length (words_of-fixed words)

module _ (leads : ℕ → ℕ → Type 0) (words : List ℕ) where
  -- pieces that stand in a row, as two rows, and two rows as one
  pub stands_split : (a : ℕ) (front back : List Piece) → Stands leads words a (front ++ back) → Stands leads words a front × Stands leads words (a + size front) back
  stands_split a [] back all = (tt, let P : ℕ → Type 0 = λ b. Stands leads words b back in subst P (omega arith) all)
  stands_split a (piece ∷ front) back all =
      let rest = stands_split (a + width piece) front back all.1 in
      let P : ℕ → Type 0 = λ b. Stands leads words b back in
      ((all.0, rest.0), subst P (omega (arith, size-cons piece front)) rest.1)

  pub stands_join : (a : ℕ) (front back : List Piece) → Stands leads words a front → Stands leads words (a + size front) back → Stands leads words a (front ++ back)
  stands_join a [] back first second = let P : ℕ → Type 0 = λ b. Stands leads words b back in subst P (omega arith) second
  stands_join a (piece ∷ front) back first second =
      let P : ℕ → Type 0 = λ b. Stands leads words b back in
      (first.0, stands_join (a + width piece) front back first.1 (subst P (omega (arith, size-cons piece front)) second))

  -- the words of fixed pieces
  pub stands_fixed : (fixed : List ℕ) (a k : ℕ) → Stands leads words a (map Fixed fixed) → k < length fixed → word_at words (a + k) ≡ get_or fixed k 0
  stands_fixed [] a k all below = absurd (omega arith)
  stands_fixed (word ∷ fixed) a zero all below = ap (word_at words) (omega arith) ∙ all.0
  stands_fixed (word ∷ fixed) a (suc k) all below = ap (word_at words) (omega arith) ∙ stands_fixed fixed (a + 1) k all.1 (omega arith)

  -- words that are those of the pieces, with no link resolved
  pub stands_unresolved : (a : ℕ) (pieces : List Piece) → ((k : ℕ) → k < size pieces → word_at words (a + k) ≡ get_or (words_of pieces) k 0) → Stands leads words a pieces
  stands_unresolved a [] agree = tt
  stands_unresolved a (Fixed word ∷ pieces) agree =
      let here : a + 0 ≡ a = omega arith in (
        ap (word_at words) (sym here) ∙ agree 0 (omega arith),
        stands_unresolved (a + 1) pieces (λ k below.
            ap (word_at words) (omega arith) ∙ agree (suc k) (omega arith)),
      )
  stands_unresolved a (Link t ∷ pieces) agree =
      let target = agree 2 (omega arith) in (
        (inl (ap (word_at words) (omega arith) ∙ agree 0 (omega arith), agree 1 (omega arith)), target),
        stands_unresolved (a + 3) pieces (λ k below.
            ap (word_at words) (omega arith) ∙ agree (suc (suc (suc k))) (omega arith)),
      )

-- the same words, where links may lead to no less
link_same : (leads leads' : ℕ → ℕ → Type 0) (first second first' second' t : ℕ) → ((t v : ℕ) → leads t v → leads' t v) → first' ≡ first → second' ≡ second → IsLink leads first second t
    → IsLink leads' first' second' t
link_same leads leads' first second first' second' t more same same' link = elim link [
  | inl bridge ↦ inl (same ∙ bridge.0, same' ∙ bridge.1)
  | inr jump ↦ inr (same ∙ jump.0, (let P : ℕ → Type 0 = λ v. leads' t v in subst P (sym same') (more t second jump.1)))
]

stands_at_same : (leads leads' : ℕ → ℕ → Type 0) (words words' : List ℕ) (a : ℕ) (piece : Piece) → ((t v : ℕ) → leads t v → leads' t v)
    → ((k : ℕ) → k < width piece → word_at words' (a + k) ≡ word_at words (a + k)) → StandsAt leads words a piece → StandsAt leads' words' a piece
stands_at_same leads leads' words words' a (Fixed word) more agree stands =
    let here : a ≡ a + 0 = omega arith in
    ap (word_at words') here ∙ agree 0 (omega arith) ∙ ap (word_at words) (sym here) ∙ stands
stands_at_same leads leads' words words' a (Link t) more agree stands =
    let here : a ≡ a + 0 = omega arith in
    (link_same leads leads' _ _ _ _ t more (ap (word_at words') here ∙ agree 0 (omega arith) ∙ ap (word_at words) (sym here)) (agree 1 (omega arith)) stands.0, agree 2 (omega arith) ∙ stands.1)

pub stands_same : (leads leads' : ℕ → ℕ → Type 0) (words words' : List ℕ) (a : ℕ) (pieces : List Piece) → ((t v : ℕ) → leads t v → leads' t v)
    → ((k : ℕ) → k < size pieces → word_at words' (a + k) ≡ word_at words (a + k)) → Stands leads words a pieces → Stands leads' words' a pieces
stands_same leads leads' words words' a [] more agree stands = tt
stands_same leads leads' words words' a (piece ∷ pieces) more agree stands =
    let long = size-cons piece pieces in (
      stands_at_same leads leads' words words' a piece more (λ k below. agree k (omega arith)) stands.0,
      stands_same leads leads' words words' (a + width piece) pieces more (λ k below.
          let there : a + width piece + k ≡ a + (width piece + k) = omega arith in
          ap (word_at words') there ∙ agree (width piece + k) (omega arith) ∙ ap (word_at words) (sym there)) stands.1,
    )
