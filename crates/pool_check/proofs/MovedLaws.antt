-- A page that holds a run holds it wherever its words stand.
use Rattle.std.proofs.Common.{◌≡◌, ℕ, ◌+◌, ◌*◌, ◌<◌, List, [], ◌∷◌, arith, sym, ap, ◌∙◌, inl, inr, ⊎_elim}
use Rattle.flash_words.specs.Pages.{page_words, word_at, page_of}
use Rattle.flash_words.proofs.PageLaws.{page_word}
use Rattle.nat_template.specs.declared.piece.Piece.{Piece}
use Rattle.nat_template.specs.declared.piece.Piece.TheVariants.{Fixed, Link}
use Rattle.page_draft.specs.Standing.{IsLink, Stands, jump_word, size}
use Rattle.page_draft.specs.CodePages.{page_pieces, HoldsRun, Anywhere}
use Rattle.nat_page.specs.Links.{EachLink}

-- pieces that stand at one word address, at another with the same words
pub shift : (words words' : List ℕ) (a a' n k : ℕ) → ((j : ℕ) → j < n + k → word_at words' (a' + j) ≡ word_at words (a + j)) → (j : ℕ) → j < k → word_at words' (a' + n + j) ≡ word_at words (a + n + j)
shift words words' a a' n k agree j below = ap (word_at words') (omega arith) ∙ agree (n + j) (omega arith) ∙ ap (word_at words) (omega arith)

pub at_first : (words words' : List ℕ) (a a' n : ℕ) → ((j : ℕ) → j < n → word_at words' (a' + j) ≡ word_at words (a + j)) → 0 < n → word_at words' a' ≡ word_at words a
at_first words words' a a' n agree some = ap (word_at words') (omega arith) ∙ agree 0 some ∙ ap (word_at words) (omega arith)

pub stands_moved : (words words' : List ℕ) (a a' : ℕ) (pieces : List Piece) → ((k : ℕ) → k < size pieces → word_at words' (a' + k) ≡ word_at words (a + k)) → Stands Anywhere words a pieces
    → Stands Anywhere words' a' pieces
stands_moved words words' a a' [] agree stands = tt
stands_moved words words' a a' (Fixed word ∷ pieces) agree stands = (
  at_first words words' a a' (size (Fixed word ∷ pieces)) agree (omega arith)
      ∙ stands.0,
  stands_moved words words' (a + 1) (a' + 1) pieces (shift words words' a a' 1 (size pieces) (λ j below. agree j (omega arith))) stands.1,
)
stands_moved words words' a a' (Link t ∷ pieces) agree stands =
    let first = at_first words words' a a' (size (Link t ∷ pieces)) agree (omega arith) in
    let link : IsLink Anywhere (word_at words' a') (word_at words' (a' + 1)) t = elim stands.0.0 [
      | inl bridge ↦ inl (first ∙ bridge.0, agree 1 (omega arith) ∙ bridge.1)
      | inr jump ↦ inr (first ∙ jump.0, tt)
    ] in
    ((link, agree 2 (omega arith) ∙ stands.0.1), stands_moved words words' (a + 3) (a' + 3) pieces (shift words words' a a' 3 (size pieces) (λ j below. agree j (omega arith))) stands.1)

pub holds_moved : (image words words' : List ℕ) (page page' t last : ℕ) → ((k : ℕ) → k < page_words → word_at words' (page_words * page' + k) ≡ word_at words (page_words * page + k))
    → HoldsRun Anywhere image words page t last → HoldsRun Anywhere image words' page' t last
holds_moved image words words' page page' t last agree holds =
    let fits = holds.fits in
    record {
      run = holds.run;
      fits = fits;
      stands = stands_moved words words' (page_words * page) (page_words * page') (page_pieces image t last) (λ k below. agree k (omega arith)) holds.stands;
      rest = λ k behind below. agree k below ∙ holds.rest k behind below;
    }

-- a page of flash, by itself
in_page : (words : List ℕ) (page k : ℕ) → k < page_words → word_at (page_of words page) (page_words * 0 + k) ≡ word_at words (page_words * page + k)
in_page words page k below = ap (word_at (page_of words page)) (omega arith) ∙ page_word words page k below

pub holds_alone : (image words : List ℕ) (page t last : ℕ) → HoldsRun Anywhere image words page t last → HoldsRun Anywhere image (page_of words page) 0 t last
holds_alone image words page t last holds = holds_moved image words (page_of words page) page 0 t last (in_page words page) holds

pub holds_in_flash : (image words : List ℕ) (page t last : ℕ) → HoldsRun Anywhere image (page_of words page) 0 t last → HoldsRun Anywhere image words page t last
holds_in_flash image words page t last holds = holds_moved image (page_of words page) words 0 page t last (λ k below. sym (in_page words page k below)) holds

-- where each jump in a link leads there, the pieces stand with links that lead there, and back
pub stands_leading : (leads : ℕ → ℕ → Type 0) (words : List ℕ) (a : ℕ) (pieces : List Piece) → Stands Anywhere words a pieces
    → EachLink (λ s t. word_at words s ≡ jump_word → leads t (word_at words (s + 1))) a pieces → Stands leads words a pieces
stands_leading leads words a [] stands lead = tt
stands_leading leads words a (Fixed word ∷ pieces) stands lead = (stands.0, stands_leading leads words (a + 1) pieces stands.1 lead)
stands_leading leads words a (Link t ∷ pieces) stands lead =
    let link : IsLink leads (word_at words a) (word_at words (a + 1)) t = ⊎_elim inl (λ jump. inr (jump.0, lead.0 jump.0)) stands.0.0 in
    ((link, stands.0.1), stands_leading leads words (a + 3) pieces stands.1 lead.1)
