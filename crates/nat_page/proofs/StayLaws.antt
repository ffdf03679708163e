-- A page that holds a run, where flash changes: its run is determined, and stays where its words stay.
use Rattle.std.proofs.Common.{◌≡◌, ℕ, ◌*◌, ◌/◌, ◌<◌, ◌≤◌, List, length, arith, refl, sym, ◌∙◌}
use Rattle.flash_words.specs.Pages.{page_words}
use Rattle.flash_words.specs.Layouts.{most_image_words}
use Rattle.page_index.specs.Maps.{IsFree, page_word}
use Rattle.page_index.proofs.MapLaws.{free_word}
use Rattle.page_index.proofs.ChangeLaws.{SamePage}
use Rattle.page_draft.specs.CodePages.{page_pieces, HoldsRun}
use Rattle.page_draft.proofs.PieceLaws.{stands_same}
use Rattle.nat_page.proofs.HeldLaws.{original_held, count_held, address_held}

-- a page that holds a run isn't free
pub held_used : (leads : ℕ → ℕ → Type 0) (image words : List ℕ) (page t last : ℕ) → length image ≤ most_image_words → HoldsRun leads image words page t last → IsFree words page → ⊥
held_used leads image words page t last short holds free =
    let first : page_word words page 0 ≡ 0xFFFF = free_word words page 0 (omega arith) free in
    let original : page_word words page 0 ≡ t / page_words = original_held leads image words page t last holds in
    let begins : t < length image = holds.run.inside 0 (omega arith) in
    omega arith

module _ (leads leads' : ℕ → ℕ → Type 0) (image words : List ℕ) where
  -- a page holds one run at most
  pub same_run : (page t last t' last' : ℕ) → HoldsRun leads image words page t last → HoldsRun leads' image words page t' last' → (t ≡ t') × (last ≡ last')
  same_run page t last t' last' holds holds' =
      let count = count_held leads image words page t last holds in
      let count' = count_held leads' image words page t' last' holds' in
      (sym (address_held leads image words page t last 0 holds (omega arith)) ∙ address_held leads' image words page t' last' 0 holds' (omega arith), omega arith)

  -- a page holds its run where its words stay and links may lead to no less
  pub holds_alike : (words' : List ℕ) (page t last : ℕ) → ((a v : ℕ) → leads a v → leads' a v) → SamePage words words' page → HoldsRun leads image words page t last
      → HoldsRun leads' image words' page t last
  holds_alike words' page t last more same holds = record {
    run = holds.run;
    fits = holds.fits;
    stands = stands_same leads leads' words words' (page_words * page) (page_pieces image t last) more (λ k below. sym (same.word k (omega (arith, holds.fits)))) holds.stands;
    rest = λ k behind below. sym (same.word k below) ∙ holds.rest k behind below;
  }

  pub holds_more : (page t last : ℕ) → ((a v : ℕ) → leads a v → leads' a v) → HoldsRun leads image words page t last → HoldsRun leads' image words page t last
  holds_more page t last more holds = holds_alike words page t last more (record { word = λ k below. refl }) holds
