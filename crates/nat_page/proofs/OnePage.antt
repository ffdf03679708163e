-- The page that is made is determined: its run stops where it must, and nowhere before.
use Rattle.std.proofs.Common.{◌≡◌, ℕ, suc, ◌+◌, ◌*◌, ◌<◌, ◌≤◌, List, arith, sym, ap, ◌∙◌, inl, inr}
use Rattle.std.proofs.lemmas.Bool.{cases_order}
use Rattle.flash_words.specs.Pages.{page_words}
use Rattle.flash_words.specs.declared.layout.Layout.{Layout}
use Rattle.page_draft.specs.Runs.{address, IsRun}
use Rattle.page_draft.specs.CodePages.{page_size, place_in_page, made_words}
use Rattle.nat_page.specs.Making.{HasNoEntry, PageStops, IsPrepared}
use Rattle.page_draft.proofs.RunLaws.{page_size-rises}

-- a run that goes on behind an instruction doesn't stop there
goes_on : (layout : Layout) (image words : List ℕ) (page t last further : ℕ) → IsRun image t further → ((i : ℕ) → i ≤ further → HasNoEntry layout words (address image t i))
    → page_size image t further ≤ page_words → last < further → PageStops layout image words page t last → ⊥
goes_on layout image words page t last further run unknown fits below (PageStops.Ends ends) =
    let on = run.goes_on last below in cc
goes_on layout image words page t last further run unknown fits below (PageStops.Leaves leaves) = leaves (run.paged (suc last) (omega arith))
goes_on layout image words page t last further run unknown fits below (PageStops.Outside outside) = omega (arith, run.inside (suc last) (omega arith))
goes_on layout image words page t last further run unknown fits below (PageStops.Known other i v pool apart lists) =
    unknown (suc last) (omega arith) v (record { page = other; index = i; pool = pool; lists = lists })
goes_on layout image words page t last further run unknown fits below (PageStops.Full full) =
    omega (arith, page_size-rises image t (suc last) further run (omega arith))

module _ (layout : Layout) (image old : List ℕ) (page t : ℕ) (words words' : List ℕ) (place place' : ℕ) (one : IsPrepared layout image old page t words place)
    (other : IsPrepared layout image old page t words' place') where
  one_last : one.last ≡ other.last
  one_last = elim (cases_order one.last other.last) [
    | inl same ↦ same
    | inr (inl shorter) ↦ absurd (goes_on layout image old page t one.last other.last other.run other.unknown other.fits shorter one.stops)
    | inr (inr longer) ↦ absurd (goes_on layout image old page t other.last one.last one.run one.unknown one.fits longer other.stops)
  ]

  pub one_page : (words ≡ words') × (place ≡ place')
  one_page =
      let same = one_last in
      (one.is ∙ ap (made_words image t) same ∙ sym other.is, one.placed ∙ ap (λ last. page_words * page + place_in_page image t (suc last) 0) same ∙ sym other.placed)
