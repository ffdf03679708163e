-- A page that is drafted may be made in each page of the pool that is free.
use Rattle.std.proofs.Common.{◌≡◌, ℕ, suc, ◌+◌, ◌*◌, ◌/◌, List, arith, sym, ◌∙◌}
use Rattle.flash_words.specs.Pages.{page_words}
use Rattle.flash_words.specs.declared.layout.Layout.{Layout}
use Rattle.page_index.specs.Maps.{IsFree}
use Rattle.page_index.proofs.MapLaws.{free_lists_nothing}
use Rattle.page_draft.specs.Standing.{size}
use Rattle.page_draft.specs.Runs.{address, templates}
use Rattle.page_draft.proofs.RunLaws.{size-templates, page_size-is}
use Rattle.nat_page.specs.declared.drafting.DraftedPage.{DraftedPage}
use Rattle.nat_page.specs.Making.{PageStops, IsPrepared}
use Rattle.nat_page.specs.Drafted.{StopsBehind, IsDraftedPage}

-- why the run stops, once its page is chosen
pub stops_of : (layout : Layout) (image words : List ℕ) (page t last : ℕ) → IsFree words page → address image t last / page_words ≡ t / page_words
    → StopsBehind layout image words (address image t last) (last + 3 + size (templates image t (suc last))) → PageStops layout image words page t last
stops_of layout image words page t last free paged (StopsBehind.Ends ends) = PageStops.Ends ends
stops_of layout image words page t last free paged (StopsBehind.Leaves leaves) = PageStops.Leaves (λ same. leaves (same ∙ sym paged))
stops_of layout image words page t last free paged (StopsBehind.Outside outside) = PageStops.Outside outside
stops_of layout image words page t last free paged (StopsBehind.Known v entry) =
    PageStops.Known entry.page entry.index v entry.pool (λ same.
    free_lists_nothing words entry.page entry.index _ v (rw same free) entry.lists) entry.lists
stops_of layout image words page t last free paged (StopsBehind.Full full) =
    PageStops.Full (omega (arith, size-templates image t (suc last), page_size-is image t (suc last)))

-- the page, once that is chosen
pub prepared_of : (layout : Layout) (image words : List ℕ) (page t : ℕ) (draft : DraftedPage) → IsFree words page → IsDraftedPage layout image words t draft
    → IsPrepared layout image words page t draft.words (page_words * page + draft.front)
prepared_of layout image words page t draft free drafted =
    let last = drafted.index in
    record {
      last = last;
      run = drafted.begun.run;
      unknown = drafted.begun.unknown;
      fits = drafted.begun.fits;
      stops = stops_of layout image words page t last free (drafted.begun.run.paged last (omega arith)) drafted.stops;
      is = drafted.is;
      placed = omega (arith, drafted.front);
    }
