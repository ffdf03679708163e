-- Serves private functions and the contracts of `Places::find` and `find_with_hints`: what a page for the addresses of one original page
-- wants to know of the pool (docs/LOADER.md, "An arrival").
use Rattle.std.specs.Prelude.{ℕ, ◌<◌, List, IfSome, IfNone}
use Rattle.flash_words.specs.declared.layout.Layout.{Layout}
use Rattle.page_index.specs.Maps.{IsPool, IsFree}
use Rattle.page_index.specs.Entries.{AreKnown}
use Rattle.page_index.specs.declared.survey.Survey.{Survey}

-- the lowest page of the pool that is free, or that none is, and which of the addresses have entries
pub record IsSurvey (layout : Layout) (words : List ℕ) (original : ℕ) (survey : Survey) : Type 0 where
  pub free : IfSome survey.free (λ page. IsPool layout page × IsFree words page)
  pub lowest : IfSome survey.free (λ page. (lower : ℕ) → IsPool layout lower → lower < page → ¬ IsFree words lower)
  pub none : IfNone survey.free ((page : ℕ) → IsPool layout page → ¬ IsFree words page)
  pub known : AreKnown layout words original survey.known
