-- What a survey tells of the page that is made next.
use Rattle.std.proofs.Common.{◌≡◌, ℕ, List, Some, None}
use Rattle.flash_words.specs.declared.layout.Layout.{Layout}
use Rattle.page_index.specs.Surveys.{IsSurvey}
use Rattle.page_index.specs.declared.survey.Survey.{Survey}
use Rattle.nat_page.specs.Making.{HasNoFree, IsLowestFree}

-- the lowest free page
pub surveyed_free : (layout : Layout) (words : List ℕ) (original page : ℕ) (survey : Survey) → IsSurvey layout words original survey → survey.free ≡ Some page → IsLowestFree layout words page
surveyed_free layout words original page survey is some =
    let free = rw some at is.free in
    record { pool = free.0; free = free.1; lowest = rw some at is.lowest }

-- or none
pub surveyed_full : (layout : Layout) (words : List ℕ) (original : ℕ) (survey : Survey) → IsSurvey layout words original survey → survey.free ≡ None → HasNoFree layout words
surveyed_full layout words original survey is none = rw none at is.none
