-- Serves the contracts of `Cells::rewrite` and `Flash::rewrite`: a page gets other words, by two operations.
use Rattle.std.specs.Prelude.{◌≡◌, ℕ, ◌<◌, ◌≤◌, ◌⊎◌, if◌then◌else◌, List, [], ◌∷◌, slice_index, Option, Some, None, Result, Ok, Err}
use Rattle.flash_words.specs.Pages.{page_words}
use Rattle.flash_words.specs.Operations.{Operation, Erase, Program, Refusal}
use Rattle.flash_words.specs.declared.failing.RewriteStop.{RewriteStop}

-- words of a page that change from one on up to another alone
abbrev pub ChangeBetween : (from to : ℕ) → (old new : List ℕ) → Type 0
ChangeBetween from to old new = (k : ℕ) → k < page_words → (k < from) ⊎ (to ≤ k) → slice_index old k ≡ slice_index new k

-- a page gets these words
abbrev pub rewriting : ℕ → List ℕ → List Operation
rewriting page words = Erase page ∷ Program page words ∷ []

-- what a call that makes both operations tells of a refusal
abbrev pub refusal_in_rewriting : ℕ → List ℕ → Result Unit RewriteStop → Option Refusal
refusal_in_rewriting page words (Ok done) = None
refusal_in_rewriting page words (Err stop) = Some (record { op = stop.op; operation = if stop.erased then Program page words else Erase page })
