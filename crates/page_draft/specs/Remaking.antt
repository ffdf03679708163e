-- Serves private functions: a page of so many instructions while it is made anew from the image.
use Rattle.std.specs.Prelude.{◌≡◌, ◌≢◌, ℕ, ◌+◌, ◌/◌, ◌<◌, ◌≤◌, false, List, length}
use Rattle.flash_words.specs.Pages.{page_words}
use Rattle.page_draft.specs.declared.instruction.Instruction.{Instruction}
use Rattle.page_draft.specs.declared.draft.Draft.{Draft}
use Rattle.page_draft.specs.Standing.{size}
use Rattle.page_draft.specs.Runs.{ends_at, template_at, address, templates}
use Rattle.page_draft.specs.Drafts.{starts, IsRead, Adds}

-- an instruction can't be taken into a page of so many from t, behind templates of so many words
pub data CanNotTake (image : List ℕ) (t count front pc : ℕ) : Type 0 where
  Outside : length image ≤ pc → CanNotTake image t count front pc
  Leaves : pc / page_words ≢ t / page_words → CanNotTake image t count front pc
  Full : page_words < 2 + count + front + size (template_at image pc) → CanNotTake image t count front pc

-- it was taken
pub record HasTaken (image : List ℕ) (t count pc : ℕ) (old new : Draft) (here : Instruction) : Type 0 where
  pub inside : pc < length image
  pub paged : pc / page_words ≡ t / page_words
  pub at : here.pc ≡ pc
  pub read : IsRead image here
  pub adds : Adds old new here
  pub room : 2 + count + new.size ≤ page_words

-- so many instructions of a page of `count` from t were taken, and the next stands at the pc
pub record IsWalked (image : List ℕ) (t count taken pc : ℕ) (draft : Draft) : Type 0 where
  pub reached : pc ≡ address image t taken
  pub inside : (i : ℕ) → i < taken → address image t i < length image
  pub paged : (i : ℕ) → i < taken → address image t i / page_words ≡ t / page_words
  pub goes_on : (i : ℕ) → i < taken → ends_at image (address image t i) ≡ false
  pub entries : draft.entries.items ≡ starts image t taken
  pub code : draft.code.items ≡ templates image t taken
  pub sized : draft.size ≡ size (templates image t taken)
  pub room : 2 + count + draft.size ≤ page_words
