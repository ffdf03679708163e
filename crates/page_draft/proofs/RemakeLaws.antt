-- A page while it is made anew: one instruction more, and why there is no such page.
use Rattle.std.proofs.Common.{◌≡◌, ℕ, suc, ◌+◌, ◌/◌, ◌<◌, ◌≤◌, true, false, List, [], ◌++◌, length, arith, refl, sym, ap, ap₂, ◌∙◌, subst, ⊎_elim}
use Rattle.std.proofs.lemmas.Bool.{cases_lt}
use Rattle.arrayvec.specs.ArrayVec.{ArrayVec}
use Rattle.flash_words.specs.Pages.{page_words}
use Rattle.page_draft.specs.declared.instruction.Instruction.{Instruction}
use Rattle.page_draft.specs.declared.draft.Draft.{Draft}
use Rattle.page_draft.specs.Standing.{size}
use Rattle.page_draft.specs.Runs.{next_of, ends_at, template_at, closing_at, address, templates}
use Rattle.page_draft.specs.CodePages.{code, page_pieces, IsPage}
use Rattle.page_draft.specs.Drafts.{starts, draft_pieces, closing_of}
use Rattle.page_draft.specs.Remaking.{CanNotTake, HasTaken, IsWalked}
use Rattle.page_draft.proofs.RunLaws.{templates-rise, page_size-is}
use Rattle.page_draft.proofs.StartLaws.{entries_more, code_more, size_more}
use Rattle.page_draft.proofs.PageWords.{draft_page}

-- what holds below a number and of it, holds below the next
below_and : (P : ℕ → Type 0) (n : ℕ) → ((i : ℕ) → i < n → P i) → P n → (i : ℕ) → i < suc n → P i
below_and P n before here i below = ⊎_elim (before i) (λ same. let is : n ≡ i = omega arith in subst P is here) (cases_lt i n)

-- none yet
pub walked_first : (image : List ℕ) (t count : ℕ) (draft : Draft) → 2 + count + draft.size ≤ page_words → draft.entries.items ≡ [] → draft.code.items ≡ [] → draft.size ≡ 0
    → IsWalked image t count 0 t draft
unfolding starts
walked_first image t count draft room entries code sized = record {
  reached = refl;
  inside = λ i below. absurd (omega arith);
  paged = λ i below. absurd (omega arith);
  goes_on = λ i below. absurd (omega arith);
  entries = entries;
  code = code;
  sized = sized;
  room = room;
}

-- one instruction more
pub walked_more : (image : List ℕ) (t count taken pc : ℕ) (old new : Draft) (here : Instruction) → IsWalked image t count taken pc old → HasTaken image t count pc old new here → here.ends ≡ false
    → IsWalked image t count (suc taken) here.next new
walked_more image t count taken pc old new here walked has on =
    let reached : here.pc ≡ address image t taken = has.at ∙ walked.reached in
    record {
      reached = has.read.next ∙ ap (next_of image) reached;
      inside = below_and (λ i. address image t i < length image) taken walked.inside (rw walked.reached at has.inside);
      paged = below_and (λ i. address image t i / page_words ≡ t / page_words) taken walked.paged (rw walked.reached at has.paged);
      goes_on = below_and (λ i. ends_at image (address image t i) ≡ false) taken walked.goes_on (sym (ap (ends_at image) reached) ∙ sym has.read.ends ∙ on);
      entries = entries_more image t taken old new here reached walked.entries walked.sized has.adds;
      code = code_more image t taken old new here reached walked.code has.read has.adds;
      sized = size_more image t taken old new here reached walked.sized has.read has.adds;
      room = has.room;
    }

-- where an instruction can't be taken there is no such page
pub refused : (image : List ℕ) (t count last taken pc : ℕ) (draft : Draft) → count ≡ suc last → taken ≤ last → IsWalked image t count taken pc draft → CanNotTake image t count draft.size pc
    → ¬ IsPage image t last
refused image t count last taken pc draft is near walked (CanNotTake.Outside outside) page = omega (arith, page.run.inside taken near, walked.reached)
refused image t count last taken pc draft is near walked (CanNotTake.Leaves leaves) page =
    leaves (ap (λ a. a / page_words) walked.reached ∙ page.run.paged taken near)
refused image t count last taken pc draft is near walked (CanNotTake.Full full) page =
    omega (arith, page.fits, page_size-is image t last, templates-rise image t taken (suc last) (omega arith), walked.sized, ap (λ a. size (template_at image a)) walked.reached)

pub ended : (image : List ℕ) (t count last taken pc : ℕ) (old new : Draft) (here : Instruction) → taken < last → IsWalked image t count taken pc old → HasTaken image t count pc old new here
    → here.ends ≡ true → ¬ IsPage image t last
ended image t count last taken pc old new here before walked has ends page =
    let on : ends_at image here.pc ≡ false = ap (ends_at image) (has.at ∙ walked.reached) ∙ page.run.goes_on taken before in
    absurd (cc)

-- all of them were taken
pub record IsWhole (image : List ℕ) (t last : ℕ) (draft : Draft) (here : Instruction) : Type 0 where
  pub inside : (i : ℕ) → i ≤ last → address image t i < length image
  pub paged : (i : ℕ) → i ≤ last → address image t i / page_words ≡ t / page_words
  pub goes_on : (i : ℕ) → i < last → ends_at image (address image t i) ≡ false
  pub entries : draft.entries.items ≡ starts image t (suc last)
  pub code : draft.code.items ≡ templates image t (suc last)
  pub sized : draft.size ≡ size (templates image t (suc last))
  pub closing : closing_of here ≡ closing_at image (address image t last)
  pub closing_sized : here.closing_size ≡ size (closing_at image (address image t last))

pub whole : (image : List ℕ) (t count last pc : ℕ) (old new : Draft) (here : Instruction) → IsWalked image t count last pc old → HasTaken image t count pc old new here → IsWhole image t last new here
whole image t count last pc old new here walked has =
    let reached : here.pc ≡ address image t last = has.at ∙ walked.reached in
    record {
      inside = λ i near. below_and (λ j. address image t j < length image) last walked.inside (rw walked.reached at has.inside) i (omega arith);
      paged = λ i near. below_and (λ j. address image t j / page_words ≡ t / page_words) last walked.paged (rw walked.reached at has.paged) i (omega arith);
      goes_on = walked.goes_on;
      entries = entries_more image t last old new here reached walked.entries walked.sized has.adds;
      code = code_more image t last old new here reached walked.code has.read has.adds;
      sized = size_more image t last old new here reached walked.sized has.read has.adds;
      closing = has.read.closing ∙ ap (closing_at image) reached;
      closing_sized = has.read.closing_size ∙ ap (λ a. size (closing_at image a)) reached;
    }

module _ (image : List ℕ) (t count last : ℕ) (draft : Draft) (here : Instruction) (is : count ≡ suc last) (all : IsWhole image t last draft here) where
  -- the page is too large
  pub too_large : page_words < 2 + count + draft.size + here.closing_size → ¬ IsPage image t last
  too_large large page = omega (arith, page.fits, page_size-is image t last, all.sized, all.closing_sized)

  -- or it is the run's
  pub whole_page : 2 + count + draft.size + here.closing_size ≤ page_words → IsPage image t last
  whole_page fits = record {
    run = record { inside = all.inside; paged = all.paged; goes_on = all.goes_on };
    fits = omega (arith, fits, page_size-is image t last, all.sized, all.closing_sized);
  }

pub whole_pieces : (image : List ℕ) (t last : ℕ) (draft closed : Draft) (here : Instruction) → IsWhole image t last draft here → closed.entries ≡ draft.entries → closed.code.items ≡ draft.code.items
    ++ closing_of here
    → draft_pieces t closed.entries.items closed.code.items ≡ page_pieces image t last
unfolding code
whole_pieces image t last draft closed here all entries body =
    draft_page image closed.entries.items closed.code.items t last (ap (λ (e : ArrayVec ℕ). e.items) entries ∙ all.entries) (body ∙ ap₂ (λ front back. front ++ back) all.code all.closing)
