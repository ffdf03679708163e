-- A run while it is read: it begins with one instruction, takes one more, or stops.
use Rattle.std.proofs.Common.{◌≡◌, ℕ, suc, ◌+◌, ◌/◌, ◌<◌, ◌≤◌, List, ◌++◌, length, arith, refl, sym, ap, ap₂, ◌∙◌, subst, ◌-◌, ⊎_elim}
use Rattle.std.specs.Prelude.{Option, Some, None, MatchOption, All}
use Rattle.std.proofs.lemmas.Bool.{cases_lt}
use Rattle.flash_words.specs.Pages.{page_words}
use Rattle.flash_words.specs.declared.layout.Layout.{Layout}
use Rattle.arrayvec.specs.ArrayVec.{ArrayVec}
use Rattle.page_draft.specs.declared.instruction.Instruction.{Instruction}
use Rattle.page_draft.specs.declared.draft.Draft.{Draft}
use Rattle.page_draft.specs.Standing.{size}
use Rattle.page_draft.specs.Runs.{template_at, closing_at, address, templates}
use Rattle.page_draft.specs.CodePages.{code}
use Rattle.nat_page.specs.Making.{HasNoEntry}
use Rattle.page_draft.specs.Drafts.{Adds, code_of, closing_of}
use Rattle.nat_page.specs.Drafted.{size_with, StopsBehind, IsBegun}
use Rattle.nat_page.specs.Drafts.{GoesOn, IsDrafting, IsDrafted}
use Rattle.page_draft.proofs.RunLaws.{template_at-range, closing_at-range, size-templates, size-code, page_size-is}
use Rattle.page_draft.proofs.StartLaws.{length-starts, entries_more, code_more, size_more}
use Rattle.page_draft.proofs.PageWords.{small_starts}

-- a run begins with one instruction, which fits with any closing
pub begun_first : (layout : Layout) (image words : List ℕ) (t : ℕ) → t < length image → HasNoEntry layout words t → IsBegun layout image words t 0
begun_first layout image words t inside unknown =
    let body = template_at-range image t in
    let end = closing_at-range image t in
    let one : size (templates image t 1) ≡ 0 + size (template_at image t) = size-templates image t 0 in
    let whole = page_size-is image t 0 in
    record {
      run = record {
        inside = λ i near. let none : i ≡ 0 = omega arith in let first : address image t i ≡ t = ap (address image t) none in omega arith;
        paged = λ i near. let none : i ≡ 0 = omega arith in ap (λ k. address image t k / 128) none;
        goes_on = λ i below. absurd (omega arith);
      };
      unknown = λ i near. let none : i ≡ 0 = omega arith in rw none unknown;
      fits = omega arith;
    }

-- what holds up to a number, and of the next one
up_to_more : (P : ℕ → Type 0) (n : ℕ) → ((i : ℕ) → i ≤ n → P i) → P (suc n) → (i : ℕ) → i ≤ suc n → P i
up_to_more P n all next i near = ⊎_elim (λ before. all i (omega arith)) (λ same. let is : i ≡ suc n = omega arith in rw is next) (cases_lt i (suc n))

-- the instruction `last` and the next one, where the run goes on to it
pub begun_more : (layout : Layout) (image words : List ℕ) (t last : ℕ) (next : Instruction) → IsBegun layout image words t last
    → GoesOn layout image words (address image t last) (last + 3 + size (templates image t (suc last))) next → IsBegun layout image words t (suc last)
begun_more layout image words t last next begun on =
    let here : next.pc ≡ address image t (suc last) = on.follows in
    let fit : size_with image (last + 3 + size (templates image t (suc last))) (address image t (suc last)) ≤ page_words = rw here at on.fits in
    let more = size-templates image t (suc last) in
    let whole = page_size-is image t (suc last) in
    record {
      run = record {
        inside = up_to_more (λ i. address image t i < length image) last begun.run.inside (omega (arith, on.inside));
        paged = up_to_more (λ i. address image t i / page_words ≡ t / page_words) last begun.run.paged (ap (λ pc. pc / page_words) (sym here) ∙ on.paged ∙ begun.run.paged last (omega arith));
        goes_on = λ i below. ⊎_elim (begun.run.goes_on i) (λ same. let last_one : i ≡ last = omega arith in rw last_one on.returns) (cases_lt i last);
      };
      unknown = up_to_more (λ i. HasNoEntry layout words (address image t i)) last begun.unknown (rw here at on.unknown);
      fits = omega arith;
    }

-- how many words a draft has with the instruction behind it
pub record Counts (image : List ℕ) (t last : ℕ) (draft : Draft) (here : Instruction) : Type 0 where
  pub entries : length draft.entries.items ≡ last
  pub sized : draft.size ≡ size draft.code.items
  pub here_sized : here.code_size ≡ size (code_of here)
  pub closing_sized : here.closing_size ≡ size (closing_of here)
  pub code : draft.size + here.code_size ≡ size (templates image t (suc last))
  pub room : last + 3 + size (templates image t (suc last)) + here.closing_size ≤ page_words

module _ (layout : Layout) (image words : List ℕ) where
  pub counts_of : (t : ℕ) (draft : Draft) (here : Instruction) (drafting : IsDrafting layout image words t draft here) → Counts image t drafting.last draft here
  counts_of t draft here drafting =
      let at_last = drafting.reached in
      let more = size-templates image t drafting.last in
      let whole = page_size-is image t drafting.last in
      let fits = drafting.begun.fits in
      let body : here.code_size ≡ size (template_at image (address image t drafting.last)) = drafting.read.code_size ∙ ap (λ pc. size (template_at image pc)) at_last in
      let end : here.closing_size ≡ size (closing_at image (address image t drafting.last)) = drafting.read.closing_size ∙ ap (λ pc. size (closing_at image pc)) at_last in
      record {
        entries = ap length drafting.entries ∙ length-starts image t drafting.last;
        sized = drafting.sized ∙ sym (ap size drafting.code);
        here_sized = drafting.read.code_size ∙ sym (ap size drafting.read.code);
        closing_sized = drafting.read.closing_size ∙ sym (ap size drafting.read.closing);
        code = omega (arith, drafting.sized);
        room = omega arith;
      }

  -- what is known behind an instruction, said of the run
  behind : (t others : ℕ) (draft : Draft) (here : Instruction) (drafting : IsDrafting layout image words t draft here) → others ≡ length draft.entries.items + draft.size + here.code_size + 3
      → others ≡ drafting.last + 3 + size (templates image t (suc drafting.last))
  behind t others draft here drafting told =
      let counts = counts_of t draft here drafting in
      omega (arith, counts.entries, counts.code)

  pub drafting_more : (t others : ℕ) (draft draft' : Draft) (here next : Instruction) → IsDrafting layout image words t draft here
      → others ≡ length draft.entries.items + draft.size + here.code_size + 3 → GoesOn layout image words here.pc others next → Adds draft draft' here → IsDrafting layout image words t draft' next
  drafting_more t others draft draft' here next drafting told on adds =
      let P : ℕ → ℕ → Type 0 = λ pc n. GoesOn layout image words pc n next in
      let there : GoesOn layout image words (address image t drafting.last)
      (drafting.last + 3 + size (templates image t (suc drafting.last))) next = subst (P (address image t drafting.last))
      (behind t others draft here drafting told) (rw drafting.reached at on) in
      record {
        last = suc drafting.last;
        begun = begun_more layout image words t drafting.last next drafting.begun there;
        reached = there.follows;
        read = there.read;
        entries = entries_more image t drafting.last draft draft' here drafting.reached drafting.entries drafting.sized adds;
        code = code_more image t drafting.last draft draft' here drafting.reached drafting.code drafting.read adds;
        sized = size_more image t drafting.last draft draft' here drafting.reached drafting.sized drafting.read adds;
      }

  -- where no instruction is found, the run stops
  pub stop_told : (pc others : ℕ) (found : Option Instruction) → MatchOption found (StopsBehind layout image words pc others) (GoesOn layout image words pc others)
      → ((next : Instruction) → found ≡ Some next → ⊥) → StopsBehind layout image words pc others
  stop_told pc others None told none = told
  stop_told pc others (Some next) told none = absurd (none next refl)

  -- the whole draft, where the run stops
  pub drafted : (t others : ℕ) (draft more whole : Draft) (here : Instruction) → IsDrafting layout image words t draft here → others ≡ length draft.entries.items + draft.size + here.code_size + 3
      → StopsBehind layout image words here.pc others → Adds draft more here → whole.entries ≡ more.entries → whole.code.items ≡ more.code.items ++ closing_of here
      → whole.size ≡ more.size + here.closing_size → IsDrafted layout image words t whole here
  unfolding code
  drafted t others draft more whole here drafting told stops adds entries closed sized =
      let last = drafting.last in
      let end : closing_of here ≡ closing_at image (address image t last) = drafting.read.closing ∙ ap (closing_at image) drafting.reached in
      let end_size : here.closing_size ≡ size (closing_at image (address image t last)) = drafting.read.closing_size ∙ ap (λ pc. size (closing_at image pc)) drafting.reached in
      record {
        last = last;
        begun = drafting.begun;
        reached = drafting.reached;
        read = drafting.read;
        stops = rw (behind t others draft here drafting told) at (rw drafting.reached at stops);
        entries = ap (λ (e : ArrayVec ℕ). e.items) entries ∙ entries_more image t last draft more here drafting.reached drafting.entries drafting.sized adds;
        code = closed ∙ ap₂ (λ front back. front ++ back) (code_more image t last draft more here drafting.reached drafting.code drafting.read adds) end;
        sized = omega (arith, sized, size_more image t last draft more here drafting.reached drafting.sized drafting.read adds, end_size, size-code image t last);
      }

module _ (layout : Layout) (image words : List ℕ) (t : ℕ) (draft : Draft) (here : Instruction) (drafted : IsDrafted layout image words t draft here) where
  -- the pieces of the whole draft fit into a page
  pub draft_room : 2 + length draft.entries.items + draft.size ≤ page_words
  draft_room =
      let last = drafted.last in
      let count : length draft.entries.items ≡ suc last = ap length drafted.entries ∙ length-starts image t (suc last) in
      let whole = page_size-is image t last in
      let parts = size-code image t last in
      let fits = drafted.begun.fits in
      omega (arith, drafted.sized)

  pub draft_small : All (λ entry. entry < 65536 - 128) draft.entries.items
  draft_small =
      let whole = page_size-is image t drafted.last in
      let fits = drafted.begun.fits in
      rw drafted.entries (small_starts image t drafted.last (omega arith))
