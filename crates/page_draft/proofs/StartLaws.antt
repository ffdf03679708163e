-- The entries and the code of a draft, with one instruction more.
use Rattle.std.specs.List.{range_with_len}
use Rattle.std.proofs.Common.{◌≡◌, map, ℕ, suc, ◌+◌, ◌*◌, ◌%◌, List, [], ◌∷◌, ◌++◌, length, arith, sym, ap, ap₂, ◌∙◌}
use Rattle.std.proofs.lemmas.List.FromFn.{map-range_with_len_more, length-map-range_with_len}
use Rattle.flash_words.specs.Pages.{page_words}
use Rattle.page_draft.specs.declared.instruction.Instruction.{Instruction}
use Rattle.page_draft.specs.declared.draft.Draft.{Draft}
use Rattle.page_draft.specs.Standing.{size}
use Rattle.page_draft.specs.Runs.{template_at, address, templates}
use Rattle.page_draft.specs.Drafts.{starts, IsRead, Adds}
use Rattle.page_draft.proofs.RunLaws.{size-templates}

-- the first entries, and one more
pub length-starts : (image : List ℕ) (t n : ℕ) → length (starts image t n) ≡ n
unfolding starts
length-starts image t n = length-map-range_with_len _ 0 n

pub starts-more : (image : List ℕ) (t n : ℕ) → starts image t (suc n) ≡ starts image t n ++ (256 * (address image t n % page_words) + size (templates image t n)) ∷ []
unfolding starts
starts-more image t n =
    let start : ℕ → ℕ = λ i. 256 * (address image t i % page_words) + size (templates image t i) in
    let one : suc n ≡ n + 1 = omega arith in
    ap (λ m. map start (range_with_len 0 m)) one ∙ map-range_with_len_more start 0 n n (omega arith)

module _ (image : List ℕ) (t last : ℕ) (old new : Draft) (here : Instruction) (reached : here.pc ≡ address image t last) where
  -- the draft with that instruction
  pub entries_more : old.entries.items ≡ starts image t last → old.size ≡ size (templates image t last) → Adds old new here → new.entries.items ≡ starts image t (suc last)
  entries_more before sized adds =
      adds.entries ∙ ap₂ (λ front x. front ++ x ∷ []) before (ap₂ (λ pc n. 256 * (pc % 128) + n) reached sized) ∙ sym (starts-more image t last)

  pub code_more : old.code.items ≡ templates image t last → IsRead image here → Adds old new here → new.code.items ≡ templates image t (suc last)
  code_more before read adds = adds.code ∙ ap₂ (λ front back. front ++ back) before (read.code ∙ ap (template_at image) reached)

  pub size_more : old.size ≡ size (templates image t last) → IsRead image here → Adds old new here → new.size ≡ size (templates image t (suc last))
  size_more before read adds =
      adds.size ∙ ap₂ (λ front back. front + back) before (read.code_size ∙ ap (λ pc. size (template_at image pc)) reached) ∙ sym (size-templates image t last)
