-- Pages that an arrival doesn't make, in the reader's words: each keeps its code and its links, or is lost.
use Rattle.std.proofs.Common.{◌≡◌, ◌≢◌, ℕ, ◌+◌, ◌*◌, ◌/◌, ◌⊎◌, true, false, List, length, Option, Some, None, sym, ap, ◌∙◌, subst, arith, inl, inr}
use Rattle.std.specs.Prelude.{IfSome, slice_index}
use Rattle.flash_words.specs.Layouts.{layout_of}
use Rattle.flash_words.specs.Pages.{page_words}
use Rattle.mote_core.specs.declared.mote.Mote.{Mote}
use Rattle.branch_bridge.specs.declared.through.Arrival.{Arrival}
use Rattle.branch_bridge.specs.declared.rewriting.Torn.{Torn}
use Rattle.branch_bridge.specs.Arrivals.{ring_of, torn_by}
use Rattle.theorem_reader.specs.Acts.{KeepsLink, KeepsLinks, IsRecycled, IsUnmade}
use Rattle.theorem_reader.specs.Pools.{IsInPool, IsErased}
use Rattle.theorem_reader.proofs.NextPage.{made_true, erased_free, ring_is, stored, IsBegun}
use Rattle.theorem_reader.proofs.PagesLeft.{IsVictim, Leaves, Calls, Jumps}
use Rattle.theorem_reader.proofs.PagesUnlinked.{IsTornPage}
use Rattle.theorem_reader.proofs.Pooling.{pool_begins, in_pool, blank_word, entry_is}
use Rattle.theorem_reader.proofs.StubWords.{KeepsCall, Same, Called, KeepsJump, KeepsJumps, Unresolved, Jumped}

victim_is : (image : List ℕ) (before : Mote) (t page : ℕ) → IsBegun image (stored before) → IsVictim (layout_of (length image)) (stored before) t page → IsRecycled image t before page
victim_is image before t page begun victim =
    let l = layout_of (length image) in
    let at : page ≡ l.pool_first + ring_of before.sram = victim.is in
    record {
      anew = λ place is. victim.unknown place (entry_is image before.flash.words t place is);
      full = λ other inside erased. victim.none other (in_pool image other inside) (erased_free l image before.flash.words other begun.right begun.code (in_pool image other inside) erased);
      turn = omega (arith, at, ring_is before, (pool_begins image).first);
    }

-- a word of a page
call_is : (image : List ℕ) (before after : Mote) (t page k : ℕ) → IsBegun image (stored before)
    → KeepsCall (IsVictim (layout_of (length image)) (stored before) t) before.flash.words after.flash.words page k → KeepsLink image t before after (128 * page + k)
call_is image before after t page k begun (Same is) = KeepsLink.Kept is
call_is image before after t page k begun (Called j own room jump gone call bridge) =
    let a = 128 * page + j in
    let next : 128 * page + (j + 1) ≡ a + 1 = omega arith in
    KeepsLink.Unlinked a (elim own [ inl first ↦ inl (omega (arith, first)) | inr second ↦ inr (omega (arith, second)) ]) jump
    (victim_is image before t (slice_index before.flash.words (a + 1) / 128) begun
    (subst (λ b. IsVictim (layout_of (length image)) (stored before) t (slice_index before.flash.words b / 128)) next gone)) (call, ap (slice_index after.flash.words) (sym next) ∙ bridge)

jump_is : (image : List ℕ) (before after : Mote) (t page place k : ℕ) → IsBegun image (stored before) → after.cpu.pc ≡ place
    → KeepsJump (IsVictim (layout_of (length image)) (stored before) t) place before.flash.words after.flash.words page k → KeepsLink image t before after (128 * page + k)
jump_is image before after t page place k begun pc (Unresolved keeps) = call_is image before after t page k begun keeps
jump_is image before after t page place k begun pc (Jumped j own room call bridge jump there) =
    let a = 128 * page + j in
    let next : 128 * page + (j + 1) ≡ a + 1 = omega arith in
    KeepsLink.Linked a (elim own [ inl first ↦ inl (omega (arith, first)) | inr second ↦ inr (omega (arith, second)) ])
    (call, ap (slice_index before.flash.words) (sym next) ∙ bridge) (jump, ap (slice_index after.flash.words) (sym next) ∙ there ∙ sym pc)

-- no stub is in an erased page
still_erased : (IsGone : ℕ → Type 0) (place : ℕ) (old new : List ℕ) (page : ℕ) → KeepsJumps IsGone place old new page → IsErased old page → IsErased new page
still_erased IsGone place old new page keeps erased k below = elim (keeps k below) [
  | Unresolved (Same is) ↦ is ∙ erased k below
  | Unresolved (Called j own room jump gone call bridge) ↦ absurd (omega (arith, jump, erased j (omega (arith, room))))
  | Jumped j own room call bridge jump there ↦ absurd (omega (arith, call, erased j (omega (arith, room))))
]

-- a page, whatever becomes of it
abbrev IsKept : (image : List ℕ) (t : ℕ) (before after : Mote) (arrival : Arrival) (page : ℕ) → Type 0
IsKept image t before after arrival page =
    (KeepsLinks image t before after page × (IsErased before.flash.words page → IsErased after.flash.words page))
    ⊎ (IsTornPage before.flash after.flash (torn_by arrival.refused) page ⊎ ((arrival.made ≡ true) × IfSome arrival.place (λ place. page ≡ place / page_words)))

kept_by : (image : List ℕ) (t : ℕ) (before after : Mote) (arrival : Arrival) (page : ℕ) → IsBegun image (stored before)
    → ((place : ℕ) → arrival.place ≡ Some place → after.cpu.pc ≡ place) → Leaves (layout_of (length image)) (stored before) t after.flash arrival page → IsKept image t before after arrival page
kept_by image t before after arrival page begun pc (Calls erased calls) = inl (
  λ k below. call_is image before after t page k begun (calls k below),
  still_erased (IsVictim (layout_of (length image)) (stored before) t) 0 before.flash.words after.flash.words page (λ k below. Unresolved (calls k below)),
)
kept_by image t before after arrival page begun pc (Jumps erased place there jumps) = inl (
  λ k below. jump_is image before after t page place k begun (pc place there) (jumps k below),
  still_erased (IsVictim (layout_of (length image)) (stored before) t) place before.flash.words after.flash.words page jumps,
)
kept_by image t before after arrival page begun pc (Leaves.Lost torn) = inr (inl torn)
kept_by image t before after arrival page begun pc (Leaves.Remade erased made here) = inr (inr (made, here))

-- the page that is torn, if any
abbrev pub lost_in : Option Torn → ℕ
lost_in None = 0
lost_in (Some torn) = torn.page

-- pages that an arrival doesn't make
pub record OthersKeep (image : List ℕ) (t : ℕ) (before after : Mote) (arrival : Arrival) : Type 0 where
  pub unrefused : arrival.refused ≡ None → (place : ℕ) → arrival.place ≡ Some place → (page : ℕ) → IsInPool image page → page ≢ place / 128 → KeepsLinks image t before after page
  pub unmade : (page : ℕ) → IsInPool image page → (arrival.made ≡ false) ⊎ ((place : ℕ) × (arrival.place ≡ Some place) × (page ≢ place / 128))
      → IsUnmade image t before after (lost_in (torn_by arrival.refused)) page

pub others_keep : (image : List ℕ) (t : ℕ) (before after : Mote) (arrival : Arrival) → IsBegun image (stored before) → ((place : ℕ) → arrival.place ≡ Some place → after.cpu.pc ≡ place)
    → ((page : ℕ) → Leaves (layout_of (length image)) (stored before) t after.flash arrival page) → OthersKeep image t before after arrival
others_keep image t before after arrival begun pc leaves = record {
  unrefused = λ none place there page inside away. elim (kept_by image t before after arrival page begun pc (leaves page)) [
    | inl keeps ↦ keeps.0
    | inr (inl torn) ↦ absurd (let e : None ≡ Some _ = sym (ap torn_by none) ∙ torn.lacks in cc)
    | inr (inr made) ↦ absurd (away (subst (λ p. IfSome p (λ v. page ≡ v / page_words)) there made.1))
  ];
  unmade = λ page inside which. elim (kept_by image t before after arrival page begun pc (leaves page)) [
    | inl keeps ↦ inl keeps
    | inr (inl torn) ↦ inr (sym (ap lost_in torn.lacks), λ k below. blank_word after.flash.words page k torn.free below)
    | inr (inr made) ↦ elim which [
      | inl unmade ↦ absurd (made_true arrival.made made.0 unmade)
      | inr other ↦ absurd (other.2 (subst (λ p. IfSome p (λ v. page ≡ v / page_words)) other.1 made.1))
    ]
  ];
}
