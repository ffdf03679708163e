-- The walk along the pieces of a page that puts calls into it.
use Rattle.std.proofs.Common.{◌≡◌, ℕ, suc, ◌+◌, ◌/◌, ◌%◌, ◌<◌, ◌≤◌, Bool, true, false, List, [], ◌∷◌, ◌++◌, length, take, drop, arith, refl, sym, ap, ◌∙◌, subst}
use Rattle.std.specs.Prelude.{slice_index_or, if◌then◌else◌}
use Rattle.std.proofs.Math.Seq.{take-suc}
use Rattle.std.proofs.lemmas.List.{take-append-drop}
use Rattle.flash_words.specs.Pages.{page_words, page_of}
use Rattle.nat_template.specs.declared.piece.Piece.{Piece}
use Rattle.nat_template.specs.declared.piece.Piece.TheVariants.{Link}
use Rattle.nat_template.specs.Stubs.{call_word, bridge_entry}
use Rattle.nat_page.specs.declared.unlinking.Unlinked.{Unlinked}
use Rattle.page_draft.specs.Standing.{width, size}
use Rattle.nat_page.specs.Links.{with_two_words}
use Rattle.nat_page.specs.Unlinking.{is_picked, links_where, with_calls, are_some, IsPatched}
use Rattle.page_draft.proofs.PieceLaws.{size-cons, size-append}
use Rattle.nat_page.proofs.UnlinkLaws.{page_of_two, length-with_calls, links_where-append, with_calls-append}

-- the next piece of a row
pub record IsNext (pieces : List Piece) (i : ℕ) (piece : Piece) : Type 0 where
  pub front : take (i + 1) pieces ≡ take i pieces ++ piece ∷ []
  pub longer : size (take (i + 1) pieces) ≡ size (take i pieces) + width piece
  pub room : size (take i pieces) + width piece ≤ size pieces

pub next_piece : (pieces : List Piece) (i : ℕ) (piece d : Piece) → i < length pieces → slice_index_or pieces i d ≡ piece → IsNext pieces i piece
next_piece pieces i piece d below is =
    let one : i + 1 ≡ suc i = omega arith in
    let front : take (i + 1) pieces ≡ take i pieces ++ piece ∷ [] = ap (λ n. take n pieces) one ∙ take-suc pieces i d below ∙ ap (λ p. take i pieces ++ p ∷ []) is in
    let longer : size (take (i + 1) pieces) ≡ size (take i pieces) + size (piece ∷ []) = ap size front ∙ size-append (take i pieces) (piece ∷ []) in
    let all : size pieces ≡ size (take (i + 1) pieces) + size (drop (i + 1) pieces) = sym (ap size (take-append-drop (i + 1) pieces)) ∙ size-append (take (i + 1) pieces) (drop (i + 1) pieces) in
    record { front = front; longer = omega (arith, size-cons piece []); room = omega (arith, size-cons piece []) }

some_append : (stubs : List ℕ) (s : ℕ) → are_some (stubs ++ s ∷ []) ≡ true
some_append [] s = refl
some_append (b ∷ stubs) s = refl

append_none : (stubs : List ℕ) → stubs ++ [] ≡ stubs
append_none [] = refl
append_none (s ∷ stubs) = ap (λ rest. s ∷ rest) (append_none stubs)

by_link : (test : Bool) (words : List ℕ) (picks : ℕ → ℕ → Bool) (page s t : ℕ) (patch patch' : Unlinked) (stubs : List ℕ) → is_picked words picks s t ≡ test → length words ≡ 65536 → page < 480
    → s / page_words ≡ page → s % page_words + 1 < page_words
    → (is_picked words picks s t ≡ false → patch' ≡ patch)
    → (is_picked words picks s t ≡ true → (patch'.words ≡ with_two_words patch.words (s % page_words) call_word bridge_entry) × (patch'.any ≡ true))
    → IsPatched words page patch stubs → IsPatched words page patch' (stubs ++ (if test then s ∷ [] else []))
by_link false words picks page s t patch patch' stubs is whole low own room stays calls patched =
    subst (IsPatched words page patch') (sym (append_none stubs)) (rw (stays is) patched)
by_link true words picks page s t patch patch' stubs is whole low own room stays calls patched =
    let here = with_calls words stubs in
    let long = length-with_calls words stubs in
    let two : page_of (with_two_words here s call_word bridge_entry) page ≡ with_two_words (page_of here page) (s % page_words) call_word bridge_entry = page_of_two _ _ _ _ _ (omega arith) own room in
    record {
      words_are = (calls is).0 ∙ ap (λ w. with_two_words w (s % page_words) call_word bridge_entry) patched.words_are ∙ sym two
          ∙ sym (ap (λ w. page_of w page) (with_calls-append words stubs (s ∷ [])));
      any = (calls is).1 ∙ sym (some_append stubs s);
    }

pub patched_link : (words : List ℕ) (picks : ℕ → ℕ → Bool) (page s t : ℕ) (patch patch' : Unlinked) (stubs : List ℕ) → length words ≡ 65536 → page < 480 → s / page_words ≡ page
    → s % page_words + 1 < page_words
    → (is_picked words picks s t ≡ false → patch' ≡ patch)
    → (is_picked words picks s t ≡ true → (patch'.words ≡ with_two_words patch.words (s % page_words) call_word bridge_entry) × (patch'.any ≡ true))
    → IsPatched words page patch stubs → IsPatched words page patch' (stubs ++ links_where words picks s (Link t ∷ []))
patched_link words picks page s t patch patch' stubs whole low own room stays calls patched =
    by_link (is_picked words picks s t) words picks page s t patch patch' stubs refl whole low own room stays calls patched

-- the pieces so far with one more
pub patched_next : (words : List ℕ) (test : ℕ → ℕ → Bool) (page from at i : ℕ) (pieces : List Piece) (piece : Piece) (patch : Unlinked) → IsNext pieces i piece → at ≡ from + size (take i pieces)
    → IsPatched words page patch (links_where words test from (take i pieces) ++ links_where words test at (piece ∷ []))
    → IsPatched words page patch (links_where words test from (take (i + 1) pieces))
patched_next words test page from at i pieces piece patch next reached patched =
    let so_far = links_where words test from (take i pieces) in
    let more : ℕ → List ℕ = λ b. links_where words test b (piece ∷ []) in
    let all = ap (links_where words test from) next.front ∙ links_where-append words test from (take i pieces) (piece ∷ []) ∙ ap (λ b. so_far ++ more b) (sym reached) in
    subst (IsPatched words page patch) (sym all) patched

pub patched_fixed : (words : List ℕ) (page : ℕ) (patch : Unlinked) (stubs : List ℕ) → IsPatched words page patch stubs → IsPatched words page patch (stubs ++ [])
patched_fixed words page patch stubs patched = subst (IsPatched words page patch) (sym (append_none stubs)) patched
