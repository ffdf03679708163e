-- Words of a page of which some stubs call the kernel's bridge again, and of one in which a stub is resolved.
use Rattle.std.proofs.Common.{◌≡◌, ℕ, ◌+◌, ◌*◌, ◌/◌, ◌%◌, ◌<◌, ◌≤◌, ◌≢◌, ◌⊎◌, Bool, true, false, List, [], ◌∷◌, length, refl, sym, ap, ◌∙◌, arith, subst, inl, inr}
use Rattle.std.specs.Prelude.{◌==◌, if◌then◌else◌}
use Rattle.std.proofs.lemmas.Bool.{cases_eq, and_parts, eqb-true}
use Rattle.flash_words.specs.Pages.{page_words, word_at}
use Rattle.nat_template.specs.declared.piece.Piece.{Piece}
use Rattle.nat_template.specs.declared.piece.Piece.TheVariants.{Fixed, Link}
use Rattle.nat_template.specs.Stubs.{call_word, bridge_entry}
use Rattle.page_draft.specs.Standing.{size, jump_word}
use Rattle.page_draft.proofs.PieceLaws.{size-cons}
use Rattle.nat_page.specs.Links.{with_two_words}
use Rattle.nat_page.specs.Unlinking.{leads_into, is_picked, links_where, with_calls, pieces_in, stubs_into}
use Rattle.nat_page.proofs.TwoWords.{first_of_two, second_of_two, word_beside_two, length-with_two_words}
use Rattle.nat_page.proofs.UnlinkLaws.{calls_beside, beside_below, links_among}
use Rattle.theorem_reader.specs.Wear.{IsSamePage}

-- whether a number is one of two in a row
pub one_of_two : (x a : ℕ) → ((x ≡ a) ⊎ (x ≡ a + 1)) ⊎ ((x ≢ a) × (x ≢ a + 1))
one_of_two x a = elim (cases_eq x a) [
  | inl first ↦ inl (inl first)
  | inr apart ↦ elim (cases_eq x (a + 1)) [ inl second ↦ inl (inr second) | inr apart' ↦ inr (apart, apart') ]
]

-- Pieces in a row. ----------------------------------------------------------------------------------------

-- x is one of the first two words of a stub that was picked, and calls the bridge
record IsCalled (words new : List ℕ) (test : ℕ → ℕ → Bool) (low high x : ℕ) : Type 0 where
  at : ℕ
  target : ℕ
  own : (x ≡ at) ⊎ (x ≡ at + 1)
  from : low ≤ at
  to : at + 3 ≤ high
  picked : is_picked words test at target ≡ true
  call : word_at new at ≡ call_word
  bridge : word_at new (at + 1) ≡ bridge_entry

-- .. or it stays
abbrev StaysOrCalled : (words now new : List ℕ) (test : ℕ → ℕ → Bool) (low high x : ℕ) → Type 0
StaysOrCalled words now new test low high x = (word_at new x ≡ word_at now x) ⊎ IsCalled words new test low high x

called_in : (words now new : List ℕ) (test : ℕ → ℕ → Bool) (low low' high high' x : ℕ) → low' ≤ low → high ≤ high'
    → StaysOrCalled words now new test low high x → StaysOrCalled words now new test low' high' x
called_in words now new test low low' high high' x down up (inl same) = inl same
called_in words now new test low low' high high' x down up (inr one) = inr (record {
  at = one.at;
  target = one.target;
  own = one.own;
  from = omega (arith, one.from, down);
  to = omega (arith, one.to, up);
  picked = one.picked;
  call = one.call;
  bridge = one.bridge;
})

-- the stubs are those that are picked in some words, and call the bridge in others then
called_by : (words now : List ℕ) (test : ℕ → ℕ → Bool) (a : ℕ) (pieces : List Piece) (x : ℕ) → a + size pieces ≤ length now
    → StaysOrCalled words now (with_calls now (links_where words test a pieces)) test a (a + size pieces) x
called_by words now test a [] x inside = inl refl
called_by words now test a (Fixed word ∷ pieces) x inside =
    let long = size-cons (Fixed word) pieces in
    called_in words now _ test (a + 1) a (a + 1 + size pieces) (a + size (Fixed word ∷ pieces)) x (omega arith) (omega (arith, long))
    (called_by words now test (a + 1) pieces x (omega (arith, inside, long)))
called_by words now test a (Link t ∷ pieces) x inside =
    let long = size-cons (Link t) pieces in
    let stubs = links_where words test (a + 3) pieces in
    let end = a + size (Link t ∷ pieces) in
    let By : Bool → Type 0 = λ b. is_picked words test a t ≡ b → StaysOrCalled words now (with_calls now (if b then a ∷ stubs else stubs)) test a end x in
    (elim (is_picked words test a t) as By [
      | false ↦ λ none. called_in words now _ test (a + 3) a (a + 3 + size pieces) end x (omega arith) (omega (arith, long)) (called_by words now test (a + 3) pieces x (omega (arith, inside, long)))
      | true ↦ λ picked.
          let two = with_two_words now a call_word bridge_entry in
          let new = with_calls two stubs in
          let beside = λ (b : ℕ) (below : b < a + 3). calls_beside two stubs b (beside_below (a + 3) (a + 3 + size pieces) b stubs below (links_among words test (a + 3) pieces)) in
          let room : a + 1 < length now = omega (arith, inside, long) in
          let here : (x ≡ a) ⊎ (x ≡ a + 1) → IsCalled words new test a end x = λ own. record {
            at = a;
            target = t;
            own = own;
            from = omega arith;
            to = omega (arith, long);
            picked = picked;
            call = beside a (omega arith) ∙ first_of_two now a call_word bridge_entry room;
            bridge = beside (a + 1) (omega arith) ∙ second_of_two now a call_word bridge_entry room;
          } in
          elim (one_of_two x a) [
            | inl which ↦ inr (here which)
            | inr apart ↦ elim (called_by words two test (a + 3) pieces x (omega (arith, inside, long, length-with_two_words now a call_word bridge_entry))) [
              | inl same ↦ inl (same ∙ word_beside_two now a x call_word bridge_entry apart.0 apart.1)
              | inr called ↦ called_in words now new test (a + 3) a (a + 3 + size pieces) end x (omega arith) (omega (arith, long)) (inr called)
            ]
          ]
    ]) refl

-- A page. -------------------------------------------------------------------------------------------------

-- A word of the page stays; or it is one of two that jumped into a page of this kind, and call the bridge.
pub data KeepsCall (IsGone : ℕ → Type 0) (old new : List ℕ) (page k : ℕ) : Type 0 where
  Same : word_at new (128 * page + k) ≡ word_at old (128 * page + k) → KeepsCall IsGone old new page k
  Called : (j : ℕ) → (k ≡ j) ⊎ (k ≡ j + 1) → j + 1 < 128 → word_at old (128 * page + j) ≡ jump_word → IsGone (word_at old (128 * page + (j + 1)) / 128)
      → word_at new (128 * page + j) ≡ call_word → word_at new (128 * page + (j + 1)) ≡ bridge_entry → KeepsCall IsGone old new page k

abbrev pub KeepsCalls : (IsGone : ℕ → Type 0) (old new : List ℕ) (page : ℕ) → Type 0
KeepsCalls IsGone old new page = (k : ℕ) → k < 128 → KeepsCall IsGone old new page k

pub calls_then : (IsGone : ℕ → Type 0) (old mid new : List ℕ) (page : ℕ) → KeepsCalls IsGone old mid page → IsSamePage mid new page → KeepsCalls IsGone old new page
calls_then IsGone old mid new page calls same k below = elim (calls k below) [
  | Same is ↦ Same (same k below ∙ is)
  | Called j own room jump gone call bridge ↦ Called j own room jump gone (same j (omega (arith, room)) ∙ call) (same (j + 1) room ∙ bridge)
]

pub then_calls : (IsGone : ℕ → Type 0) (old mid new : List ℕ) (page : ℕ) → IsSamePage old mid page → KeepsCalls IsGone mid new page → KeepsCalls IsGone old new page
then_calls IsGone old mid new page same calls k below = elim (calls k below) [
  | Same is ↦ Same (is ∙ same k below)
  | Called j own room jump gone call bridge ↦
      Called j own room (sym (same j (omega (arith, room))) ∙ jump) (subst (λ w. IsGone (w / 128)) (same (j + 1) room) gone) call bridge
]

-- its stubs into a page that is gone call the bridge
pub calls_unlinked : (IsGone : ℕ → Type 0) (image words : List ℕ) (victim page : ℕ) → IsGone victim → 128 * page + 128 ≤ length words → size (pieces_in image words page) ≤ 128
    → KeepsCalls IsGone words (with_calls words (stubs_into image words victim page)) page
calls_unlinked IsGone image words victim page gone inside fits k below =
    let new = with_calls words (stubs_into image words victim page) in
    elim (called_by words words (leads_into victim) (page_words * page) (pieces_in image words page) (128 * page + k) (omega (arith, inside, fits))) [
      | inl same ↦ Same same
      | inr one ↦
          let j = one.at % 128 in
          let at : one.at ≡ 128 * page + j = omega (arith, one.from, one.to, fits) in
          let behind : one.at + 1 ≡ 128 * page + (j + 1) = omega (arith, at) in
          let parts = and_parts (word_at words one.at == jump_word) (leads_into victim one.target (word_at words (one.at + 1))) one.picked in
          let into : word_at words (one.at + 1) / 128 ≡ victim = eqb-true _ _ parts.1 in
          Called j (elim one.own [ inl first ↦ inl (omega (arith, first, at)) | inr second ↦ inr (omega (arith, second, at)) ]) (omega (arith, at, one.to, fits))
          (ap (word_at words) (sym at) ∙ eqb-true _ _ parts.0) (subst IsGone (sym into ∙ ap (λ a. word_at words a / 128) behind) gone)
          (ap (word_at new) (sym at) ∙ one.call) (ap (word_at new) (sym behind) ∙ one.bridge)
    ]

-- A word of the page stays; or it is one of two as before; or of two that called the bridge, and jump to this place.
pub data KeepsJump (IsGone : ℕ → Type 0) (place : ℕ) (old new : List ℕ) (page k : ℕ) : Type 0 where
  Unresolved : KeepsCall IsGone old new page k → KeepsJump IsGone place old new page k
  Jumped : (j : ℕ) → (k ≡ j) ⊎ (k ≡ j + 1) → j + 1 < 128 → word_at old (128 * page + j) ≡ call_word → word_at old (128 * page + (j + 1)) ≡ bridge_entry
      → word_at new (128 * page + j) ≡ jump_word → word_at new (128 * page + (j + 1)) ≡ place → KeepsJump IsGone place old new page k

abbrev pub KeepsJumps : (IsGone : ℕ → Type 0) (place : ℕ) (old new : List ℕ) (page : ℕ) → Type 0
KeepsJumps IsGone place old new page = (k : ℕ) → k < 128 → KeepsJump IsGone place old new page k

-- a stub of it that called the bridge all along is resolved
pub jumps_resolved : (IsGone : ℕ → Type 0) (old mid : List ℕ) (s place page : ℕ) → KeepsCalls IsGone old mid page → 128 * page + 128 ≤ length mid → s / 128 ≡ page → s % 128 + 1 < 128
    → word_at old s ≡ call_word → word_at old (s + 1) ≡ bridge_entry → word_at mid s ≡ call_word → word_at mid (s + 1) ≡ bridge_entry
    → KeepsJumps IsGone place old (with_two_words mid s jump_word place) page
jumps_resolved IsGone old mid s place page calls inside own room call bridge call' bridge' k below =
    let new = with_two_words mid s jump_word place in
    let j = s % 128 in
    let at : s ≡ 128 * page + j = omega (arith, own) in
    let behind : s + 1 ≡ 128 * page + (j + 1) = omega (arith, at) in
    let within : s + 1 < length mid = omega (arith, inside, at, room) in
    let here : (k ≡ j) ⊎ (k ≡ j + 1) → KeepsJump IsGone place old new page k = λ which. Jumped j which room (ap (word_at old) (sym at) ∙ call) (ap (word_at old) (sym behind) ∙ bridge)
    (ap (word_at new) (sym at) ∙ first_of_two mid s jump_word place within) (ap (word_at new) (sym behind) ∙ second_of_two mid s jump_word place within) in
    elim (one_of_two k j) [
      | inl which ↦ here which
      | inr apart ↦
          let beside =
          λ (i : ℕ) (away : i ≢ j) (away' : i ≢ j + 1). word_beside_two mid s (128 * page + i) jump_word place (λ is. away (omega (arith, is, at))) (λ is. away' (omega (arith, is, at))) in
          elim (calls k below) [
            | Same is ↦ Unresolved (Same (beside k apart.0 apart.1 ∙ is))
            | Called i which room' jump gone first second ↦
                let not_first : i ≢ j = λ is. omega (arith, jump, ap (λ x. word_at old (128 * page + x)) is, ap (word_at old) at, call) in
                let not_second : i ≢ j + 1 = λ is. omega (arith, first, ap (λ x. word_at mid (128 * page + x)) is, ap (word_at mid) behind, bridge') in
                let not_before : i + 1 ≢ j = λ is. omega (arith, second, ap (λ x. word_at mid (128 * page + x)) is, ap (word_at mid) at, call') in
                Unresolved (Called i which room' jump gone (beside i not_first not_second ∙ first) (beside (i + 1) not_before (λ is. not_first (omega (arith, is))) ∙ second))
          ]
    ]
