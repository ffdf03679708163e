-- Links of one page that a test picks call the kernel's bridge again: the page holds its run, and none of its links
-- leads where the test picks them.
use Rattle.std.proofs.Common.{◌≡◌, ℕ, ◌+◌, ◌-◌, ◌*◌, ◌/◌, ◌%◌, ◌<◌, ◌≤◌, ◌⊎◌, Bool, true, false, List, [], ◌∷◌, ◌++◌, length, arith, refl, sym, ap, ◌∙◌, inl, inr}
use Rattle.std.specs.Prelude.{◌≢◌, ◌==◌, ◌&&◌, if◌then◌else◌}
use Rattle.std.proofs.lemmas.Bool.{cases_lt, cases_eq}
use Rattle.std.proofs.lemmas.Bool.Decides.{nat_tests}
use Rattle.std.proofs.lemmas.Grind.{same_number_lists}
use Rattle.flash_words.specs.Pages.{word_count, page_words, word_at, page_of, set_page}
use Rattle.flash_words.specs.declared.layout.Layout.{Layout}
use Rattle.flash_words.proofs.PageLaws.{length-set_page, word_in_page, word_out_of_page, page_word, length-page_of, page_same}
use Rattle.flash_words.specs.Layouts.{most_image_words}
use Rattle.nat_template.specs.declared.piece.Piece.{Piece}
use Rattle.nat_template.specs.declared.piece.Piece.TheVariants.{Fixed, Link}
use Rattle.nat_template.specs.Stubs.{call_word, bridge_entry}
use Rattle.page_index.specs.Entries.{IsEntry}
use Rattle.page_index.proofs.ChangeLaws.{SamePage}
use Rattle.page_draft.specs.Standing.{IsLink, StandsAt, Stands, size, jump_word}
use Rattle.page_draft.specs.CodePages.{page_pieces, HoldsRun}
use Rattle.nat_page.specs.Links.{with_two_words}
use Rattle.nat_page.specs.Unlinking.{is_picked, links_where, with_calls, are_some}
use Rattle.page_draft.proofs.PieceLaws.{size-cons, stands_same}
use Rattle.nat_page.proofs.TwoWords.{length-with_two_words, first_of_two, second_of_two, word_beside_two, two_in_page}
use Rattle.nat_page.proofs.KeptLaws.{KeepsRun}
use Rattle.base.proofs.Numbers.{unequal}

by_test : (b : Bool) (P : Bool → Type 0) → P true → P false → P b
by_test test P one other = elim test as P [
  | true ↦ one
  | false ↦ other
]

-- P holds of each
abbrev pub Each : (ℕ → Type 0) → List ℕ → Type 0
Each P [] = Unit {0}
Each P (s ∷ stubs) = P s × Each P stubs

-- without stubs nothing changes
pub no_stubs : (words stubs : List ℕ) → are_some stubs ≡ false → with_calls words stubs ≡ words
no_stubs words [] none = refl
no_stubs words (s ∷ stubs) none = absurd (cc)

pub length-with_calls : (words stubs : List ℕ) → length (with_calls words stubs) ≡ length words
length-with_calls words [] = refl
length-with_calls words (s ∷ stubs) = length-with_calls (with_two_words words s call_word bridge_entry) stubs ∙ length-with_two_words words s call_word bridge_entry

-- a word beside all of them stays
abbrev pub Beside : ℕ → ℕ → Type 0
Beside x s = (x ≢ s) × (x ≢ s + 1)

pub calls_beside : (words stubs : List ℕ) (x : ℕ) → Each (Beside x) stubs → word_at (with_calls words stubs) x ≡ word_at words x
calls_beside words [] x beside = refl
calls_beside words (s ∷ stubs) x beside =
    calls_beside (with_two_words words s call_word bridge_entry) stubs x beside.1 ∙ word_beside_two words s x call_word bridge_entry beside.0.0 beside.0.1

-- the same calls leave words alike that were alike
two_alike : (words words' : List ℕ) (s x first second : ℕ) → length words ≡ length words' → s + 1 < length words → word_at words x ≡ word_at words' x
    → word_at (with_two_words words s first second) x ≡ word_at (with_two_words words' s first second) x
two_alike words words' s x first second long inside same = elim (cases_eq x s) [
  | inl is ↦ (
      let here : word_at (with_two_words words s first second) x ≡ first = ap (word_at (with_two_words words s first second)) is ∙ first_of_two words s first second inside in
      let here' : word_at (with_two_words words' s first second) x ≡ first = ap (word_at (with_two_words words' s first second)) is ∙ first_of_two words' s first second (omega arith) in
      here ∙ sym here')
  | inr apart ↦ elim (cases_eq x (s + 1)) [
    | inl is ↦ (
        let here' : word_at (with_two_words words' s first second) x ≡ second = ap (word_at (with_two_words words' s first second)) is ∙ second_of_two words' s first second (omega arith) in
        (ap (word_at (with_two_words words s first second)) is ∙ second_of_two words s first second inside) ∙ sym here')
    | inr apart' ↦ word_beside_two words s x first second apart apart' ∙ same ∙ sym (word_beside_two words' s x first second apart apart')
  ]
]

pub calls_alike : (words words' stubs : List ℕ) (x : ℕ) → length words ≡ length words' → Each (λ s. s + 1 < length words) stubs → word_at words x ≡ word_at words' x
    → word_at (with_calls words stubs) x ≡ word_at (with_calls words' stubs) x
calls_alike words words' [] x long inside same = same
calls_alike words words' (s ∷ stubs) x long inside same =
    let long' = length-with_two_words words s call_word bridge_entry in
    let long'' = length-with_two_words words' s call_word bridge_entry in
    calls_alike (with_two_words words s call_word bridge_entry) (with_two_words words' s call_word bridge_entry) stubs x (long' ∙ long ∙ sym long'') (rw long' inside.1)
    (two_alike words words' s x call_word bridge_entry long inside.0 same)

-- the links lie among the pieces
abbrev pub Among : (a end s : ℕ) → Type 0
Among a end s = (a ≤ s) × (s + 3 ≤ end)

among_more : (a a' end end' : ℕ) (stubs : List ℕ) → a' ≤ a → end ≤ end' → Each (Among a end) stubs → Each (Among a' end') stubs
among_more a a' end end' [] low high all = tt
among_more a a' end end' (s ∷ stubs) low high all = ((omega arith, omega arith), among_more a a' end end' stubs low high all.1)

pub links_among : (words : List ℕ) (test : ℕ → ℕ → Bool) (a : ℕ) (pieces : List Piece) → Each (Among a (a + size pieces)) (links_where words test a pieces)
links_among words test a [] = tt
links_among words test a (Fixed word ∷ pieces) =
    among_more _ _ _ _ _ (omega arith) (omega (arith, size-cons (Fixed word) pieces)) (links_among words test (a + 1) pieces)
links_among words test a (Link t ∷ pieces) =
    let rest = among_more (a + 3) a (a + 3 + size pieces) (a + size (Link t ∷ pieces)) (links_where words test (a + 3) pieces) (omega arith) (omega arith) (links_among words test (a + 3) pieces) in
    let P : Bool → Type 0 = λ b. Each (Among a (a + size (Link t ∷ pieces))) (if b then a ∷ links_where words test (a + 3) pieces else links_where words test (a + 3) pieces) in
    by_test (is_picked words test a t) P ((omega arith, omega arith), rest) rest

pub beside_below : (a end x : ℕ) (stubs : List ℕ) → x < a → Each (Among a end) stubs → Each (Beside x) stubs
beside_below a end x [] below all = tt
beside_below a end x (s ∷ stubs) below all = ((λ is. omega arith, λ is. omega arith), beside_below a end x stubs below all.1)

pub beside_above : (a end x : ℕ) (stubs : List ℕ) → end ≤ x → Each (Among a end) stubs → Each (Beside x) stubs
beside_above a end x [] above all = tt
beside_above a end x (s ∷ stubs) above all = ((λ is. omega arith, λ is. omega arith), beside_above a end x stubs above all.1)

pub among_inside : (a end n : ℕ) (stubs : List ℕ) → end ≤ n → Each (Among a end) stubs → Each (λ s. s + 1 < n) stubs
among_inside a end n [] fits all = tt
among_inside a end n (s ∷ stubs) fits all = (omega arith, among_inside a end n stubs fits all.1)

-- a link that isn't picked leads elsewhere
elsewhere : (first second t : ℕ) (test : ℕ → ℕ → Bool) (picked : Bool) → test t second ≡ picked → (first == jump_word && picked) ≡ false → first ≡ jump_word → test t second ≡ false
elsewhere first second t test true same none jump = absurd (grind (arith, nat_tests))
elsewhere first second t test false same none jump = same

link_left : (leads leads' : ℕ → ℕ → Type 0) (test : ℕ → ℕ → Bool) (first second t : ℕ) → ((b v : ℕ) → leads b v → test b v ≡ false → leads' b v) → (first == jump_word && test t second) ≡ false
    → IsLink leads first second t → IsLink leads' first second t
link_left leads leads' test first second t more none link = elim link [
  | inl bridge ↦ inl bridge
  | inr jump ↦ inr (jump.0, more t second jump.1 (elsewhere first second t test (test t second) refl none jump.0))
]

one_link : (b : Bool) (leads leads' : ℕ → ℕ → Type 0) (words : List ℕ) (picked : ℕ → ℕ → Bool) (a t : ℕ) (stubs : List ℕ) (pieces : List Piece)
    → ((c v : ℕ) → leads c v → picked c v ≡ false → leads' c v) → is_picked words picked a t ≡ b → a + 1 < length words
    → Each (Beside a) stubs → Each (Beside (a + 1)) stubs → Each (Beside (a + 2)) stubs → Each (λ s. s + 1 < length words) stubs → StandsAt leads words a (Link t)
    → Stands leads' (with_calls words stubs) (a + 3) pieces
    → Stands leads' (with_calls words (if b then a ∷ stubs else stubs)) a (Link t ∷ pieces)
one_link false leads leads' words picked a t stubs pieces more is inside zero one two room stands rest =
    let first = calls_beside words stubs a zero in
    let second = calls_beside words stubs (a + 1) one in
    let left = link_left leads leads' picked (word_at words a) (word_at words (a + 1)) t more is stands.0 in
    ((rw first (rw second left), calls_beside words stubs (a + 2) two ∙ stands.1), rest)
one_link true leads leads' words picked a t stubs pieces more is inside zero one two room stands rest =
    let words' = with_two_words words a call_word bridge_entry in
    let long = length-with_two_words words a call_word bridge_entry in
    let first = calls_beside words' stubs a zero ∙ first_of_two words a call_word bridge_entry inside in
    let second = calls_beside words' stubs (a + 1) one ∙ second_of_two words a call_word bridge_entry inside in
    let third = calls_beside words' stubs (a + 2) two ∙ word_beside_two words a (a + 2) call_word bridge_entry (λ same. omega arith) (λ same. omega arith) in
    let same : (b v : ℕ) → leads' b v → leads' b v = λ b v l. l in (
      (inl (first, second), third ∙ stands.1),
      stands_same _ _ _ _ _ _ same
          (λ k below. sym (calls_alike _ _ _ _ (sym long) room (sym (word_beside_two words a (a + 3 + k) call_word bridge_entry (λ same'. omega arith) (λ same'. omega arith))))) rest,
    )

-- the pieces stand with the calls among them
pub stands_unlinked : (leads leads' : ℕ → ℕ → Type 0) (words : List ℕ) (test : ℕ → ℕ → Bool) (a : ℕ) (pieces : List Piece) → ((b v : ℕ) → leads b v → test b v ≡ false → leads' b v)
    → a + size pieces ≤ length words → Stands leads words a pieces → Stands leads' (with_calls words (links_where words test a pieces)) a pieces
stands_unlinked leads leads' words test a [] more inside stands = tt
stands_unlinked leads leads' words test a (Fixed word ∷ pieces) more inside stands =
    let stubs = links_where words test (a + 1) pieces in (
      calls_beside words stubs a (beside_below (a + 1) (a + 1 + size pieces) a stubs (omega arith) (links_among words test (a + 1) pieces))
          ∙ stands.0,
      stands_unlinked leads leads' words test (a + 1) pieces more (omega arith) stands.1,
    )
stands_unlinked leads leads' words test a (Link t ∷ pieces) more inside stands =
    let stubs = links_where words test (a + 3) pieces in
    let among = links_among words test (a + 3) pieces in
    let rest = stands_unlinked leads leads' words test (a + 3) pieces more (omega arith) stands.1 in
    let beside : (x : ℕ) → x < a + 3 → Each (Beside x) stubs = λ x below. beside_below (a + 3) (a + 3 + size pieces) x stubs below among in
    one_link (is_picked words test a t) leads leads' words test a t stubs pieces more refl (omega arith) (beside a (omega arith)) (beside (a + 1) (omega arith)) (beside (a + 2) (omega arith))
    (among_inside _ _ _ _ (omega arith) among) stands.0 rest

-- the page holds its run
pub holds_unlinked : (leads leads' : ℕ → ℕ → Type 0) (image words : List ℕ) (test : ℕ → ℕ → Bool) (page first last : ℕ) → ((b v : ℕ) → leads b v → test b v ≡ false → leads' b v)
    → page_words * page + page_words ≤ length words → HoldsRun leads image words page first last
    → HoldsRun leads' image (with_calls words (links_where words test (page_words * page) (page_pieces image first last))) page first last
holds_unlinked leads leads' image words test page first last more inside holds =
    let base = page_words * page in
    let pieces = page_pieces image first last in
    let fits = holds.fits in
    let stubs = links_where words test base pieces in
    record {
      run = holds.run;
      fits = fits;
      stands = stands_unlinked leads leads' words test base pieces more (omega arith) holds.stands;
      rest = λ k behind below. calls_beside _ _ _ (beside_above _ _ _ _ (omega arith) (links_among words test base pieces)) ∙ holds.rest k behind below;
    }

-- every other page stays
pub other_unlinked : (leads : ℕ → ℕ → Type 0) (image words : List ℕ) (test : ℕ → ℕ → Bool) (page first last other : ℕ) → HoldsRun leads image words page first last → other ≢ page
    → SamePage words (with_calls words (links_where words test (page_words * page) (page_pieces image first last))) other
other_unlinked leads image words test page first last other holds apart =
    let base = page_words * page in
    let pieces = page_pieces image first last in
    let stubs = links_where words test base pieces in
    let among = links_among words test base pieces in
    record {
      word = λ k below. sym (calls_beside words stubs (page_words * other + k) (elim (cases_lt other page) [
        | inl lower ↦ beside_below base (base + size pieces) (page_words * other + k) stubs (omega arith) among
        | inr higher ↦ beside_above base (base + size pieces) (page_words * other + k) stubs (let above : page < other = unequal other page apart higher in omega arith) among
      ]));
    }

-- a page set to what other words hold there, where these differ nowhere else
pub set_page_of : (words words' : List ℕ) (page : ℕ) → length words' ≡ length words → page_words * page + page_words ≤ length words
    → ((x : ℕ) → (x < page_words * page) ⊎ (page_words * page + page_words ≤ x) → word_at words' x ≡ word_at words x)
    → set_page words page (page_of words' page) ≡ words'
set_page_of words words' page long inside beside =
    let new = page_of words' page in
    let size' = length-page_of words' page (omega arith) in
    same_number_lists _ _ (length-set_page words new page size' inside ∙ sym long) (λ i within.
    elim (cases_lt i (page_words * page)) [
      | inl low ↦ word_out_of_page words new page i size' inside (inl low) ∙ sym (beside i (inl low))
      | inr from ↦ elim (cases_lt i (page_words * page + page_words)) [
        | inr high ↦ word_out_of_page words new page i size' inside (inr high) ∙ sym (beside i (inr high))
        | inl to ↦ word_in_page words new page i size' inside from to ∙ page_word words' page (i - page_words * page) (omega arith) ∙ ap (word_at words') (omega arith)
      ]
    ])

pub unlinked_page : (leads : ℕ → ℕ → Type 0) (image words : List ℕ) (test : ℕ → ℕ → Bool) (page first last : ℕ) → page_words * page + page_words ≤ length words
    → HoldsRun leads image words page first last
    → set_page words page (page_of (with_calls words (links_where words test (page_words * page) (page_pieces image first last))) page)
    ≡ with_calls words (links_where words test (page_words * page) (page_pieces image first last))
unlinked_page leads image words test page first last inside holds =
    let base = page_words * page in
    let pieces = page_pieces image first last in
    let stubs = links_where words test base pieces in
    let among = links_among words test base pieces in
    set_page_of words (with_calls words stubs) page (length-with_calls words stubs) inside (λ x out. calls_beside words stubs x (elim out [
      | inl low ↦ beside_below base (base + size pieces) x stubs low among
      | inr high ↦ beside_above base (base + size pieces) x stubs (omega arith) among
    ]))

-- the pool keeps all
pub unlinks : (layout : Layout) (image words : List ℕ) (test : ℕ → ℕ → Bool) (page first last : ℕ) → length image ≤ most_image_words → length words ≡ word_count → page < 480
    → HoldsRun (IsEntry layout words) image words page first last
    → KeepsRun layout image words (with_calls words (links_where words test (page_words * page) (page_pieces image first last))) page first last
unlinks layout image words test page first last short whole low holds =
    let leads : ℕ → ℕ → Type 0 = λ a v. IsEntry layout words a v in
    record {
      short = short;
      whole = whole;
      whole' = length-with_calls words (links_where words test (page_words * page) (page_pieces image first last)) ∙ whole;
      others = λ other apart. other_unlinked leads image words test page first last other holds apart;
      old = holds;
      new = holds_unlinked leads leads image words test page first last (λ b v entry apart. entry) (omega arith) holds;
    }

-- one more call, in the words of its page
pub page_of_two : (words : List ℕ) (page s first second : ℕ) → page_words * page + page_words ≤ length words → s / page_words ≡ page → s % page_words + 1 < page_words
    → page_of (with_two_words words s first second) page ≡ with_two_words (page_of words page) (s % page_words) first second
page_of_two words page s first second inside own room =
    let k = s % page_words in
    let new = with_two_words (page_of words page) k first second in
    let long : length new ≡ page_words = length-with_two_words (page_of words page) k first second ∙ length-page_of words page inside in
    sym (ap (λ w. page_of w page) (two_in_page words page k first second inside room ∙ ap (λ b. with_two_words words b first second) (omega arith))) ∙ page_same words new page long inside

-- rows behind one another
pub links_where-append : (words : List ℕ) (test : ℕ → ℕ → Bool) (a : ℕ) (front back : List Piece) → links_where words test a (front ++ back) ≡ links_where words test a front
    ++ links_where words test (a + size front) back
links_where-append words test a [] back = ap (λ b. links_where words test b back) (omega arith)
links_where-append words test a (Fixed word ∷ front) back =
    links_where-append words test (a + 1) front back ∙ ap (λ b. links_where words test (a + 1) front ++ links_where words test b back) (omega (arith, size-cons (Fixed word) front))
links_where-append words test a (Link t ∷ front) back =
    let rest = links_where-append words test (a + 3) front back ∙ ap (λ b. links_where words test (a + 3) front ++ links_where words test b back) (omega (arith, size-cons (Link t) front)) in
    let behind = links_where words test (a + size (Link t ∷ front)) back in
    let P : Bool → Type 0 = λ b. (if b then a ∷ links_where words test (a + 3) (front ++ back) else links_where words test (a + 3) (front ++ back))
    ≡ (if b then a ∷ links_where words test (a + 3) front else links_where words test (a + 3) front) ++ behind in
    by_test (is_picked words test a t) P (ap (λ xs. a ∷ xs) rest) rest

pub with_calls-append : (words front back : List ℕ) → with_calls words (front ++ back) ≡ with_calls (with_calls words front) back
with_calls-append words [] back = refl
with_calls-append words (s ∷ front) back = with_calls-append (with_two_words words s call_word bridge_entry) front back
