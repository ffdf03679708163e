-- What changes of flash leave of the parts that links keep to, and what that says of an entry.
use Rattle.std.proofs.Common.{◌≡◌, ℕ, ◌+◌, ◌-◌, ◌*◌, ◌/◌, ◌≤◌, ◌⊎◌, List, [], ◌∷◌, length, arith, refl, sym, ap, ◌∙◌, inl, inr, subst, ⊎_elim}
use Rattle.std.specs.Prelude.{◌≢◌}
use Rattle.std.proofs.lemmas.Bool.{cases_eq}
use Rattle.flash_words.specs.Pages.{page_words, word_at, word_count}
use Rattle.flash_words.specs.Layouts.{IsRight, most_image_words}
use Rattle.flash_words.specs.declared.layout.Layout.{Layout}
use Rattle.nat_template.specs.declared.piece.Piece.{Piece}
use Rattle.nat_template.specs.declared.piece.Piece.TheVariants.{Fixed, Link}
use Rattle.nat_template.specs.Stubs.{call_word, bridge_entry}
use Rattle.page_index.specs.Maps.{IsPool, IsFree}
use Rattle.page_index.specs.Entries.{IsEntry}
use Rattle.page_index.proofs.ChangeLaws as change
use Rattle.page_index.proofs.MapLaws.{free_lists_nothing}
use Rattle.page_draft.specs.Standing.{IsLink, Stands, jump_word}
use Rattle.page_draft.specs.Runs.{address}
use Rattle.page_draft.specs.CodePages.{page_pieces, HoldsRun, Anywhere}
use Rattle.nat_page.specs.Links.{IsLinkOf, IsLinkIn, IsUnresolved, EachLink, with_two_words}
use Rattle.nat_page.specs.Faithful.{IsFaithful}
use Rattle.nat_page.specs.Making.{MakesPage}
use Rattle.nat_page.specs.Entered.{StandsIn}
use Rattle.nat_page.specs.Parts.{IsByPage, EntersPart, IsLinkFrom, IsParted}
use Rattle.page_draft.proofs.PieceLaws.{stands_split}
use Rattle.nat_page.proofs.HeldLaws.{held_listed}
use Rattle.nat_page.proofs.LinkLaws.{all_links, each_link_more, link_room}
use Rattle.nat_page.proofs.StayLaws.{held_used, same_run, holds_alike}
use Rattle.nat_page.proofs.FaithfulLaws.{faithful_mapped}
use Rattle.nat_page.proofs.EnteredLaws.{stands_by}
use Rattle.nat_page.proofs.KeptLaws.{KeepsRun, kept_holds}
use Rattle.nat_page.proofs.MadeLaws.{makes_holds, makes_other, makes_faithful}
use Rattle.nat_page.proofs.RelinkLaws.{relinks}
use Rattle.nat_page.proofs.TwoWords.{word_beside_two}

-- a link of a page that holds a run: its first two words, and its third
pub link_stands : (leads : ℕ → ℕ → Type 0) (image words : List ℕ) (page first last s t : ℕ) → HoldsRun leads image words page first last
    → IsLinkOf (page_pieces image first last) (page_words * page) s t
    → IsLink leads (word_at words s) (word_at words (s + 1)) t × (word_at words (s + 2) ≡ t)
link_stands leads image words page first last s t holds link =
    let two = stands_split leads words (page_words * page) link.before (Link t ∷ link.behind) (rw link.split at holds.stands) in
    rw link.at two.1.0

-- what holds of the target of each resolved link, where links lead
stands_with : (leads : ℕ → ℕ → Type 0) (Holds : ℕ → Type 0) (words : List ℕ) (a : ℕ) (pieces : List Piece) → EachLink (λ s t. word_at words s ≡ jump_word → Holds t) a pieces
    → Stands leads words a pieces
    → Stands (λ t v. leads t v × Holds t) words a pieces
stands_with leads Holds words a [] each stands = tt
stands_with leads Holds words a (Fixed word ∷ pieces) each stands = (stands.0, stands_with leads Holds words (a + 1) pieces each stands.1)
stands_with leads Holds words a (Link t ∷ pieces) each stands =
    let here : IsLink (λ b v. leads b v × Holds b) (word_at words a) (word_at words (a + 1)) t = elim stands.0.0 [
      | inl bridge ↦ inl bridge
      | inr jump ↦ inr (jump.0, (jump.1, each.0 jump.0))
    ] in
    ((here, stands.0.1), stands_with leads Holds words (a + 3) pieces each.1 stands.1)

-- so the links of a page lead to entries of its part
holds_parted : (layout : Layout) (image words : List ℕ) (part : ℕ → ℕ) (page first last : ℕ) → IsParted layout image words part → IsPool layout page
    → HoldsRun (IsEntry layout words) image words page first last
    → HoldsRun (EntersPart layout words part (part first)) image words page first last
holds_parted layout image words part page first last parted pool holds =
    let pieces = page_pieces image first last in
    let own = IsLinkOf pieces (page_words * page) in
    let link : (s t : ℕ) → own s t → IsLinkIn layout image words s t = λ s t at. record { page = page; pool = pool; first = first; last = last; holds = holds; link = at } in
    let each : (s t : ℕ) → own s t → word_at words s ≡ jump_word → part t ≡ part first = λ s t at jump. sym (parted s t (link s t at) jump) in
    let all = each_link_more own (λ s t. word_at words s ≡ jump_word → part t ≡ part first) (page_words * page) pieces each (all_links pieces (page_words * page)) in
    record { run = holds.run; fits = holds.fits; stands = stands_with (IsEntry layout words) (λ t. part t ≡ part first) words (page_words * page) pieces all holds.stands; rest = holds.rest }

-- what stands at an entry leads to entries of its part alone, by links of pages of its part
pub parted_stands : (layout : Layout) (image words : List ℕ) (part : ℕ → ℕ) (a v : ℕ) → IsByPage part → IsRight layout → IsFaithful layout image words → IsParted layout image words part
    → IsEntry layout words a v
    → StandsIn (EntersPart layout words part (part a)) (IsLinkFrom layout image words part (part a)) layout image words a v
parted_stands layout image words part a v paged right code parted entry = elim (code.pages entry.page entry.pool) [
  | inl free ↦ absurd (free_lists_nothing words entry.page entry.index a v free entry.lists)
  | inr run ↦ (
      let short : length image ≤ most_image_words = omega (arith, code.image_length, right.image_fits) in
      let q = part run.first in
      let Marks : ℕ → ℕ → Type 0 = λ s to. IsLinkFrom layout image words part q s to in
      let held = held_listed (IsEntry layout words) image words entry.page run.first run.last entry.index a v run.holds entry.lists in
      let near : (i : ℕ) → i ≤ run.last → part (address image run.first i) ≡ q = λ i below. paged (address image run.first i) run.first (run.holds.run.paged i below) in
      let own : (i w : ℕ) → i ≤ run.last → IsEntry layout words (address image run.first i) w → EntersPart layout words part q (address image run.first i) w =
      λ i w below there. (there, near i below) in
      let each : (s to : ℕ) → IsLinkOf (page_pieces image run.first run.last) (page_words * entry.page) s to → Marks s to =
      λ s to link. record { link = record { page = entry.page; pool = entry.pool; first = run.first; last = run.last; holds = run.holds; link = link }; own = refl } in
      let same : part a ≡ q = ap part held.address ∙ near entry.index held.near in
      rw same (stands_by (EntersPart layout words part q) Marks layout image words entry.page run.first run.last short (faithful_mapped layout image words right code) entry.pool
      (holds_parted layout image words part entry.page run.first run.last parted entry.pool run.holds) own each entry.index a v entry.lists))
]

-- a page whose words stay held the run that it holds
run_before : (layout : Layout) (leads : ℕ → ℕ → Type 0) (image words words' : List ℕ) (other b n : ℕ) → IsRight layout → IsFaithful layout image words → length words' ≡ word_count
    → IsPool layout other → change.SamePage words words' other
    → HoldsRun leads image words' other b n → HoldsRun (IsEntry layout words) image words other b n
run_before layout leads image words words' other b n right code whole pool same holds =
    elim (code.pages other pool) [
      | inl free ↦ absurd (held_used _ _ _ _ _ _ (omega (arith, code.image_length, right.image_fits)) holds (change.free_alike _ _ _ same (omega arith) (omega arith) free))
      | inr run ↦ (
          let there = holds_alike (IsEntry layout words) Anywhere image words words' other run.first run.last (λ t v entry. tt) same run.holds in
          let equal = same_run Anywhere leads image words' other run.first run.last b n there holds in
          rw equal.1 at (rw equal.0 at run.holds))
    ]

-- a link of a page whose words stay
other_parted : (layout : Layout) (image words words' : List ℕ) (part : ℕ → ℕ) (s t : ℕ) → IsRight layout → IsFaithful layout image words → length words' ≡ word_count → IsParted layout image words part
    → (link : IsLinkIn layout image words' s t) → change.SamePage words words' link.page → word_at words' s ≡ jump_word → part link.first ≡ part t
other_parted layout image words words' part s t right code whole parted link same jump =
    let room = link_room image link.page link.first link.last s t link.holds.fits link.link in
    let there : page_words * link.page + (s - page_words * link.page) ≡ s = omega arith in
    let before : word_at words s ≡ jump_word = sym (ap (word_at words) there) ∙ same.word (s - page_words * link.page) (omega arith) ∙ ap (word_at words') there ∙ jump in
    let holds = run_before _ _ _ _ _ _ _ _ right code whole link.pool same link.holds in
    parted s t (record { page = link.page; pool = link.pool; first = link.first; last = link.last; holds = holds; link = link.link }) before

-- where one page keeps its run, each of its links that is resolved was, or leads into its part
pub kept_parted : (layout : Layout) (image words words' : List ℕ) (part : ℕ → ℕ) (page first last : ℕ) → IsRight layout → IsFaithful layout image words → IsPool layout page
    → KeepsRun layout image words words' page first last
    → ((s t : ℕ) → IsLinkIn layout image words s t → word_at words' s ≡ jump_word → (word_at words s ≡ jump_word) ⊎ (part first ≡ part t)) → IsParted layout image words part
    → IsParted layout image words' part
kept_parted layout image words words' part page first last right code pool keeps each parted s t link jump = elim (cases_eq link.page page) [
  | inl same ↦ (
      let equal = same_run (IsEntry layout words) (IsEntry layout words') image words' page first last link.first link.last keeps.new (rw same at link.holds) in
      let Of : ℕ → ℕ → ℕ → Type 0 = λ b n p. IsLinkOf (page_pieces image b n) (page_words * p) s t in
      let there : Of first last page = rw equal.1 (rw equal.0 (rw same at link.link)) in
      let before : IsLinkIn layout image words s t = record { page = page; pool = pool; first = first; last = last; holds = keeps.old; link = there } in
      let own : part first ≡ part t = ⊎_elim (parted s t before) (λ own. own) (each s t before jump) in
      sym (ap part equal.0) ∙ own)
  | inr apart ↦ other_parted layout image words words' part s t right code keeps.whole' parted link (keeps.others link.page apart) jump
]

-- a link of a page in which all call the bridge isn't resolved
never_jumps : (image words : List ℕ) (page first last s t : ℕ) → HoldsRun (λ b v. ⊥) image words page first last → IsLinkOf (page_pieces image first last) (page_words * page) s t
    → word_at words s ≢ jump_word
never_jumps image words page first last s t holds link jump = elim (link_stands (λ b v. ⊥) image words page first last s t holds link).0 [
  | inl bridge ↦ (let here : call_word ≡ jump_word = sym bridge.0 ∙ jump in omega (arith, here))
  | inr never ↦ never.1
]

-- making a page keeps to the parts
pub makes_parted : (layout : Layout) (image old new : List ℕ) (part : ℕ → ℕ) (page t place : ℕ) → IsRight layout → IsFaithful layout image old → IsPool layout page → IsFree old page
    → MakesPage layout image old new page t place
    → IsParted layout image old part → IsParted layout image new part
makes_parted layout image old new part page t place right code pool free makes parted s to link jump = elim (cases_eq link.page page) [
  | inl same ↦ (
      let made = makes_holds layout (λ b v. ⊥) image old new page t place right code pool makes in
      let equal = same_run (λ b v. ⊥) (IsEntry layout new) image new page t makes.prepared.last link.first link.last made (rw same at link.holds) in
      let Of : ℕ → ℕ → ℕ → Type 0 = λ b n p. IsLinkOf (page_pieces image b n) (page_words * p) s to in
      let there : Of t makes.prepared.last page = rw equal.1 (rw equal.0 (rw same at link.link)) in
      absurd (never_jumps image new page t makes.prepared.last s to made there jump))
  | inr apart ↦ other_parted _ _ _ _ _ _ _ right code (makes_faithful _ _ _ _ _ _ _ right code pool free makes).whole parted link (makes_other _ _ _ _ _ _ _ _ right code pool makes apart) jump
]

module _ (layout : Layout) (image words : List ℕ) where
  -- so does erasing one
  pub erased_parted : (words' : List ℕ) (part : ℕ → ℕ) (victim : ℕ) → IsRight layout → IsFaithful layout image words → length words' ≡ word_count → IsFree words' victim
      → ((other : ℕ) → other ≢ victim → change.SamePage words words' other) → IsParted layout image words part → IsParted layout image words' part
  erased_parted words' part victim right code whole free others parted s t link jump = elim (cases_eq link.page victim) [
    | inl same ↦ absurd (held_used (IsEntry layout words') image words' victim link.first link.last (omega (arith, code.image_length, right.image_fits)) (rw same at link.holds) free)
    | inr apart ↦ other_parted layout image words words' part s t right code whole parted link (others link.page apart) jump
  ]

  -- resolving a stub to a target of its page's part
  pub relinked_parted : (part : ℕ → ℕ) (s t place : ℕ) → IsRight layout → IsFaithful layout image words → (stub : IsUnresolved layout image words s t)
      → IsLink (IsEntry layout words) jump_word place t → part stub.link.first ≡ part t → IsParted layout image words part → IsParted layout image (with_two_words words s jump_word place) part
  relinked_parted part s t place right code stub leads own parted =
      let own_link = stub.link in
      let words' = with_two_words words s jump_word place in
      kept_parted layout image words words' part own_link.page own_link.first own_link.last right code own_link.pool (relinks layout image words s t jump_word place right code own_link leads)
      (λ b to link jump.
      let there = link_stands (IsEntry layout words) image words link.page link.first link.last b to link.holds link.link in
      let here = link_stands (IsEntry layout words) image words own_link.page own_link.first own_link.last s t own_link.holds own_link.link in
      elim (cases_eq b s) [
        | inl same ↦ inr (own ∙ ap part (sym here.1 ∙ ap (λ x. word_at words (x + 2)) (sym same) ∙ there.1))
        | inr apart ↦ elim (cases_eq b (s + 1)) [
          | inl behind ↦ absurd (
              let bridge : word_at words b ≡ bridge_entry = ap (word_at words) behind ∙ stub.bridge in
              elim there.0 [
                | inl call ↦ (let never : bridge_entry ≡ call_word = sym bridge ∙ call.0 in omega (arith, never))
                | inr jumps ↦ (let never : bridge_entry ≡ jump_word = sym bridge ∙ jumps.0 in omega (arith, never))
              ])
          | inr away ↦ inl (sym (word_beside_two words s b jump_word place apart away) ∙ jump)
        ]
      ]) parted

  -- a link stays where its page keeps its run, and where its page's words stay
  pub link_kept : (words' : List ℕ) (part : ℕ → ℕ) (page first last q s t : ℕ) → KeepsRun layout image words words' page first last → IsLinkFrom layout image words part q s t
      → IsLinkFrom layout image words' part q s t
  link_kept words' part page first last q s t keeps from =
      let link = from.link in
      record {
        link = record { page = link.page; pool = link.pool; first = link.first; last = link.last; holds = kept_holds _ _ _ _ _ _ _ _ _ _ keeps link.holds; link = link.link };
        own = from.own;
      }

  pub link_stays : (words' : List ℕ) (part : ℕ → ℕ) (q s t : ℕ) → IsRight layout → length words ≡ word_count → IsFaithful layout image words' → (from : IsLinkFrom layout image words part q s t)
      → change.SamePage words words' from.link.page → IsLinkFrom layout image words' part q s t
  link_stays words' part q s t right whole code from same =
      let link = from.link in
      let holds = run_before layout (IsEntry layout words) image words' words link.page link.first link.last right code whole link.pool (change.same_back words words' link.page same) link.holds in
      record { link = record { page = link.page; pool = link.pool; first = link.first; last = link.last; holds = holds; link = link.link }; own = from.own }

  -- the page of a link is the one that it stands in
  pub link_page : (s t : ℕ) (link : IsLinkIn layout image words s t) → s / page_words ≡ link.page
  link_page s t link =
      let room = link_room image link.page link.first link.last s t link.holds.fits link.link in
      omega arith

  -- the stub through which control came is of one page alone
  pub same_origin : (s t t' : ℕ) (link : IsLinkIn layout image words s t) (other : IsLinkIn layout image words s t') → link.first ≡ other.first
  same_origin s t t' link other =
      let room = link_room image link.page link.first link.last s t link.holds.fits link.link in
      let room' = link_room image other.page other.first other.last s t' other.holds.fits other.link in
      let Held : ℕ → Type 0 = λ p. HoldsRun (IsEntry layout words) image words p other.first other.last in
      (same_run (IsEntry layout words) (IsEntry layout words) image words link.page link.first link.last other.first other.last link.holds (subst Held (omega arith) other.holds)).0
