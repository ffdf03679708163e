-- Searches in the pool, and the links of a page one behind another.
use Rattle.std.proofs.Common.{◌≡◌, ℕ, Bool, true, false, ◌+◌, ◌*◌, ◌<◌, ◌≤◌, List, ◌∷◌, length, get_or, drop, ap, ◌∙◌, Some}
use Rattle.std.specs.Prelude.{Option, None}
use Rattle.std.proofs.lemmas.List.{drop_more, get_or_default}
use Rattle.pool_check.proofs.WidthLaws.{size_more}
use Rattle.flash_words.specs.Pages.{page_words, page_of}
use Rattle.flash_words.specs.declared.layout.Layout.{Layout}
use Rattle.flash_words.specs.Layouts.{most_image_words}
use Rattle.nat_template.specs.declared.piece.Piece.{Piece}
use Rattle.nat_template.specs.declared.piece.Piece.TheVariants.{Fixed, Link}
use Rattle.page_index.specs.Maps.{IsFree}
use Rattle.page_index.proofs.MapLaws.{free_lists_nothing}
use Rattle.page_draft.specs.Standing.{size, width}
use Rattle.page_draft.specs.CodePages.{page_pieces, Anywhere, IsCodePage}
use Rattle.nat_page.specs.Links.{IsLinkOf, EachLink}
use Rattle.nat_page.proofs.LinkLaws.{all_links, each_link_more, each_link_split}
use Rattle.nat_page.proofs.StayLaws.{held_used, same_run}
use Rattle.pool_check.specs.Forms.{first_told, last_told}
use Rattle.pool_check.specs.Links.{HasLinks, IsAlone, IsHere, IsRightLink}
use Rattle.pool_check.proofs.FormLaws.{holds_told}
use Rattle.pool_check.proofs.MovedLaws.{holds_in_flash}

value_or : Option ℕ → ℕ
value_or (Some n) = n
value_or None = 0

pub some_same : (m n : ℕ) → Some m ≡ Some n → m ≡ n
unfolding value_or
some_same m n same = ap value_or same

-- the first of pieces in a row, and the others
each_here : (links : ℕ → ℕ → Type 0) (a : ℕ) (piece : Piece) (pieces : List Piece) → EachLink links a (piece ∷ pieces) → IsHere links a piece × EachLink links (a + width piece) pieces
each_here links a (Fixed word) pieces all = (tt, all)
each_here links a (Link t) pieces all = (all.0, all.1)

each_back : (links : ℕ → ℕ → Type 0) (a : ℕ) (piece : Piece) (pieces : List Piece) → IsHere links a piece → EachLink links (a + width piece) pieces → EachLink links a (piece ∷ pieces)
each_back links a (Fixed word) pieces here all = all
each_back links a (Link t) pieces here all = (here, all)

pub row : (pieces : List Piece) (i : ℕ) (piece : Piece) → i < length pieces → get_or pieces i piece ≡ piece → drop i pieces ≡ piece ∷ drop (i + 1) pieces
row pieces i piece below is = drop_more pieces i piece below ∙ ap (λ p. p ∷ drop (i + 1) pieces) is

module _ (links : ℕ → ℕ → Type 0) (a i : ℕ) (piece : Piece) (pieces : List Piece) (below : i < length pieces) (is : get_or pieces i piece ≡ piece) where
  pub each_at : EachLink links a (drop i pieces) → IsHere links a piece × EachLink links (a + width piece) (drop (i + 1) pieces)
  each_at all = each_here links a piece (drop (i + 1) pieces) (rw (row pieces i piece below is) at all)

  pub each_from : IsHere links a piece → EachLink links (a + width piece) (drop (i + 1) pieces) → EachLink links a (drop i pieces)
  each_from here all = rw (row pieces i piece below is) (each_back links a piece (drop (i + 1) pieces) here all)

-- one of the links
one_of : (links : ℕ → ℕ → Type 0) (a s t : ℕ) (pieces : List Piece) → EachLink links a pieces → IsLinkOf pieces a s t → links s t
one_of links a s t pieces all link = rw link.at (each_link_split links a link.before (Link t ∷ link.behind) (rw link.split at all)).1.0

-- a page that is free has no entry and no link
pub free_links : (layout : Layout) (image words : List ℕ) (page : ℕ) → length image ≤ most_image_words → IsFree words page → HasLinks layout image words page
free_links layout image words page short free = record {
  alone = λ lower i j t v v' pool below lists lists'. free_lists_nothing words page j t v' free lists';
  lead = λ first last s t holds link jump. absurd (held_used Anywhere image words page first last short holds free);
}

module _ (layout : Layout) (image words : List ℕ) (page : ℕ) (pieces : List Piece) (code : IsCodePage image (page_of words page) 0)
    (is : pieces ≡ page_pieces image (first_told (page_of words page)) (last_told (page_of words page))) where
  -- the links of a page of code, by its pieces
  pub links_by : IsAlone layout words page → EachLink (IsRightLink layout words) (page_words * page) pieces → HasLinks layout image words page
  links_by alone all = record {
    alone = alone;
    lead = λ first last s t holds link jump.
        let own = holds_in_flash image words page (first_told (page_of words page)) (last_told (page_of words page)) (holds_told image (page_of words page) code) in
        let same = same_run Anywhere Anywhere image words page first last (first_told (page_of words page)) (last_told (page_of words page)) holds own in
        let there = rw same.1 at (rw same.0 at link) in
        one_of (IsRightLink layout words) (page_words * page) s t (page_pieces image (first_told (page_of words page)) (last_told (page_of words page))) (rw is at all) there jump;
  }

  pub links_back : HasLinks layout image words page → EachLink (IsRightLink layout words) (page_words * page) pieces
  links_back links =
      let t = first_told (page_of words page) in
      let last = last_told (page_of words page) in
      let holds = holds_in_flash image words page t last (holds_told image (page_of words page) code) in
      let own : ℕ → ℕ → Type 0 = λ s to. IsLinkOf (page_pieces image t last) (page_words * page) s to in
      rw is (each_link_more own (IsRightLink layout words) (page_words * page) (page_pieces image t last) (λ s to link. links.lead t last s to holds link)
      (all_links (page_pieces image t last) (page_words * page)))

-- the links behind the piece that a loop is at have what those from it on have
pub each_on : (links : ℕ → ℕ → Type 0) (a i : ℕ) (pieces : List Piece) (d : Piece) → i < length pieces → EachLink links a (drop i pieces)
    → EachLink links (a + width (get_or pieces i d)) (drop (i + 1) pieces)
each_on links a i pieces d below all = (each_at links a i (get_or pieces i d) pieces below (get_or_default pieces i (get_or pieces i d) d below) all).1

pub each_off : (links : ℕ → ℕ → Type 0) (a i : ℕ) (pieces : List Piece) (d : Piece) → i < length pieces → IsHere links a (get_or pieces i d)
    → EachLink links (a + width (get_or pieces i d)) (drop (i + 1) pieces) → EachLink links a (drop i pieces)
each_off links a i pieces d below here all = each_from links a i (get_or pieces i d) pieces below (get_or_default pieces i (get_or pieces i d) d below) here all

pub size_on : (i : ℕ) (pieces : List Piece) (d : Piece) → i < length pieces → size (drop i pieces) ≡ width (get_or pieces i d) + size (drop (i + 1) pieces)
size_on i pieces d below = size_more pieces i (get_or pieces i d) below (get_or_default pieces i (get_or pieces i d) d below)

pub is_so_not : {b : Bool} → b ≡ true → b ≡ false → ⊥
is_so_not is_so not_so = cc
