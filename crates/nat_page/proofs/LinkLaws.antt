-- Where the links of a page stand: those of each template, and of the closing, are links of the page.
use Rattle.std.proofs.Common.{◌≡◌, ℕ, zero, suc, ◌+◌, ◌*◌, ◌<◌, ◌≤◌, List, [], ◌∷◌, ◌++◌, map, append_assoc, arith, refl, sym, ap, ◌∙◌, subst, ⊎_elim}
use Rattle.std.proofs.lemmas.Bool.{cases_lt}
use Rattle.flash_words.specs.Pages.{page_words}
use Rattle.nat_template.specs.declared.piece.Piece.{Piece}
use Rattle.nat_template.specs.declared.piece.Piece.TheVariants.{Fixed, Link}
use Rattle.page_draft.specs.Standing.{size}
use Rattle.page_draft.specs.Runs.{template_at, closing_at, address, templates}
use Rattle.page_draft.specs.CodePages.{map_words, code, page_pieces, page_size, place_in_page}
use Rattle.nat_page.specs.Links.{IsLinkOf, EachLink}
use Rattle.page_draft.proofs.PieceLaws.{size-cons, size-append, size-fixed}
use Rattle.page_draft.proofs.RunLaws.{length-map_words}

-- pieces in a row, as two rows
pub each_link_split : (links : ℕ → ℕ → Type 0) (a : ℕ) (front back : List Piece) → EachLink links a (front ++ back) → EachLink links a front × EachLink links (a + size front) back
each_link_split links a [] back all = (tt, let P : ℕ → Type 0 = λ b. EachLink links b back in subst P (omega arith) all)
each_link_split links a (Fixed word ∷ front) back all =
    let rest = each_link_split links (a + 1) front back all in
    let P : ℕ → Type 0 = λ b. EachLink links b back in
    (rest.0, subst P (omega (arith, size-cons (Fixed word) front)) rest.1)
each_link_split links a (Link t ∷ front) back all =
    let rest = each_link_split links (a + 3) front back all.1 in
    let P : ℕ → Type 0 = λ b. EachLink links b back in
    ((all.0, rest.0), subst P (omega (arith, size-cons (Link t) front)) rest.1)

-- links that are among more
pub each_link_more : (links links' : ℕ → ℕ → Type 0) (a : ℕ) (pieces : List Piece) → ((s t : ℕ) → links s t → links' s t) → EachLink links a pieces → EachLink links' a pieces
each_link_more links links' a [] more all = tt
each_link_more links links' a (Fixed word ∷ pieces) more all = each_link_more links links' (a + 1) pieces more all
each_link_more links links' a (Link t ∷ pieces) more all = (more a t all.0, each_link_more links links' (a + 3) pieces more all.1)

links_behind : (pieces before rest : List Piece) (base : ℕ) → pieces ≡ before ++ rest → EachLink (IsLinkOf pieces base) (base + size before) rest
links_behind pieces before [] base is = tt
links_behind pieces before (Fixed word ∷ rest) base is =
    let P : ℕ → Type 0 = λ b. EachLink (IsLinkOf pieces base) b rest in
    subst P (omega (arith, size-append before (Fixed word ∷ []))) (links_behind pieces (before ++ Fixed word ∷ []) rest base (is ∙ sym (append_assoc before (Fixed word ∷ []) rest)))
links_behind pieces before (Link t ∷ rest) base is =
    let P : ℕ → Type 0 = λ b. EachLink (IsLinkOf pieces base) b rest in
    let link : IsLinkOf pieces base (base + size before) t = record { before = before; behind = rest; split = is; at = refl } in
    (link, subst P (omega (arith, size-append before (Link t ∷ []))) (links_behind pieces (before ++ Link t ∷ []) rest base (is ∙ sym (append_assoc before (Link t ∷ []) rest))))

-- each link of pieces is one of them
pub all_links : (pieces : List Piece) (base : ℕ) → EachLink (IsLinkOf pieces base) base pieces
all_links pieces base =
    let P : ℕ → Type 0 = λ b. EachLink (IsLinkOf pieces base) b pieces in
    subst P (omega arith) (links_behind pieces [] pieces base refl)

one_template : (links : ℕ → ℕ → Type 0) (image : List ℕ) (a t n i : ℕ) → i < n → EachLink links a (templates image t n)
    → EachLink links (a + size (templates image t i)) (template_at image (address image t i))
one_template links image a t zero i below all = absurd (omega arith)
one_template links image a t (suc n) i below all =
    let two = each_link_split links a (templates image t n) (template_at image (address image t n)) all in
    ⊎_elim (λ before. one_template links image a t n i before two.0) (λ same. let is : i ≡ n = omega arith in rw is two.1) (cases_lt i n)

-- the links of the template of instruction i, and of the closing, in a page at the word address a
pub page_links : (image : List ℕ) (a t last i : ℕ) → i ≤ last
    → EachLink (IsLinkOf (page_pieces image t last) a) (a + place_in_page image t (suc last) i) (template_at image (address image t i)) × EachLink
    (IsLinkOf (page_pieces image t last) a) (a + (2 + suc last + size (templates image t (suc last)))) (closing_at image (address image t last))
unfolding page_pieces code
page_links image a t last i near =
    let links : ℕ → ℕ → Type 0 = λ s to. IsLinkOf (page_pieces image t last) a s to in
    let fixed = map_words image t (suc last) in
    let bodies = templates image t (suc last) in
    let end = closing_at image (address image t last) in
    let P : List Piece → ℕ → Type 0 = λ pieces b. EachLink links b pieces in
    let two = each_link_split links (a + 1 + 1) (map Fixed fixed) (bodies ++ end) (all_links (page_pieces image t last) a) in
    let three = each_link_split links (a + (2 + suc last)) bodies end (subst (P (bodies ++ end)) (omega (arith, size-fixed fixed, length-map_words image t (suc last))) two.1) in
    (subst (P (template_at image (address image t i))) (omega arith) (one_template links image (a + (2 + suc last)) t (suc last) i (omega arith) three.0), subst (P end) (omega arith) three.1)

-- a link lies inside its page
pub link_room : (image : List ℕ) (page first last s t : ℕ) → page_size image first last ≤ page_words → IsLinkOf (page_pieces image first last) (page_words * page) s t
    → (page_words * page ≤ s) × (s + 3 ≤ page_words * page + page_words)
link_room image page first last s t fits link =
    let whole : page_size image first last ≡ size link.before + size (Link t ∷ link.behind) = ap size link.split ∙ size-append link.before (Link t ∷ link.behind) in
    (omega (arith, link.at), omega (arith, link.at, size-cons (Link t) link.behind))
