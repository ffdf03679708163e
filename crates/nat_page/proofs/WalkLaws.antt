-- The run of a used page, as the page's own words tell it.
use Rattle.std.proofs.Common.{◌≡◌, ℕ, ◌+◌, ◌-◌, ◌*◌, ◌<◌, ◌≤◌, Bool, true, false, List, [], ◌∷◌, arith, refl, sym, ap, subst}
use Rattle.std.specs.Prelude.{if◌then◌else◌, Option, Some, None, MatchOption}
use Rattle.arrayvec.specs.ArrayVec.{ArrayVec}
use Rattle.flash_words.specs.Pages.{page_words}
use Rattle.flash_words.specs.declared.layout.Layout.{Layout}
use Rattle.nat_template.specs.declared.piece.Piece.{Piece}
use Rattle.nat_template.specs.declared.piece.Piece.TheVariants.{Fixed, Link}
use Rattle.page_index.specs.Maps.{address_of, entry_count}
use Rattle.page_index.specs.Entries.{IsEntry}
use Rattle.page_draft.specs.Standing.{size}
use Rattle.page_draft.specs.CodePages.{page_pieces, HoldsRun, Anywhere, IsCodePage, IsPage}
use Rattle.nat_page.specs.Faithful.{IsRewritten}
use Rattle.nat_page.specs.Unlinking.{leads_into, is_picked, links_where, stubs_into, are_some}
use Rattle.nat_page.proofs.HeldLaws.{address_held, count_held, place_range}
use Rattle.nat_page.proofs.StayLaws.{holds_more}

-- the run begins at the map's first address, and has as many instructions as the map has entries
pub record OwnRun (leads : ℕ → ℕ → Type 0) (image words : List ℕ) (page : ℕ) : Type 0 where
  pub holds : HoldsRun leads image words page (address_of words page 0) (entry_count words page - 1)
  pub some : 1 ≤ entry_count words page
  pub few : entry_count words page + 2 < 128

pub own_run : (leads : ℕ → ℕ → Type 0) (image words : List ℕ) (page t last : ℕ) → HoldsRun leads image words page t last → OwnRun leads image words page
own_run leads image words page t last holds =
    let count = count_held leads image words page t last holds in
    let range = place_range leads image words page t last 0 holds (omega arith) in
    let P : ℕ → ℕ → Type 0 = λ b n. HoldsRun leads image words page b n in
    record {
      holds = subst (λ (b : ℕ). P b (entry_count words page - 1)) (sym (address_held leads image words page t last 0 holds (omega arith))) (subst (P t) (omega (arith, count)) holds);
      some = omega (arith, count);
      few = omega (arith, count);
    }

-- so the run that the page tells is one that fits into a page
pub own_page : (image words : List ℕ) (page t count : ℕ) → OwnRun Anywhere image words page → t ≡ address_of words page 0 → count ≡ entry_count words page → IsPage image t (count - 1)
own_page image words page t count own first number =
    let whole : IsPage image (address_of words page 0) (entry_count words page - 1) = record { run = own.holds.run; fits = own.holds.fits } in
    rw first (rw number whole)

pub is_found : (found : Option (ArrayVec Piece)) (P : Type 0) (Q : ArrayVec Piece → Type 0) → P → MatchOption found (¬ P) Q → ((pieces : ArrayVec Piece) → found ≡ Some pieces → ⊥) → ⊥
is_found None P Q holds told none = told holds
is_found (Some pieces) P Q holds told none = none pieces refl

-- a page of a faithful pool is one of code
pub code_page : (layout : Layout) (image words : List ℕ) (page : ℕ) → IsRewritten layout image words page → IsCodePage image words page
code_page layout image words page run = record {
  first = run.first;
  last = run.last;
  holds = holds_more (IsEntry layout words) Anywhere image words page run.first run.last (λ t v entry. tt) run.holds;
}

-- where no two words of the page are a jump into the other, no stub is
by_none : (test : Bool) (words : List ℕ) (victim a : ℕ) (stubs : List ℕ) → test ≡ false → stubs ≡ [] → (if test then a ∷ stubs else stubs) ≡ []
by_none false words victim a stubs is none = none
by_none true words victim a stubs is none = absurd (cc)

pub none_into : (words : List ℕ) (victim a : ℕ) (pieces : List Piece) → ((x : ℕ) → a ≤ x → x + 3 ≤ a + size pieces → is_picked words (leads_into victim) x 0 ≡ false)
    → links_where words (leads_into victim) a pieces ≡ []
none_into words victim a [] none = refl
none_into words victim a (Fixed word ∷ pieces) none = none_into words victim (a + 1) pieces (λ x from to. none x (omega arith) (omega arith))
none_into words victim a (Link t ∷ pieces) none =
    by_none (is_picked words (leads_into victim) a t) words victim a (links_where words (leads_into victim) (a + 3) pieces) (none a (omega arith) (omega arith))
    (none_into words victim (a + 3) pieces (λ x from to. none x (omega arith) (omega arith)))

pub no_stubs_into : (image words : List ℕ) (victim page : ℕ) → IsCodePage image words page → ((k : ℕ) → k < 127 → is_picked words (leads_into victim) (page_words * page + k) 0 ≡ false)
    → are_some (stubs_into image words victim page) ≡ false
no_stubs_into image words victim page run none =
    let fits = (own_run Anywhere image words page run.first run.last run.holds).holds.fits in
    let pieces = page_pieces image (address_of words page 0) (entry_count words page - 1) in
    let base = page_words * page in
    ap are_some (none_into words victim base pieces (λ x from to.
    subst (λ (b : ℕ). is_picked words (leads_into victim) b 0 ≡ false) (omega arith) (none (x - base) (omega arith))))
