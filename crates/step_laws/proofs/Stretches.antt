-- Words of the pool in a row, behind the first of which no entry's place stands.
use Rattle.std.proofs.Common.{◌∷◌, ◌≡◌, ℕ, ◌+◌, ◌%◌, ◌<◌, ◌≤◌, List, arith}
use Rattle.flash_words.specs.Pages.{page_words}
use Rattle.flash_words.specs.Layouts.{IsRight}
use Rattle.flash_words.specs.declared.layout.Layout.{Layout}
use Rattle.nat_template.specs.declared.piece.Piece.{Piece}
use Rattle.nat_template.specs.declared.piece.Piece.TheVariants.{Fixed}
use Rattle.page_draft.specs.Standing.{Stands, size}
use Rattle.page_draft.specs.Runs.{template_at, closing_at}
use Rattle.nat_page.specs.Entered.{IsPlace, HasNoPlace, IsLast, Behind, Next, Closed, StandsIn}
use Rattle.nat_page.specs.Links.{EachLink}
use Rattle.kernel_entry.specs.Parts.{image_held}
use Rattle.page_draft.proofs.PieceLaws.{size-cons}
use Rattle.step_laws.specs.States.{InPool, State, mote_of}
use Rattle.step_laws.specs.Settings.{IsSetting}
use Rattle.step_laws.specs.Links.{Links}

-- n words of the pool from w on
pub record IsStretch (layout : Layout) (words : List ℕ) (w n : ℕ) : Type 0 where
  pub pool : (k : ℕ) → k < n → InPool layout (w + k)
  pub inner : (k : ℕ) → 0 < k → k < n → ¬ IsPlace layout words (w + k)
  pub low : w + n ≤ 0xF000

-- words in one page of the pool
stretch_in : (layout : Layout) (words : List ℕ) (v n : ℕ) → IsRight layout → InPool layout v → v % page_words + n ≤ page_words → HasNoPlace layout words v (v + n) → IsStretch layout words v n
stretch_in layout words v n right pool fits alone =
    let from = pool.from in
    let to = pool.to in
    record {
      pool = λ k inside. record { from = omega arith; to = omega arith };
      inner = λ k some inside. alone (v + k) (omega arith) (omega arith);
      low = omega arith;
    }

-- a template, and a template with its closing
stretch_by : (links : Links) (layout : Layout) (image words : List ℕ) (a v : ℕ) → IsRight layout → InPool layout v → Behind links.enters links.marks layout image words a v
    → IsStretch layout words v (size (template_at image a))
stretch_by links layout image words a v right pool (Next next) = stretch_in layout words v (size (template_at image a)) right pool next.fits next.alone
stretch_by links layout image words a v right pool (Closed last) =
    stretch_in layout words v (size (template_at image a)) right pool (omega arith) (λ p after before. last.alone p after (omega arith))

pub stretch_of : (links : Links) (layout : Layout) (image words : List ℕ) (a v : ℕ) → IsRight layout → StandsIn links.enters links.marks layout image words a v
    → IsStretch layout words v (size (template_at image a))
stretch_of links layout image words a v right code = stretch_by links layout image words a v right code.pool code.behind

pub stretch_closed : (links : Links) (layout : Layout) (image words : List ℕ) (a v : ℕ) → IsRight layout → InPool layout v → IsLast links.enters links.marks layout image words a v
    → IsStretch layout words v (size (template_at image a) + size (closing_at image a))
stretch_closed links layout image words a v right pool last =
    stretch_in layout words v (size (template_at image a) + size (closing_at image a)) right pool (omega arith) (λ p after before. last.alone p after (omega arith))

-- the words behind the first n
pub stretch_behind : (layout : Layout) (words : List ℕ) (v n k : ℕ) → IsStretch layout words v (n + k) → 0 < n → 0 < k → IsStretch layout words (v + n) k
stretch_behind layout words v n k row some some' =
    record {
      pool = λ j below. let there : v + (n + j) ≡ v + n + j = omega arith in rw there at (row.pool (n + j) (omega arith));
      inner = λ j positive below. let there : v + (n + j) ≡ v + n + j = omega arith in rw there at (row.inner (n + j) (omega arith) (omega arith));
      low = let low = row.low in omega arith;
    }

-- the template of an address in a setting, whose pieces are these
pub record Here (links : Links) (x : State) (v : ℕ) (pieces : List Piece) : Type 0 where
  pub stands : Stands links.enters (mote_of x).flash.words v pieces
  pub marks : EachLink links.marks v pieces
  pub row : IsStretch x.kernel.layout (mote_of x).flash.words v (size pieces)

pub template_here : (links : Links) (x : State) (a v : ℕ) (pieces : List Piece) → IsSetting links x a v → template_at (image_held x.kernel) a ≡ pieces → Here links x v pieces
template_here links x a v pieces s is =
    let row = stretch_of links x.kernel.layout (image_held x.kernel) (mote_of x).flash.words a v s.ready.bounded.right s.code in
    record { stands = rw is at s.code.template; marks = rw is at s.code.linked; row = rw is at row }

pub size_three : (a b c : ℕ) (rest : List Piece) → size (Fixed a ∷ Fixed b ∷ Fixed c ∷ rest) ≡ 3 + size rest
size_three a b c rest = omega (arith, size-cons (Fixed a) (Fixed b ∷ Fixed c ∷ rest), size-cons (Fixed b) (Fixed c ∷ rest), size-cons (Fixed c) rest)
