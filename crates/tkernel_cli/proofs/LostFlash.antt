-- What stands around the pool of a machine's flash, whether or not a page is torn.
use Rattle.std.proofs.Common.{◌≡◌, ℕ, ◌+◌, ◌*◌, ◌≤◌, List, length, sym, subst, arith}
use Rattle.std.specs.Prelude.{Option, Some, None, IfSome}
use Rattle.flash_words.specs.Pages.{page_words, set_page}
use Rattle.flash_words.specs.Layouts.{IsRight}
use Rattle.flash_words.specs.declared.layout.Layout.{Layout}
use Rattle.flash_words.proofs.PageLaws as pages
use Rattle.page_index.specs.Maps.{IsPool}
use Rattle.nat_page.specs.Faithful.{IsFaithful}
use Rattle.branch_bridge.specs.declared.rewriting.Torn.{Torn}
use Rattle.branch_bridge.specs.Operating.{with_torn}
use Rattle.branch_bridge.specs.Tried.{IsTorn}
use Rattle.kernel_entry.specs.Parts.{image_held}
use Rattle.pool_check.specs.Forms.{HasForm}
use Rattle.pool_check.specs.Links.{HaveFormsAround}
use Rattle.pool_check.proofs.CheckedLaws.{code_checked, forms_around}
use Rattle.program_steps.specs.Machines.{Machine}
use Rattle.program_steps.specs.Ready.{HasFault, IsInOrder}

-- a page of the pool that is rewritten leaves the pages outside it
around_unset : (layout : Layout) (image words new : List ℕ) (page : ℕ) → length new ≡ page_words → page_words * page + page_words ≤ length words → IsPool layout page
    → HaveFormsAround layout image (set_page words page new) → HaveFormsAround layout image words
around_unset layout image words new page long inside pool around other low out =
    let P : List ℕ → Type 0 = λ own. HasForm layout image other own in
    let same = pages.page_other words new page other long inside (λ is. out (let Q : ℕ → Type 0 = λ p. IsPool layout p in subst Q (sym is) pool)) in
    subst P same (around other low out)

around_code : (layout : Layout) (image words : List ℕ) → IsRight layout → IsFaithful layout image words → HaveFormsAround layout image words
around_code layout image words right faithful = forms_around layout image words (code_checked layout image words right faithful).forms

around_mended : (layout : Layout) (image words : List ℕ) (torn : Option Torn) → IsRight layout → length words ≡ 65536 → IfSome torn (IsTorn layout words)
    → IsFaithful layout image (with_torn words torn) → HaveFormsAround layout image words
around_mended layout image words None right whole is faithful = around_code layout image words right faithful
around_mended layout image words (Some torn) right whole is faithful =
    around_unset layout image words torn.words torn.page is.size (omega (arith, whole, is.pool.to, right.pool_below_kernel)) is.pool
    (around_code layout image (set_page words torn.page torn.words) right faithful)

torn_alone : (torn : Option Torn) (layout : Layout) (words : List ℕ) (m : Machine) → IfSome torn (λ t. IsTorn layout words t × HasFault m) → IfSome torn (IsTorn layout words)
torn_alone None layout words m is = tt
torn_alone (Some torn) layout words m is = is.0

pub around_machine : (m : Machine) → IsInOrder m → HaveFormsAround m.kernel.layout (image_held m.kernel) m.kernel.mote.flash.words
around_machine m order =
    around_mended m.kernel.layout (image_held m.kernel) m.kernel.mote.flash.words m.torn order.right order.whole.words
    (torn_alone m.torn m.kernel.layout m.kernel.mote.flash.words m order.tried.torn) order.faithful
