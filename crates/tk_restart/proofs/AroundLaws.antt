-- A page of the pool that is rewritten leaves the pages outside the pool.
use Rattle.std.proofs.Common.{◌≡◌, ℕ, ◌+◌, ◌*◌, ◌≤◌, List, length, arith, sym, subst}
use Rattle.flash_words.specs.Pages.{page_words, set_page, blank}
use Rattle.flash_words.specs.Memory.{Memory}
use Rattle.flash_words.specs.Operations.{erased_page, programmed_page}
use Rattle.flash_words.specs.declared.layout.Layout.{Layout}
use Rattle.flash_words.proofs.PageLaws as pages
use Rattle.page_index.specs.Maps.{IsPool}
use Rattle.pool_check.specs.Links.{HaveFormsAround}
use Rattle.tk_restart.proofs.SweepLaws.{blank_long}

pub around_set : (layout : Layout) (image words new : List ℕ) (page : ℕ) → length new ≡ page_words → page_words * page + page_words ≤ length words → IsPool layout page
    → HaveFormsAround layout image words → HaveFormsAround layout image (set_page words page new)
around_set layout image words new page long inside pool around other low out =
    let same = pages.page_other words new page other long inside (λ is. out (let Q : ℕ → Type 0 = λ p. IsPool layout p in subst Q (sym is) pool)) in
    rw same (around other low out)

pub around_torn : (layout : Layout) (image new : List ℕ) (m m' : Memory) (page : ℕ) → length new ≡ page_words → page_words * page + page_words ≤ length m.words → IsPool layout page
    → m' ≡ programmed_page (erased_page m page) page new → HaveFormsAround layout image m.words → HaveFormsAround layout image m'.words
around_torn layout image new m m' page long inside pool is around =
    let once = around_set layout image m.words blank page blank_long inside pool around in
    rw is (around_set layout image (set_page m.words page blank) new page long (omega (arith, pages.length-set_page m.words blank page blank_long inside, inside)) pool once)
