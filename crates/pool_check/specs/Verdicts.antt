-- What a checker says.
use Rattle.std.specs.Prelude.{◌≡◌, ℕ, ◌<◌, List}
use Rattle.flash_words.specs.Pages.{page_count, page_of}
use Rattle.flash_words.specs.declared.layout.Layout.{Layout}
use Rattle.page_index.specs.Maps.{IsPool}
use Rattle.nat_page.specs.Faithful.{IsFaithful}
use Rattle.nat_page.specs.Used.{used_pages}
use Rattle.pool_check.specs.Forms.{HasForm}
use Rattle.pool_check.specs.Links.{HasLinks, HaveForms}
use Rattle.pool_check.specs.declared.checking.Verdict.{Verdict}
use Rattle.pool_check.specs.declared.checking.Verdict.TheVariants.{Faithful, Form, Links}

-- the lowest page without its form
pub record IsFirstMisshapen (layout : Layout) (image words : List ℕ) (page : ℕ) : Type 0 where
  pub low : page < page_count
  pub without : ¬ HasForm layout image page (page_of words page)
  pub lower : (other : ℕ) → other < page → HasForm layout image other (page_of words other)

-- the lowest page of the pool without its links
pub record IsFirstUnlinked (layout : Layout) (image words : List ℕ) (page : ℕ) : Type 0 where
  pub pool : IsPool layout page
  pub without : ¬ HasLinks layout image words page
  pub lower : (other : ℕ) → IsPool layout other → other < page → HasLinks layout image words other

abbrev pub IsVerdict : Layout → (image words : List ℕ) → Verdict → Type 0
IsVerdict layout image words (Faithful pages) = IsFaithful layout image words × (pages ≡ used_pages layout words)
IsVerdict layout image words (Form page) = IsFirstMisshapen layout image words page
IsVerdict layout image words (Links page) = HaveForms layout image words × IsFirstUnlinked layout image words page
