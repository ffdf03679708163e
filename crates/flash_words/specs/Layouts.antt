-- How flash is divided between the image, the code pool and the kernel.
use Rattle.std.specs.Prelude.{ℕ, ◌+◌, ◌-◌, ◌*◌, ◌≤◌, nat_le, if◌then◌else◌, List, take}
use Rattle.flash_words.specs.Pages.{page_words}
use Rattle.flash_words.specs.declared.layout.Layout.{Layout}

-- the most pages of an image, and the most words
abbrev pub most_image_pages : ℕ
most_image_pages = 192

abbrev pub most_image_words : ℕ
most_image_words = page_words * most_image_pages

-- the most entries of a page of the pool: its first two words are none
abbrev pub most_entries : ℕ
most_entries = page_words - 2

-- the image is below the pool, and the pool below the kernel's pages
pub record IsRight (layout : Layout) : Type 0 where
  pub image_fits : layout.image_words ≤ most_image_words
  pub image_below_pool : layout.image_words ≤ page_words * layout.pool_first
  pub pool_first : 128 ≤ layout.pool_first
  pub pool_pages : 1 ≤ layout.pool_pages
  pub pool_below_kernel : layout.pool_first + layout.pool_pages ≤ 480

-- the layout of an image of this many words: a long one takes pages from the pool
abbrev pub layout_of : ℕ → Layout
layout_of words = record {
  image_words = words;
  pool_first = if nat_le words 16384 then 128 else most_image_pages;
  pool_pages = if nat_le words 16384 then 352 else 288;
}

-- the words of the image, among those of flash
abbrev pub image_of : Layout → List ℕ → List ℕ
image_of layout words = take layout.image_words words
