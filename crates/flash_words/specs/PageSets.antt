-- Serves private functions: a set of pages.
use Rattle.std.specs.Prelude.{ℕ, ◌/◌, ◌%◌, ◌==◌, Bool, slice_index}
use Rattle.std.specs.Int.{bit_at}
use Rattle.flash_words.specs.declared.page_set.PageSet.{PageSet}

-- a page is in the set: each of 512 has a bit of its own
abbrev pub has_page : PageSet → ℕ → Bool
has_page set page = bit_at (slice_index set.bits (page / 64 % 8)) (page % 64) == 1
