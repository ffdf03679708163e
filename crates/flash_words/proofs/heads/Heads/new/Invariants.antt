use Rattle.std.proofs.Common.{◌≡◌, ℕ, ◌<◌, length}
use Rattle.flash_words.specs.Pages.{page_count}
use Rattle.flash_words.specs.Heads.{HasHead}
use Rattle.flash_words.proofs.heads.Heads.new.Given as goal

-- each page so far is in its set
abbrev pub invariant-pages : goal.invariant-pages
invariant-pages l = (length l.heads.pages.items ≡ page_count) × ((page : ℕ) → page < l.page → HasHead l.words l.heads page)
