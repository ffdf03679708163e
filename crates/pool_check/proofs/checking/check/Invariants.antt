use Rattle.std.proofs.Common.{ℕ, ◌<◌}
use Rattle.flash_words.specs.Pages.{page_of}
use Rattle.pool_check.specs.Forms.{HasForm}
use Rattle.pool_check.proofs.checking.check.Given as goal

abbrev pub invariant-loop-page : goal.invariant-loop-page
invariant-loop-page l = (other : ℕ) → other < l.page → HasForm l.layout l.image other (page_of l.flash.words other)
