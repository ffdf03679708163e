use Rattle.std.proofs.Common.{◌≡◌, ℕ, ◌<◌, ◌^◌, ◌++◌, take, drop, get_or}
use Rattle.flash_words.specs.Pages.{programmed}
use Rattle.flash_words.proofs.cells.clear_bits.Given as goal

-- what is done, followed by what programming the rest gives, is what programming the page gives
abbrev pub invariant-loop-i : goal.invariant-loop-i
invariant-loop-i l = record {
  done : take l.i l.page ++ programmed (drop l.i l.page) (drop l.i l.words) ≡ programmed l.fn.page l.words;
  fit : (k : ℕ) → k < l.i → get_or l.words k 0 < 2 ^ 16;
}
