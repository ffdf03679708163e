use Rattle.std.proofs.Common.{◌≡◌, ℕ, List, length}
use Rattle.flash_words.specs.Pages.{page_count, page_of}
use Rattle.flash_words.specs.JumpSets.{AreJumpsOutside}
use Rattle.flash_words.proofs.jumps.Jumps.extend.Given as goal

-- the jumps whose second words were looked at are there too
abbrev pub invariant-words : goal.invariant-words
invariant-words l = record {
  sized : length l.self.sets.items ≡ page_count;
  sources : length l.self.sources.items ≡ page_count;
  outside : (all : List ℕ) → AreJumpsOutside all l.fn.self l.page l.from l.to → page_of all l.page ≡ l.words → AreJumpsOutside all l.self l.page l.k l.to;
}
