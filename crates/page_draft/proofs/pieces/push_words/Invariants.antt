use Rattle.std.proofs.Common.{◌≡◌, ◌++◌, take}
use Rattle.nat_template.specs.Stubs.{words_of}
use Rattle.page_draft.proofs.pieces.push_words.Given as goal

abbrev pub invariant-loop-piece : goal.invariant-loop-piece
invariant-loop-piece l = l.words.items ≡ l.fn.words.items ++ words_of (take l.piece-index l.pieces)
