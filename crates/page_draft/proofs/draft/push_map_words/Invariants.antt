use Rattle.std.proofs.Common.{◌≡◌, ◌+◌, ◌++◌, take, map}
use Rattle.page_draft.proofs.draft.push_map_words.Given as goal

-- the map's words of the entries so far
abbrev pub invariant-loop-entry : goal.invariant-loop-entry
invariant-loop-entry l = l.words.items ≡ l.fn.words.items ++ map (λ entry. entry + l.more) (take l.entry-index l.entries)
