use Rattle.std.proofs.Common.{◌-◌}
use Rattle.page_draft.specs.Remaking.{IsWalked}
use Rattle.page_draft.proofs.remaking.remade.Given as goal

-- so many instructions were taken
abbrev pub invariant-walk : goal.invariant-walk
invariant-walk g l = IsWalked (g.I.ImageWords.words l.image) l.t l.count (l._taken - 1) l.pc l.draft
