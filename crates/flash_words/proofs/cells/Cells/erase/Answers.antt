use Rattle.std.proofs.Common.{sym, subst}
use Rattle.flash_words.specs.JumpSets.{IsBlankFrom}
use Rattle.flash_words.proofs.ProgramLaws.{blank_from}
use Rattle.flash_words.proofs.cells.Cells.erase.Goals as goal

pub set-requires-clause-rest : goal.set-requires-clause-rest
set-requires-clause-rest c = subst (λ page. IsBlankFrom page 0) (sym c.erased.ensures.value) blank_from
