use Rattle.std.proofs.Common.{ℕ, subst}
use Rattle.std.specs.Prelude.{IfNone}
use Rattle.page_index.specs.Entries.{IsEntry}
use Rattle.program_steps.proofs.Told.{none_there}
use Rattle.program_steps.proofs.walk.look.Goals as goal

pub returns-clause-none : goal.returns-clause-none
returns-clause-none c =
    let k = c.args.k.now in
    subst (λ a. IfNone c.origin.result ((t : ℕ) → ¬ IsEntry k.layout k.mote.flash.words t a)) c.requires.at (none_there c.origin.result c.origin.ensures.only)
