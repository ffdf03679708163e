use Rattle.std.proofs.Common.{ℕ, List, sym, subst}
use Rattle.nat_page.specs.Faithful.{IsFaithful}
use Rattle.pool_tests.proofs.pool_pages.made_anew.Goals as goal

pub returns-in-Some-clause-faithful : goal.returns-in-Some-clause-faithful
returns-in-Some-clause-faithful c =
    subst (λ (i : List ℕ). IsFaithful c.args.layout.now i c.naturalise.new.flash.words) (sym c.naturalise.ensures.image) c.naturalise.ensures.faithful
