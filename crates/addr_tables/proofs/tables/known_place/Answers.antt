use Rattle.std.proofs.Common.{refl, sym, ◌∙◌}
use Rattle.addr_tables.specs.Changes.{Finds}
use Rattle.addr_tables.proofs.FindLaws.{found_in_pool}
use Rattle.addr_tables.proofs.tables.known_place.Goals as goal

pub returns-in-Some-clause-found : goal.returns-in-Some-clause-found
returns-in-Some-clause-found c = Finds.Hit c.in-Some.place (sym c.hit.ensures.value ∙ c.in-Some.is) refl refl

pub returns-in-None-clause-found : goal.returns-in-None-clause-found
returns-in-None-clause-found c = found_in_pool _ _ _ _ _ (sym c.hit.ensures.value ∙ c.in-None.is) c.entry.ensures.found c.entry.ensures.only
