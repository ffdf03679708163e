use Rattle.std.proofs.Common.{refl, sym, ap, ◌∙◌}
use Rattle.std.specs.Result.{result_ok}
use Rattle.page_index.specs.Entries.{IsEntry}
use Rattle.addr_tables.specs.Changes.{Finds}
use Rattle.addr_tables.proofs.FindLaws.{found_in_pool, if_ok}
use Rattle.addr_tables.proofs.tables.look_up.Goals as goal

pub returns-in-Some-clause-found : goal.returns-in-Some-clause-found
returns-in-Some-clause-found c = Finds.Hit c.in-Some.place (sym c.hit.ensures.value ∙ c.in-Some.is) refl refl

pub returns-in-None-clause-found : goal.returns-in-None-clause-found
returns-in-None-clause-found c =
    let layout = c.args.layout.now in
    let words = c.args.flash.now.words in
    found_in_pool _ _ _ _ _ (sym c.hit.ensures.value ∙ c.in-None.is) (if_ok (IsEntry layout words c.args.t) c.find.result c.find.ensures.found) (λ v entry. ap result_ok (c.find.ensures.only v entry))
