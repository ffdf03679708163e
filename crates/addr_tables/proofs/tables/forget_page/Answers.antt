use Rattle.addr_tables.proofs.ForgetLaws.{forgets_none, forgets_gone, forgets_tables}
use Rattle.addr_tables.proofs.ForgottenLaws.{forgets_is}
use Rattle.addr_tables.proofs.tables.forget_page.Goals as goal

pub returns-then-has_place_in : goal.returns-then-has_place_in
returns-then-has_place_in c =
    let old = c.args.sram.now in
    let new = c.forget_each.new.sram in
    let forgets = c.forget_each.ensures.forgets in
    record {
      after = forgets_is c.args.page old new c.forget_each.ensures.size forgets;
      forgets = forgets;
      gone = forgets_gone c.args.page old new forgets;
      tables = λ layout words. forgets_tables layout words words c.args.page old new forgets (λ t v entry outside. entry);
      erased = λ layout words words'. forgets_tables layout words words' c.args.page old new forgets;
      size = (c.has_place_in.ensures.size, c.forget_each.ensures.size);
    }

pub returns-else-has_place_in : goal.returns-else-has_place_in
returns-else-has_place_in c =
    let old = c.args.sram.now in
    let forgets = forgets_none c.args.page old (c.has_place_in.ensures.none c.if-has_place_in.false) in
    let size = c.has_place_in.ensures.size in
    record {
      after = forgets_is c.args.page old old size forgets;
      forgets = forgets;
      gone = forgets_gone c.args.page old old forgets;
      tables = λ layout words. forgets_tables layout words words c.args.page old old forgets (λ t v entry outside. entry);
      erased = λ layout words words'. forgets_tables layout words words' c.args.page old old forgets;
      size = (size, size);
    }
