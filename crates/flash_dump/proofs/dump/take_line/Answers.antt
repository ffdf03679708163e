use Rattle.std.proofs.Common.{ap, sym, ◌∙◌}
use Rattle.flash_dump.specs.DumpLines.{page_fault}
use Rattle.flash_dump.proofs.DumpLaws.{fault_of_form, fault_of_page, may_follow, taken_none, taken_page}
use Rattle.flash_dump.proofs.dump.take_line.Goals as goal

pub returns-then-is_empty-clause-taken : goal.returns-then-is_empty-clause-taken
returns-then-is_empty-clause-taken c = taken_none _ _ _ (sym c.is_empty.ensures ∙ c.if-is_empty.true) c.requires.open c.requires.low

pub returns-in-None-clause-faulty : goal.returns-in-None-clause-faulty
returns-in-None-clause-faulty c = fault_of_form _ _ (sym c.is_empty.ensures ∙ c.if-is_empty.false) c.in-None.ensures.cases

pub program-requires-clause-page : goal.program-requires-clause-page
program-requires-clause-page c = (may_follow _ _ (sym c.in-None-page_fault.ensures.value)).1

pub program-requires-clause-erased : goal.program-requires-clause-erased
program-requires-clause-erased c =
    let follows = may_follow _ _ (sym c.in-None-page_fault.ensures.value) in
    c.requires.open.blank_on _ follows.0 follows.1

pub returns-in-Some-page_fault-clause-faulty : goal.returns-in-Some-page_fault-clause-faulty
returns-in-Some-page_fault-clause-faulty c =
    let told = c.in-Some.ensures.cases in
    fault_of_page c.args.least c.args.line.now told.form ∙ ap (page_fault c.args.least) (sym told.page_is) ∙ sym c.in-Some-page_fault.ensures.value

pub returns-in-None-page_fault-clause-taken : goal.returns-in-None-page_fault-clause-taken
returns-in-None-page_fault-clause-taken c =
    let told = c.in-Some.ensures.cases in
    let follows = may_follow _ _ (sym c.in-None-page_fault.ensures.value) in
    taken_page _ _ _ _ _ _ told.form told.page_is told.words_are follows.0 follows.1 c.requires.open c.program.ensures.after
