use Rattle.tk_watch.proofs.ViewWordsLaws.{by_accesses, by_visits, by_changes, by_trace}
use Rattle.tk_watch.proofs.words.with_words.Goals as goal

pub returns-in-visits-clause-cases : goal.returns-in-visits-clause-cases
returns-in-visits-clause-cases c = by_visits _ _ c.visits.result c.in-visits.is c.visits.ensures.cases

pub returns-in-changes-clause-cases : goal.returns-in-changes-clause-cases
returns-in-changes-clause-cases c = by_changes _ _ c.changes.result c.in-changes.is c.changes.ensures.cases

pub returns-in-trace-clause-cases : goal.returns-in-trace-clause-cases
returns-in-trace-clause-cases c = by_trace _ _ c.trace.result c.in-trace.is c.trace.ensures.cases

pub returns-in-accesses-clause-cases : goal.returns-in-accesses-clause-cases
returns-in-accesses-clause-cases c = by_accesses _ _ c.accesses.result c.in-accesses.is c.accesses.ensures.cases
