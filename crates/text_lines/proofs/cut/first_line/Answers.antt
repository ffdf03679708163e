use Rattle.std.proofs.Common.{[]}
use Rattle.text_lines.proofs.TextLaws.{cut_at_end, cut_at_feed, lines_cut}
use Rattle.text_lines.proofs.cut.first_line.Goals as goal

pub returns-in-Some-clause-cut : goal.returns-in-Some-clause-cut
returns-in-Some-clause-cut c =
    rw c.without_return.ensures.value (cut_at_feed _ _ _ c.in-Some.ensures.cases.0 c.in-Some.ensures.cases.1)

pub returns-in-Some-clause-lines : goal.returns-in-Some-clause-lines
returns-in-Some-clause-lines c =
    rw c.without_return.ensures.value (lines_cut _ _ _ (cut_at_feed _ _ _ c.in-Some.ensures.cases.0 c.in-Some.ensures.cases.1))

pub returns-in-None-clause-cut : goal.returns-in-None-clause-cut
returns-in-None-clause-cut c = rw c.without_return-in-None.ensures.value (cut_at_end _ c.in-None.ensures.cases c.requires)

pub returns-in-None-clause-lines : goal.returns-in-None-clause-lines
returns-in-None-clause-lines c =
    rw c.without_return-in-None.ensures.value (lines_cut _ _ [] (cut_at_end _ c.in-None.ensures.cases c.requires))
