use Rattle.pool_tests.proofs.pool_pages.made.Goals as goal

pub made_anew-requires-clause-unknown : goal.made_anew-requires-clause-unknown
made_anew-requires-clause-unknown c = λ v entry. let found = c.in-None.ensures.only v entry in cc
