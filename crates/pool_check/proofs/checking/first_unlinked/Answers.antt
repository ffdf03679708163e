use Rattle.std.proofs.Common.{◌≡◌, arith, inl, inr}
use Rattle.std.proofs.lemmas.Bool.{cases_lt}
use Rattle.pool_check.proofs.CheckedLaws.{mapped_page, pool_low}
use Rattle.pool_check.proofs.checking.first_unlinked.Goals as goal

pub has_links-requires-clause-pages : goal.has_links-requires-clause-pages
has_links-requires-clause-pages c = λ page pool.
    mapped_page _ _ _ _ (omega (arith, c.requires.length, c.requires.right.image_fits)) pool (c.requires.forms page (pool_low c.args.layout.now page c.requires.right pool))

pub loop-page-preserved : goal.loop-page-preserved
loop-page-preserved c = λ other pool below. elim (cases_lt other c.loop-page.page) [
  | inl before ↦ c.loop-page.invariant other pool before
  | inr same ↦ let is : other ≡ c.loop-page.page = omega arith in rw is (c.has_links.ensures.value.0 c.if-not-has_links.false)
]

pub returns : goal.returns
returns c = record { first = λ page pool. c.loop-page.invariant page pool (omega (arith, pool.to, c.loop-page-test.false)) }
