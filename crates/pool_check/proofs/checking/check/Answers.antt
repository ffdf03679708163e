use Rattle.std.proofs.Common.{arith, rules}
use Rattle.pool_check.proofs.LinkTests.{is_so_not}
use Rattle.pool_check.proofs.CheckedLaws.{checked_code, code_forms, code_links}
use Rattle.pool_check.proofs.checking.check.Goals as goal

pub returns-then-not-page_form-clause-verdict : goal.returns-then-not-page_form-clause-verdict
returns-then-not-page_form-clause-verdict c = search rules

pub returns-then-not-page_form-clause-faithful : goal.returns-then-not-page_form-clause-faithful
returns-then-not-page_form-clause-faithful c = λ code.
    let form = rw (← c.page_words.ensures.words) at (code_forms c.args.layout.now c.args.image.now c.args.flash.now.words c.loop-page.page c.requires.right code (omega arith)) in
    absurd (is_so_not (c.page_form.ensures.value.1 form) c.if-not-page_form.true)

pub returns-in-Some-clause-faithful : goal.returns-in-Some-clause-faithful
returns-in-Some-clause-faithful c = λ code.
    let first = c.in-Some.ensures.first in
    absurd (first.without (code_links c.args.layout.now c.args.image.now c.args.flash.now.words c.in-Some.page c.requires.right code first.pool))

pub returns-in-None-clause-verdict : goal.returns-in-None-clause-verdict
returns-in-None-clause-verdict c = (
  checked_code _ _ _ c.requires.right c.pages_in_use.ensures.whole.words c.requires.length
      (record { forms = λ page low. c.loop-page.invariant page (omega (arith, c.loop-page-test.false)); links = c.in-None.ensures.first }),
  c.pages_in_use.ensures.value,
)
