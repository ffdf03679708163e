use Rattle.std.proofs.Common.{◌≤◌, arith}
use Rattle.page_cursor.proofs.MarkLaws.{left_next, left_none}
use Rattle.page_cursor.proofs.marks.clear_pages.Goals as goal

pub pages-init : goal.pages-init
pages-init c = record { left = record { left = c.requires.covered } }

pub pages-preserved : goal.pages-preserved
pages-preserved c =
    let new = c.fill_page.new in
    record { left = left_next c.args.pages.now new.quiet new.marks c.pages.quiet c.pages.marks c.pages.i c.fill_page.ensures.filled c.fill_page.ensures.others c.pages.invariant.left }

pub returns : goal.returns
returns c =
    let all : 512 ≤ c.pages.i = omega (arith, c.pages-test.false) in
    record { clear = λ place within. left_none c.args.pages.now c.pages.quiet c.pages.marks c.pages.i place all c.pages.invariant.left within }
