use Rattle.std.proofs.Common.{ap, Some, arith}
use Rattle.page_index.proofs.EntryLaws.{one_address, page_of_place}
use Rattle.page_cursor.proofs.CursorLaws.{none_passed}
use Rattle.page_cursor.proofs.cursor.Cursor.origin.Goals as goal

pub returns-then-passes-clause-only : goal.returns-then-passes-clause-only
returns-then-passes-clause-only c =
    λ t entry. absurd (none_passed c.args.layout.now c.args.flash.now.words c.args.self.now c.args.place c.requires.cursor (c.passes.ensures.passed c.if-passes.true) t entry)

pub returns-in-Some-clause-found : goal.returns-in-Some-clause-found
returns-in-Some-clause-found c = c.requires.cursor.noted c.in-Some.address c.args.place (omega (arith, c.ranges.place)) c.in-Some.ensures.noted

pub returns-in-Some-clause-only : goal.returns-in-Some-clause-only
returns-in-Some-clause-only c =
    λ t entry. ap Some (one_address _ _ _ _ _ c.requires.mapped (c.requires.cursor.noted c.in-Some.address c.args.place (omega (arith, c.ranges.place)) c.in-Some.ensures.noted) entry)

pub returns-then-place-ge-KERNEL_FIRST-clause-only : goal.returns-then-place-ge-KERNEL_FIRST-clause-only
returns-then-place-ge-KERNEL_FIRST-clause-only c = λ t entry.
    absurd (omega (arith, page_of_place _ _ _ _ c.requires.mapped entry, entry.pool.to, c.requires.right.pool_below_kernel, c.if-place-ge-KERNEL_FIRST.true))
