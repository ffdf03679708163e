use Rattle.page_cursor.proofs.MarkLaws.{AreLeft}
use Rattle.page_cursor.proofs.marks.clear_pages.Given as goal

-- of the pages that are left something may be noted still, and of no other
abbrev pub invariant-pages : goal.invariant-pages
invariant-pages l = record { left : AreLeft l.pages l.quiet l.marks l.i }
