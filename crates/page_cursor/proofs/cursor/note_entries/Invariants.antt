use Rattle.page_cursor.specs.Marks.{KeepsOthers}
use Rattle.page_cursor.specs.Cursors.{AreNoted}
use Rattle.page_cursor.proofs.MarkLaws.{IsKnownIn}
use Rattle.page_cursor.proofs.cursor.note_entries.Given as goal

-- the first entries of the page are noted, and what is known of other pages stays
abbrev pub invariant-entries : goal.invariant-entries
invariant-entries l = record {
  known : IsKnownIn l.marks l.page;
  noted : AreNoted l.flash.words l.marks l.page l.i;
  others : KeepsOthers l.fn.marks l.marks l.page;
}
