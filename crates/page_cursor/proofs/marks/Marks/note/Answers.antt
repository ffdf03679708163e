use Rattle.page_cursor.specs.Marks.{Marking}
use Rattle.page_cursor.proofs.MarkLaws.{covered_address}
use Rattle.page_cursor.proofs.marks.Marks.note.Goals as goal

pub invariant_of-self : goal.invariant_of-self
invariant_of-self c =
    let inside = c.self.inside in
    let before : Marking = record { quiet = inside.quiet; marks = inside.marks; pages = inside.pages; room = inside.room } in
    let known = rw (← c.self.view_is) at c.requires.known in
    covered_address before c.args.place _ known c.self.invariant
