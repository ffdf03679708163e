use Rattle.std.proofs.Common.{arith}
use Rattle.page_cursor.specs.Marks.{Marking}
use Rattle.page_cursor.proofs.MarkLaws.{covered_page}
use Rattle.page_cursor.proofs.marks.Marks.quiet_page.Goals as goal

pub invariant_of-self : goal.invariant_of-self
invariant_of-self c =
    let inside = c.self.inside in
    let before : Marking = record { quiet = inside.quiet; marks = inside.marks; pages = inside.pages; room = inside.room } in
    let room = rw (← c.self.view_is) at c.requires.room in
    covered_page before c.fill_page.new.quiet c.fill_page.new.marks c.args.page room (omega arith) c.requires.page c.fill_page.ensures.others c.self.invariant
