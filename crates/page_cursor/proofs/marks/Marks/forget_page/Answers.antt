use Rattle.page_cursor.specs.Marks.{Marking}
use Rattle.page_cursor.proofs.MarkLaws.{covered_less}
use Rattle.page_cursor.proofs.marks.Marks.forget_page.Goals as goal

pub invariant_of-self : goal.invariant_of-self
invariant_of-self c =
    let inside = c.self.inside in
    let before : Marking = record { quiet = inside.quiet; marks = inside.marks; pages = inside.pages; room = inside.room } in
    covered_less before c.fill_page.new.quiet c.fill_page.new.marks c.args.page c.fill_page.ensures.filled c.fill_page.ensures.others c.self.invariant
