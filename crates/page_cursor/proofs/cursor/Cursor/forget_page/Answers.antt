use Rattle.page_cursor.proofs.MarkLaws.{marks_beside}
use Rattle.page_cursor.proofs.cursor.Cursor.forget_page.Goals as goal

pub returns : goal.returns
returns c = record { right = λ layout words new same marks. marks_beside _ _ _ _ _ _ same c.forget_page.ensures.forgotten c.forget_page.ensures.others marks }
