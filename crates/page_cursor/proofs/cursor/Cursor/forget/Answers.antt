use Rattle.page_cursor.proofs.MarkLaws.{fresh_marks}
use Rattle.page_cursor.proofs.cursor.Cursor.forget.Goals as goal

pub returns : goal.returns
returns c = record { right = λ layout words. fresh_marks layout words _ c.forget.ensures.fresh }
