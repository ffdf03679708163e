use Rattle.page_cursor.proofs.MarkLaws.{marks_same}
use Rattle.program_steps.proofs.arrival.forget.Goals as goal

pub returns-in-Nothing : goal.returns-in-Nothing
returns-in-Nothing c = record { right = λ layout old new same marks. marks_same layout old new c.args.cursor.now.marks (rw c.in-Nothing.is at same) marks }
