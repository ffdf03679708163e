use Rattle.std.proofs.Common.{arith}
use Rattle.page_cursor.proofs.marks.Marks.forget.Goals as goal

pub clear_pages-requires : goal.clear_pages-requires
clear_pages-requires c = record { covered = c.self.invariant.pages (omega arith) }
