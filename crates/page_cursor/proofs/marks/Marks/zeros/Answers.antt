use Rattle.std.proofs.Common.{refl}
use Rattle.page_cursor.proofs.MarkLaws.{covered_full}
use Rattle.page_cursor.proofs.marks.Marks.zeros.Goals as goal

pub invariant_of-result : goal.invariant_of-result
invariant_of-result c = covered_full _ refl
