use Rattle.std.proofs.Common.{arith}
use Rattle.page_cursor.proofs.cursor.Cursor.passes.Goals as goal

pub returns : goal.returns
returns c = record { passed = λ told. record { inside = omega (arith, c.ranges.place); quiet = c.is_quiet.ensures.quiet told } }
