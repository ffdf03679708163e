use Rattle.std.proofs.Common.{arith, refl}
use Rattle.page_cursor.proofs.MarkLaws.{found_noted}
use Rattle.page_cursor.proofs.cursor.Cursor.find.Goals as goal

pub returns-clause-found : goal.returns-clause-found
returns-clause-found c = found_noted _ _ _ _ _ (omega (arith, c.ranges.place)) c.read_page.ensures.cursor c.address.ensures.noted

pub returns-clause-only : goal.returns-clause-only
returns-clause-only c = λ t entry. c.address.ensures.only t (c.read_page.ensures.read t c.args.place refl entry)
