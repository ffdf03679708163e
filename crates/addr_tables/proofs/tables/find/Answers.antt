use Rattle.std.proofs.Common.{Some}
use Rattle.addr_tables.proofs.FindLaws.{finds_tables, finds_entry}
use Rattle.addr_tables.proofs.tables.find.Goals as goal

pub returns-clause-tables : goal.returns-clause-tables
returns-clause-tables c =
    finds_tables c.args.layout.now c.args.flash.now.words c.args.sram.now c.note.new.sram c.args.t (Some c.in_ok-place.place) c.known_place.ensures.size
    (rw c.note.ensures.after c.in_ok-place.ensures.found)

pub returns-clause-entry : goal.returns-clause-entry
returns-clause-entry c =
    finds_entry c.args.layout.now c.args.flash.now.words c.args.sram.now c.note.new.sram c.args.t (Some c.in_ok-place.place) (rw c.note.ensures.after c.in_ok-place.ensures.found)
