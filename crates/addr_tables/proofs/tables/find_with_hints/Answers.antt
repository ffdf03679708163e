use Rattle.std.proofs.Common.{Some, None}
use Rattle.addr_tables.proofs.FindLaws.{finds_tables, finds_entry}
use Rattle.addr_tables.proofs.tables.find_with_hints.Goals as goal

pub returns-in-Ok-clause-tables : goal.returns-in-Ok-clause-tables
returns-in-Ok-clause-tables c =
    finds_tables c.args.layout.now c.args.flash.now.words c.args.sram.now c.note.new.sram c.args.t (Some c.in-Ok.place) c.look_up.ensures.size (rw c.note.ensures.after c.in-Ok.ensures.found)

pub returns-in-Ok-clause-entry : goal.returns-in-Ok-clause-entry
returns-in-Ok-clause-entry c =
    finds_entry c.args.layout.now c.args.flash.now.words c.args.sram.now c.note.new.sram c.args.t (Some c.in-Ok.place) (rw c.note.ensures.after c.in-Ok.ensures.found)

pub returns-in-Err-clause-entry : goal.returns-in-Err-clause-entry
returns-in-Err-clause-entry c = finds_entry c.args.layout.now c.args.flash.now.words c.args.sram.now c.args.sram.now c.args.t None c.in-Err.ensures.found
