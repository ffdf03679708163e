use Rattle.addr_tables.proofs.NoteLaws.{noted_is, noted_notes, noted_tables}
use Rattle.addr_tables.proofs.tables.note.Goals as goal

pub returns-clause-notes : goal.returns-clause-notes
returns-clause-notes c = rw (noted_is _ _ _ _ _ c.note_in_set.ensures.after c.set_aside.ensures.after) (noted_notes _ _ _ c.note_in_set.ensures.size)

pub returns-clause-tables : goal.returns-clause-tables
returns-clause-tables c = λ layout words entry tables.
    rw (noted_is _ _ _ _ _ c.note_in_set.ensures.after c.set_aside.ensures.after) (noted_tables _ _ _ _ _ c.note_in_set.ensures.size entry tables)
