use Rattle.page_cursor.proofs.MarkLaws.{kept_or_fresh, marks_quiet, marks_read, noted_there, others_both}
use Rattle.page_cursor.proofs.cursor.Cursor.read_page.Goals as goal

pub returns-then-not-is_code_page-clause-read : goal.returns-then-not-is_code_page-clause-read
returns-then-not-is_code_page-clause-read c = λ t place same entry. absurd (c.is_code_page.ensures.none c.if-not-is_code_page.true t place same entry)

pub returns-then-not-is_code_page-clause-cursor : goal.returns-then-not-is_code_page-clause-cursor
returns-then-not-is_code_page-clause-cursor c =
    let told = c.quiet_page.ensures in
    marks_quiet _ _ _ _ _ c.requires.below_kernel told.others told.quiet (c.is_code_page.ensures.none c.if-not-is_code_page.true) (kept_or_fresh _ _ _ _ c.make_room.ensures.kept c.requires.cursor)

pub returns-clause-read : goal.returns-clause-read
returns-clause-read c = λ t place same entry. noted_there c.args.layout.now c.args.flash.now.words _ c.args.page t place c.requires.mapped c.note_entries.ensures.noted same entry

pub returns-clause-cursor : goal.returns-clause-cursor
returns-clause-cursor c =
    let told = c.note_entries.ensures in
    let code = c.is_code_page.ensures.map c.if-not-is_code_page.false in
    let layout = c.args.layout.now in
    let words = c.args.flash.now.words in
    marks_read layout words c.make_room.new.self c.note_entries.new.marks c.args.page c.requires.below_kernel c.requires.mapped code.0 code.1
    (others_both c.make_room.new.self c.quiet_page.new.self c.note_entries.new.marks c.args.page c.quiet_page.ensures.others told.others) told.noted
    (kept_or_fresh layout words c.args.self.now.marks c.make_room.new.self c.make_room.ensures.kept c.requires.cursor)
