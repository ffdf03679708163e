use Rattle.std.proofs.Common.{◌∙◌}
use Rattle.std.proofs.lemmas.Bool.{iff_false}
use Rattle.page_index.proofs.EntryLaws.{page_of_place}
use Rattle.page_index.proofs.MapLaws.{free_lists_nothing}
use Rattle.page_cursor.proofs.MarkLaws.{own_lists}
use Rattle.page_cursor.proofs.cursor.is_code_page.Goals as goal

pub returns-then-not-is_in_pool-clause-none : goal.returns-then-not-is_in_pool-clause-none
returns-then-not-is_in_pool-clause-none c = λ told t place same entry.
    absurd (iff_false c.is_in_pool.ensures.value c.if-not-is_in_pool.true (rw (page_of_place c.args.layout.now c.args.flash.now.words t place c.requires.mapped entry ∙ same) at entry.pool))

pub returns-then-is_free-clause-none : goal.returns-then-is_free-clause-none
returns-then-is_free-clause-none c = λ told t place same entry.
    absurd (free_lists_nothing _ _ _ _ _ (c.is_free.ensures.value.0 c.if-is_free.true) (own_lists _ _ _ _ _ c.requires.mapped same entry))
