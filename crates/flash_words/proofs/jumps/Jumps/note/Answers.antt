use Rattle.std.proofs.Common.{◌≡◌, ◌<◌, length, refl, sym, ap, ◌∙◌, arith}
use Rattle.std.specs.Prelude.{slice_index_or}
use Rattle.std.proofs.lemmas.List.{get_or_default}
use Rattle.flash_words.specs.declared.page_set.PageSet.{PageSet}
use Rattle.flash_words.specs.PageSets.{has_page}
use Rattle.flash_words.proofs.JumpLaws.{jump_kept}
use Rattle.flash_words.proofs.jumps.Jumps.note.Goals as goal

pub returns-clause-kept : goal.returns-clause-kept
returns-clause-kept c = λ all from to.
    let old = c.args.self.now in
    let page = c.args.page in
    let set = c.add.new.self in
    let inside : page < length old.sets.items = omega (arith, c.requires.page, c.requires.sized) in
    let was : (s : PageSet) → slice_index_or old.sets.items page s ≡ c.index_mut.result.now = λ s. get_or_default old.sets.items page s c.index_mut.result.now inside ∙ sym c.index_mut.ensures.value in
    jump_kept all old _ page c.args.target from to set c.requires.page c.requires.target refl
    (λ s other has. c.add.ensures.others other (sym (ap (λ x. has_page x other) (was s)) ∙ has))
    (λ s other apart. c.add.ensures.only other apart ∙ sym (ap (λ x. has_page x other) (was s)))
    c.add_source.ensures.size c.add_source.ensures.here c.add_source.ensures.others
