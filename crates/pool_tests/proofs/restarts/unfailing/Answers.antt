use Rattle.std.proofs.Common.{sym, ap, subst}
use Rattle.flash_words.specs.Memory.{Memory, loaded}
use Rattle.nat_page.proofs.FaithfulLaws.{new_flash_faithful}
use Rattle.pool_check.specs.Links.{HaveFormsAround}
use Rattle.pool_check.proofs.CheckedLaws.{code_checked, forms_around}
use Rattle.pool_tests.proofs.restarts.unfailing.Goals as goal

pub returns-in-Ok-clause-around : goal.returns-in-Ok-clause-around
returns-in-Ok-clause-around c =
    let layout = c.args.layout.now in
    let image = c.args.image.now in
    let faithful = new_flash_faithful layout image c.requires.right c.requires.long in
    subst (λ (m : Memory). HaveFormsAround layout image m.words) (sym c.in-Ok.ensures.new)
    (forms_around layout image (loaded image) (code_checked layout image (loaded image) c.requires.right faithful).forms)

pub returns-in-Ok-clause-sound : goal.returns-in-Ok-clause-sound
returns-in-Ok-clause-sound c = ap (λ (m : Memory). m.failing) c.in-Ok.ensures.new

pub returns-in-Ok-clause-fresh : goal.returns-in-Ok-clause-fresh
returns-in-Ok-clause-fresh c = ap (λ (m : Memory). m.ops) c.in-Ok.ensures.new
