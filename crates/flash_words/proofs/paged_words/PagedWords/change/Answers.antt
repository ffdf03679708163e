use Rattle.std.proofs.Common.{ℕ, ◌<◌, ◌≤◌, ◌⊎◌}
use Rattle.flash_words.specs.Pages.{page_words}
use Rattle.flash_words.proofs.HeadLaws.{page_set}
use Rattle.flash_words.proofs.JumpLaws.{jumps_outside}
use Rattle.flash_words.proofs.paged_words.PagedWords.change.Goals as goal

pub invariant_of-self : goal.invariant_of-self
invariant_of-self c =
    let old = c.self.inside.words.items in
    let put = page_set old c.put_words.new.words.items c.self.inside.heads c.args.page c.args.new.now c.put_words.ensures.value c.self.invariant.0 c.self.invariant.1 c.requires.page c.told-new in
    let changed = λ (k : ℕ) (within : k < page_words) (apart : (k < c.args.from) ⊎ (c.args.to ≤ k)). rw (← c.self.view_is) at (c.requires.changed k within apart) in
    let outside = jumps_outside old c.args.new.now c.self.inside.jumps c.args.page c.args.from c.args.to c.self.invariant.2 c.self.invariant.0 c.requires.page c.told-new changed in
    (put.size, c.renew.ensures.heads _ put.beside put.first, c.extend.ensures.jumps _ (rw c.put_words.ensures.value outside) put.own)

pub returns-clause-size : goal.returns-clause-size
returns-clause-size c = (invariant_of-self c).0
