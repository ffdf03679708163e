use Rattle.std.proofs.Common.{◌+◌, ◌*◌, sym}
use Rattle.flash_words.specs.Pages.{page_words}
use Rattle.flash_model.proofs.Renewing.{cache_beside}
use Rattle.flash_model.proofs.flash.Flash.program.Goals as goal

pub renew-requires-clause-beside : goal.renew-requires-clause-beside
renew-requires-clause-beside c =
    let from = page_words * c.args.page in
    cache_beside c.self.inside.cells.words c.program.new.self.words c.self.inside.cache from (from + c.in_ok-count.count) c.self.invariant.1 (λ a out. sym (c.in_ok-count.ensures.others a out))
