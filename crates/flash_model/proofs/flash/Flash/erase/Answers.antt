use Rattle.std.proofs.Common.{◌≡◌, ◌+◌, ◌*◌, sym, ap, subst}
use Rattle.flash_words.specs.Pages.{page_words, set_page, blank}
use Rattle.flash_words.specs.Memory.{Memory}
use Rattle.flash_words.proofs.ProgramLaws.{length-blank}
use Rattle.flash_model.specs.DecodeCache.{IsCacheBeside}
use Rattle.flash_model.proofs.Renewing.{erased_beside}
use Rattle.flash_model.proofs.flash.Flash.erase.Goals as goal

pub renew-requires-clause-beside : goal.renew-requires-clause-beside
renew-requires-clause-beside c =
    let old = c.self.inside.cells in
    let cache = c.self.inside.cache in
    let page = c.args.page in
    let words : c.erase.new.self.words ≡ set_page old.words page blank = ap (λ (m : Memory). m.words) c.in_ok-erase.ensures.done in
    subst (λ words. IsCacheBeside words cache (page_words * page) (page_words * page + page_words)) (sym words)
    (erased_beside old.words blank cache page c.self.invariant.1 c.erase.ensures.whole.0.words c.requires.page length-blank)
