use Rattle.std.proofs.Common.{◌≡◌, ◌+◌, ◌*◌, ℕ, List, ap, sym, subst, ◌∙◌}
use Rattle.std.specs.Prelude.{slice_index_or}
use Rattle.flash_words.specs.Pages.{page_words, set_page}
use Rattle.flash_words.specs.Memory.{Memory}
use Rattle.flash_model.specs.DecodeCache.{StandsAt}
use Rattle.flash_model.proofs.Renewing.{told_page}
use Rattle.flash_model.proofs.flash.Flash.program_known.Goals as goal

pub learn-requires-clause-stand : goal.learn-requires-clause-stand
learn-requires-clause-stand c =
    let old = c.args.self.now in
    let words : c.self.inside.cells.words ≡ set_page old.words c.args.page c.args.words.now = ap (λ (m : Memory). m.words) (c.self.view_is ∙ c.in_ok-program.ensures.fresh c.requires.erased) in
    λ i op near. subst (λ (w : List ℕ). StandsAt w (page_words * c.args.page + i) (slice_index_or c.args.micro_ops.now i op)) (sym words)
    (told_page old.words c.args.words.now c.args.micro_ops.now c.args.page c.in_ok-program.ensures.whole.0.words c.requires.page c.told-words c.requires.micro_ops i op near)
