use Rattle.std.proofs.Common.{◌≡◌, ◌+◌, ◌*◌, ℕ, length, arith, sym, ap, ◌∙◌, subst, inl, inr}
use Rattle.std.specs.Prelude.{if◌then◌else◌, slice_index}
use Rattle.flash_words.specs.Pages.{page_words, page_of, set_page, blank}
use Rattle.flash_words.proofs.PageLaws.{length-page_of}
use Rattle.flash_words.proofs.ProgramLaws.{length-blank}
use Rattle.flash_model.specs.DecodeCache.{IsCacheBeside}
use Rattle.flash_model.proofs.Renewing.{erased_beside, rewritten_beside}
use Rattle.flash_model.proofs.flash.Flash.rewrite.Goals as goal

pub first_changed-from-requires : goal.first_changed-from-requires
first_changed-from-requires c =
    record { sized = ap length c.page-before.ensures.value ∙ length-page_of c.self.inside.cells.words c.args.page (omega (arith, c.page-before.ensures.whole.words, c.requires.page)) }

pub last_changed-to-requires-clause-sized : goal.last_changed-to-requires-clause-sized
last_changed-to-requires-clause-sized c = ap length c.page-before.ensures.value
    ∙ length-page_of c.self.inside.cells.words c.args.page (omega (arith, c.page-before.ensures.whole.words, c.requires.page))

pub rewrite-requires-clause-changed : goal.rewrite-requires-clause-changed
rewrite-requires-clause-changed c = λ k within apart.
    let same : slice_index (page_of c.self.inside.cells.words c.args.page) k ≡ slice_index c.page-before.result.now k = ap (λ w. slice_index w k) (sym c.page-before.ensures.value) in
    same ∙ elim apart [ inl below ↦ c.first_changed-from.ensures.same k below | inr above ↦ c.last_changed-to.ensures.same k above within ]

-- neither is refused: what the page held of the words stays
pub renew-requires-clause-beside : goal.renew-requires-clause-beside
renew-requires-clause-beside c =
    let old = c.self.inside.cells in
    let cache = c.self.inside.cache in
    let page = c.args.page in
    let from = c.first_changed-from.result in
    let to = c.last_changed-to.result in
    let same : (k : ℕ) → slice_index (page_of old.words page) k ≡ slice_index c.page-before.result.now k = λ k. ap (λ w. slice_index w k) (sym c.page-before.ensures.value) in
    subst (λ words. IsCacheBeside words cache (page_words * page + from) (page_words * page + to)) (sym c.in-Ok.ensures.words)
    (rewritten_beside old.words c.args.words.now cache page from to c.self.invariant.1 c.page-before.ensures.whole.words c.requires.page c.told-words c.last_changed-to.ensures.size
    (λ k below. same k ∙ c.first_changed-from.ensures.same k below)
    (λ k above within. same k ∙ c.last_changed-to.ensures.same k above within))

-- the second is refused: the page is erased
pub renew-requires-then-stop-clause-beside : goal.renew-requires-then-stop-clause-beside
renew-requires-then-stop-clause-beside c =
    let old = c.self.inside.cells in
    let cache = c.self.inside.cache in
    let page = c.args.page in
    let words : c.rewrite.new.self.words ≡ set_page old.words page blank = c.in-Err.ensures.torn ∙ ap (λ b. if b then set_page old.words page blank else old.words) c.if-stop.true in
    subst (λ words. IsCacheBeside words cache (page_words * page) (page_words * page + page_words)) (sym words)
    (erased_beside old.words blank cache page c.self.invariant.1 c.page-before.ensures.whole.words c.requires.page length-blank)
