use Rattle.std.proofs.Common.{ℕ, subst}
use Rattle.std.proofs.lemmas.Bool.{iff_false}
use Rattle.page_index.specs.Maps.{IsPool}
use Rattle.page_index.specs.Entries.{Lists}
use Rattle.page_index.proofs.EntryLaws.{page_of_place}
use Rattle.page_index.proofs.pool.origin.Goals as goal

pub returns-then-is_in_pool-clause-only : goal.returns-then-is_in_pool-clause-only
returns-then-is_in_pool-clause-only c = λ t entry.
    let words = c.args.flash.now.words in
    let page = page_of_place c.args.layout.now words t c.args.place c.requires.mapped entry in
    c.address_in.ensures.only entry.index t (let P : ℕ → Type 0 = λ p. Lists words p entry.index t c.args.place in subst P page entry.lists)

pub returns-else-is_in_pool-clause-only : goal.returns-else-is_in_pool-clause-only
returns-else-is_in_pool-clause-only c = λ t entry.
    let layout = c.args.layout.now in
    let page = page_of_place layout c.args.flash.now.words t c.args.place c.requires.mapped entry in
    absurd (iff_false c.is_in_pool.ensures.value c.if-is_in_pool.false (let P : ℕ → Type 0 = λ p. IsPool layout p in subst P page entry.pool))
