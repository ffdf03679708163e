use Rattle.std.proofs.Common.{◌≡◌, ℕ, true, false, arith, subst, inl, inr}
use Rattle.std.proofs.lemmas.Bool.{cases_lt}
use Rattle.page_index.specs.Maps.{IsFree}
use Rattle.page_index.proofs.HeadLaws.{not_free}
use Rattle.page_index.proofs.pool.free_page.Goals as goal

pub returns-then-is_free-clause-lowest : goal.returns-then-is_free-clause-lowest
returns-then-is_free-clause-lowest c = λ lower pool below free. elim (cases_lt lower c.pages.from) [
  | inl earlier ↦ c.pages.invariant.1 lower pool earlier free
  | inr later ↦ not_free c.args.flash.now.words lower (c.in-Some.ensures.lowest lower later below) free
]

pub pages-preserved : goal.pages-preserved
pages-preserved c =
    let words = c.args.flash.now.words in
    let page = c.in-Some.page in (
      omega (arith, c.in-Some.ensures.range.0, c.pages.invariant.0),
      λ lower pool below free. elim (cases_lt lower c.pages.from) [
        | inl earlier ↦ c.pages.invariant.1 lower pool earlier free
        | inr later ↦ elim (cases_lt lower page) [
          | inl before ↦ not_free words lower (c.in-Some.ensures.lowest lower later before) free
          | inr above ↦ absurd (let never : false ≡ true = c.if-is_free.ensures.value.1 (subst (λ (p : ℕ). IsFree words p) (omega arith) free) in cc)
        ]
      ],
    )

pub returns-clause-none : goal.returns-clause-none
returns-clause-none c = λ page pool free. elim (cases_lt page c.pages.from) [
  | inl earlier ↦ c.pages.invariant.1 page pool earlier free
  | inr later ↦ not_free c.args.flash.now.words page (c.in_default.ensures.none page later pool.to) free
]
