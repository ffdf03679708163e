use Rattle.std.proofs.Common.{arith, refl, subst, inl, inr}
use Rattle.std.proofs.lemmas.Bool.{cases_lt}
use Rattle.flash_words.specs.Heads.{HasHead}
use Rattle.flash_words.proofs.heads.Heads.new.Goals as goal

pub pages-preserved : goal.pages-preserved
pages-preserved c =
    let words = c.args.words.now in (
      c.put.ensures.size,
      λ page below. elim (cases_lt page c.pages.page) [
        | inl earlier ↦ c.put.ensures.others words page (c.pages.invariant.1 page earlier)
        | inr later ↦ subst (HasHead words c.put.new.self) (omega arith) (c.put.ensures.here words refl)
      ],
    )
