-- A checker says one thing of a flash.
use Rattle.std.proofs.Common.{◌≡◌, ℕ, List, sym, ap, ◌∙◌, inl, inr}
use Rattle.std.proofs.lemmas.Bool.{cases_order}
use Rattle.flash_words.specs.Layouts.{IsRight}
use Rattle.flash_words.specs.declared.layout.Layout.{Layout}
use Rattle.pool_check.specs.declared.checking.Verdict.{Verdict}
use Rattle.pool_check.specs.declared.checking.Verdict.TheVariants.{Faithful, Form, Links}
use Rattle.pool_check.specs.Verdicts.{IsVerdict}
use Rattle.pool_check.proofs.CheckedLaws.{code_forms, code_links}

-- a checker says one thing
pub one_verdict : (layout : Layout) (image words : List ℕ) (a b : Verdict) → IsRight layout → IsVerdict layout image words a → IsVerdict layout image words b → a ≡ b
one_verdict layout image words (Faithful pages) (Faithful other) right first second = ap Faithful (first.1 ∙ sym second.1)
one_verdict layout image words (Faithful pages) (Form page) right first second = absurd (second.without (code_forms layout image words page right first.0 second.low))
one_verdict layout image words (Faithful pages) (Links page) right first second = absurd (second.1.without (code_links layout image words page right first.0 second.1.pool))
one_verdict layout image words (Form page) (Faithful pages) right first second = absurd (first.without (code_forms layout image words page right second.0 first.low))
one_verdict layout image words (Form page) (Form other) right first second = elim (cases_order page other) [
  | inl same ↦ ap Form same
  | inr (inl lower) ↦ absurd (first.without (second.lower page lower))
  | inr (inr higher) ↦ absurd (second.without (first.lower other higher))
]
one_verdict layout image words (Form page) (Links other) right first second = absurd (first.without (second.0 page first.low))
one_verdict layout image words (Links page) (Faithful pages) right first second = absurd (first.1.without (code_links layout image words page right second.0 first.1.pool))
one_verdict layout image words (Links page) (Form other) right first second = absurd (second.without (first.0 other second.low))
one_verdict layout image words (Links page) (Links other) right first second = elim (cases_order page other) [
  | inl same ↦ ap Links same
  | inr (inl lower) ↦ absurd (first.1.without (second.1.lower page first.1.pool lower))
  | inr (inr higher) ↦ absurd (second.1.without (first.1.lower other second.1.pool higher))
]
