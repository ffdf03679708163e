use Rattle.std.proofs.Common.{arith, inl, inr}
use Rattle.std.proofs.lemmas.Bool.{cases_lt}
use Rattle.flash_words.proofs.NextPageLaws.{word_passed, none_lower}
use Rattle.flash_words.proofs.page_set.PageSet.next.Goals as goal

pub returns-then-found-to-clause-lowest : goal.returns-then-found-to-clause-lowest
returns-then-found-to-clause-lowest c = λ lower from below. elim (cases_lt lower c.words.page) [
  | inl earlier ↦ c.words.invariant.1 lower from earlier
  | inr later ↦ none_lower c.args.self.now c.words.page c.word_of.result c.word_of.ensures.value (omega arith) (omega arith) (omega arith) lower later below
]

pub returns-else-found-to-clause-none : goal.returns-else-found-to-clause-none
returns-else-found-to-clause-none c = λ page from below. elim (cases_lt page c.words.page) [
  | inl earlier ↦ c.words.invariant.1 page from earlier
  | inr later ↦ none_lower c.args.self.now c.words.page c.word_of.result c.word_of.ensures.value (omega arith) (omega arith) (omega arith) page later (omega (arith, c.if-found-to.false))
]

pub words-preserved : goal.words-preserved
words-preserved c = (
  omega (arith, c.words.invariant.0),
  λ lower from below. elim (cases_lt lower c.words.page) [
    | inl earlier ↦ c.words.invariant.1 lower from earlier
    | inr later ↦ word_passed c.args.self.now c.words.page c.word_of.result c.word_of.ensures.value c.if-rest-ne0.false lower later below
  ],
)
