use Rattle.std.proofs.Common.{◌≡◌, ◌≤◌, Bool, true, false, length, arith, ◌∙◌, inl, inr}
use Rattle.std.proofs.lemmas.Bool.{cases_lt}
use Rattle.tk_restart.proofs.PageLaws.{code_alone, code_in_flash, code_map}
use Rattle.tk_restart.proofs.judging.judge.Goals as goal
use Rattle.flash_words.specs.Layouts.{most_image_words}

is_so_not : {b : Bool} → b ≡ true → b ≡ false → ⊥
is_so_not is_so not_so = cc

pub returns-then-not-is_code : goal.returns-then-not-is_code
returns-then-not-is_code c =
    record {
      judged = (
        λ free. is_so_not (c.is_blank.ensures.value.1 (c.page_words-words.ensures.words ∙ free)) c.if-is_blank.false,
        λ both. is_so_not (c.is_code.ensures.value.1 (rw c.page_words-words.ensures.words (code_alone c.args.image.now c.args.flash.now.words c.args.page both.0))) c.if-not-is_code.true,
      );
      whole = c.page_words-words.ensures.whole;
    }

pub is_alone-requires-clause-pages : goal.is_alone-requires-clause-pages
is_alone-requires-clause-pages c = λ page pool to.
    let words = c.args.flash.now.words in
    let image = c.args.image.now in
    let short : length image ≤ most_image_words = omega (arith, c.requires.length, c.requires.right.image_fits) in
    let code = code_in_flash image words c.args.page (rw c.page_words-words.ensures.words at (c.is_code.ensures.value.0 c.if-not-is_code.false)) in
    elim (cases_lt page c.args.page) [
      | inl before ↦ c.requires.pages page pool before
      | inr same ↦ (let own : c.args.page ≡ page = omega arith in inr (rw own at (code_map image words c.args.page short code)))
    ]

pub returns-then-not-is_alone : goal.returns-then-not-is_alone
returns-then-not-is_alone c = record {
  judged = (
    λ free. is_so_not (c.is_blank.ensures.value.1 (c.page_words-words.ensures.words ∙ free)) c.if-is_blank.false,
    λ both. is_so_not (c.is_alone.ensures.value.1 both.1) c.if-not-is_alone.true,
  );
  whole = c.page_words-words.ensures.whole;
}

pub returns : goal.returns
returns c =
    record {
      judged = (
        code_in_flash c.args.image.now c.args.flash.now.words c.args.page (rw c.page_words-words.ensures.words at (c.is_code.ensures.value.0 c.if-not-is_code.false)),
        c.is_alone.ensures.value.0 c.if-not-is_alone.false,
      );
      whole = c.page_words-words.ensures.whole;
    }
