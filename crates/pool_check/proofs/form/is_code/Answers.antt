use Rattle.std.proofs.Common.{◌∙◌, ℕ, ◌<◌, ◌≤◌, arith, refl, sym}
use Rattle.pool_check.proofs.FormLaws.{told, page_told, stands_told, rest_told, is_code}
use Rattle.pool_check.proofs.LinkTests.{is_so_not}
use Rattle.pool_check.proofs.form.is_code.Goals.{then-words-ge-MOST_IMAGE_PAGES-via-then-words-ge-MOST_IMAGE_PAGES, then-words-ge-MOST_IMAGE_PAGES-via-else-words-ge-MOST_IMAGE_PAGES+then-count-lt1}
use Rattle.pool_check.proofs.form.is_code.Goals.{then-words-ge-MOST_IMAGE_PAGES-via-else-words-ge-MOST_IMAGE_PAGES+else-count-lt1+then-count-ge-MOST_ENTRIES}
use Rattle.pool_check.proofs.form.is_code.Goals as goal

not_both : {n m : ℕ} → n < m → m ≤ n → ⊥
not_both below from = omega arith

pub returns-then-words-ge-MOST_IMAGE_PAGES : goal.returns-then-words-ge-MOST_IMAGE_PAGES
returns-then-words-ge-MOST_IMAGE_PAGES c =
    record {
      value = (
        λ no. absurd (is_so_not no refl),
        λ code.
            let is = told c.args.image.now c.args.words.now c.requires.short code in
            elim c.then-words-ge-MOST_IMAGE_PAGES.branch [
              | then-words-ge-MOST_IMAGE_PAGES-via-then-words-ge-MOST_IMAGE_PAGES w ↦ absurd (not_both is.original w.if-words-ge-MOST_IMAGE_PAGES.true)
              | then-words-ge-MOST_IMAGE_PAGES-via-else-words-ge-MOST_IMAGE_PAGES+then-count-lt1 w ↦ absurd (not_both w.if-count-lt1.true is.some)
              | then-words-ge-MOST_IMAGE_PAGES-via-else-words-ge-MOST_IMAGE_PAGES+else-count-lt1+then-count-ge-MOST_ENTRIES w ↦ absurd (not_both is.few w.if-count-ge-MOST_ENTRIES.true)
            ],
      );
    }

pub returns-in-None : goal.returns-in-None
returns-in-None c =
    record { value = (λ no. absurd (is_so_not no refl), λ code. absurd (c.in-None.ensures.page (page_told c.args.image.now c.args.words.now code))) }

pub returns-then-not-stands : goal.returns-then-not-stands
returns-then-not-stands c =
    record {
      value = (
        λ no. absurd (is_so_not no refl),
        λ code.
            absurd (is_so_not (c.stands.ensures.value.1 (stands_told c.args.image.now c.args.words.now c.deref.result.now (c.deref.ensures.0 ∙ c.in-Some.ensures.page.1) code)) c.if-not-stands.true),
      );
    }

pub returns-else-not-stands : goal.returns-else-not-stands
returns-else-not-stands c =
    let words = c.args.words.now in
    let is = c.deref-in-Some.ensures.0 ∙ c.in-Some.ensures.page.1 in
    let stands = rw (c.deref.ensures.0 ∙ sym c.deref-in-Some.ensures.0) at (c.stands.ensures.value.0 c.if-not-stands.false) in
    record {
      value = (
        λ yes. is_code _ _ _ _ _ c.in-Some.ensures.page.0 is stands (λ k behind below. c.are_blank_from.ensures.value.0 yes k (omega (arith, c.size.ensures.value)) below),
        λ code. c.are_blank_from.ensures.value.1 (λ k behind below. rest_told c.args.image.now words c.deref-in-Some.result.now is code k (omega (arith, c.size.ensures.value)) below),
      );
    }
