use Rattle.std.proofs.Common.{◌≡◌, arith, sym, ◌∙◌, inl, inr}
use Rattle.std.proofs.lemmas.Bool.{cases_lt}
use Rattle.page_index.specs.Maps.{IsPool}
use Rattle.pool_check.proofs.LinkTests.{some_same}
use Rattle.pool_check.proofs.links.is_one_entry.Goals.{in-Some+else-other-place, in_default}
use Rattle.pool_check.proofs.links.is_one_entry.Goals as goal

pub returns-then-other-place : goal.returns-then-other-place
returns-then-other-place c =
    let pool : IsPool c.args.layout.now c.loop-page.page = record { from = c.loop-page.auto.page; to = c.loop-page-test.true } in
    let found = c.in-Some.ensures.found in
    record {
      value = (
        λ no. absurd (cc),
        λ one. absurd (c.if-other-place.true (one.one c.in-Some.other (record { page = c.loop-page.page; index = found.0; pool = pool; lists = found.1 }))),
      );
    }

pub loop-page-preserved : goal.loop-page-preserved
loop-page-preserved c =
    let pool : IsPool c.args.layout.now c.loop-page.page = record { from = c.loop-page.auto.page; to = c.loop-page-test.true } in
    elim c.match-place_in.branch [
      | in-Some+else-other-place w ↦ (
          let found = w.in-Some.ensures.found in
          record {
            here = λ yes'. record { page = c.loop-page.page; index = found.0; pool = pool; lists = rw w.if-other-place.false at found.1 };
            only = λ p i v pool' below lists. elim (cases_lt p c.loop-page.page) [
              | inl before ↦ ((c.loop-page.invariant.only p i v pool' before lists).0, w.found-is)
              | inr same ↦
                  let is : p ≡ c.loop-page.page = omega arith in
                  (some_same v w.in-Some.other (sym (c.place_in.ensures.only i v (rw is at lists)) ∙ w.in-Some.is) ∙ w.if-other-place.false, w.found-is)
            ];
          })
      | in_default w ↦ record {
        here = λ yes'. c.loop-page.invariant.here (sym w.found-is ∙ yes');
        only = λ p i v pool' below lists. elim (cases_lt p c.loop-page.page) [
          | inl before ↦ (let old = c.loop-page.invariant.only p i v pool' before lists in (old.0, w.found-is ∙ old.1))
          | inr same ↦ let is : p ≡ c.loop-page.page = omega arith in absurd (w.in_default.not-Some v (c.place_in.ensures.only i v (rw is at lists)))
        ];
      }
    ]
