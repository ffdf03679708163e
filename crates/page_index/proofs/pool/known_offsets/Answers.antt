use Rattle.std.proofs.Common.{ℕ, ◌+◌, ◌*◌, ◌∙◌, arith, refl, subst, inl, inr}
use Rattle.std.proofs.lemmas.Bool.{cases_lt}
use Rattle.page_index.specs.Entries.{Lists}
use Rattle.page_index.proofs.HeadLaws.{lists_no_other}
use Rattle.page_index.proofs.KnownLaws.{none_known}
use Rattle.page_index.proofs.pool.known_offsets.Goals as goal

pub pages-init : goal.pages-init
pages-init c = record {
  start = omega arith;
  size = refl;
  found = λ k below is. absurd (none_known 128 k is);
  only = λ lower i k v below pool before lists. absurd (omega (arith, before, pool.from));
}

pub pages-preserved : goal.pages-preserved
pages-preserved c =
    let words = c.args.flash.now.words in
    let original = c.args.original in
    let page = c.in-Some.page in
    let before = c.pages.invariant in
    let marks = c.mark_offsets.ensures in
    record {
      start = omega (arith, before.start, c.in-Some.ensures.range.0);
      size = marks.size ∙ before.size;
      found = λ k below is. elim (marks.only k below is) [
        | inl old ↦ before.found k below old
        | inr listed ↦ (
          listed.1,
          record {
            page = page;
            index = listed.0;
            pool = record { from = omega (arith, before.start, c.in-Some.ensures.range.0); to = c.in-Some.ensures.range.1 };
            lists = listed.2;
          },
        )
      ];
      only = λ lower i k v below pool above lists. elim (cases_lt lower c.pages.from) [
        | inl earlier ↦ marks.kept k (before.only lower i k v below pool earlier lists)
        | inr later ↦ elim (cases_lt lower page) [
          | inl between ↦ absurd (lists_no_other words lower i original k v below (c.requires.mapped.pages lower pool) (c.in-Some.ensures.lowest lower later between) lists)
          | inr same ↦ marks.marked k i v below (subst (λ (p : ℕ). Lists words p i (128 * original + k) v) (omega arith) lists)
        ]
      ];
    }

pub returns : goal.returns
returns c =
    let before = c.pages.invariant in
    record {
      known = record {
        size = before.size;
        found = before.found;
        only = λ k v below entry. elim (cases_lt entry.page c.pages.from) [
          | inl earlier ↦ before.only entry.page entry.index k v below entry.pool earlier entry.lists
          | inr later ↦ absurd (lists_no_other _ _ _ _ _ _ below (c.requires.mapped.pages entry.page entry.pool) (c.in_default.ensures.none entry.page later entry.pool.to) entry.lists)
        ];
      };
    }
