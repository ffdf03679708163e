use Rattle.std.proofs.Common.{arith, subst, inl, inr, ◌∙◌}
use Rattle.std.specs.Prelude.{slice_set}
use Rattle.std.proofs.lemmas.Bool.{cases_lt}
use Rattle.std.proofs.lemmas.List.{length-set}
use Rattle.flash_words.specs.Pages.{page_of}
use Rattle.flash_words.specs.JumpSets.{HasJumps, HasSet}
use Rattle.flash_words.proofs.JumpLaws.{set_here, set_else, source_of_each}
use Rattle.flash_words.proofs.jumps.Jumps.new.Goals as goal

pub pages-init : goal.pages-init
pages-init c = record {
  sized = c.in_ok-empty_sets.ensures.size;
  sources_sized = c.in_ok-empty_sets-2.ensures.size;
  each = λ page below. absurd (omega arith);
  sources = λ page below. absurd (omega arith);
}

pub pages-preserved : goal.pages-preserved
pages-preserved c =
    let words = c.args.words.now in
    let sets = c.pages.jumps.sets.items in
    let set = c.jumps_of-set.result in
    let before = c.pages.invariant in
    let has : HasJumps (page_of words c.pages.page) set = subst (λ page. HasJumps page set) c.words_of.ensures.value c.jumps_of-set.ensures.jumps in
    record {
      sized = length-set sets c.pages.page set ∙ before.sized;
      sources_sized = c.add_source_of_each.ensures.size;
      each = λ page below. elim (cases_lt page c.pages.page) [
        | inl earlier ↦ set_else words sets c.pages.page page set (λ same. omega arith) (before.each page earlier)
        | inr later ↦ subst (HasSet words (slice_set sets c.pages.page set)) (omega arith) (set_here words sets c.pages.page set (omega (arith, before.sized)) has)
      ];
      sources = λ page below. source_of_each sets c.add_source_of_each.new.sources.items c.pages.page page set (omega (arith, before.sized)) c.add_source_of_each.ensures.here
          (λ apart target s few led. c.add_source_of_each.ensures.others target page (before.sources page (omega arith) target s few led));
    }
