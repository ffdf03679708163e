use Rattle.std.proofs.Common.{◌≡◌, ℕ, true, arith, sym, ap, ◌∙◌}
use Rattle.std.specs.Prelude.{◌≢◌, ◌==◌, not}
use Rattle.std.proofs.lemmas.Bool.Decides.{nat_tests}
use Rattle.flash_words.specs.Pages.{word_at}
use Rattle.nat_page.specs.Used.{is_used}
use Rattle.nat_page.proofs.WalkLaws.{code_page}
use Rattle.branch_bridge.proofs.UnresolveLaws.{used_rewritten}
use Rattle.branch_bridge.proofs.unresolving.unlink_page.Goals as goal

not_blank : (w : ℕ) → w ≢ 0xFFFF → not (w == 0xFFFF) ≡ true
not_blank w other = grind (arith, nat_tests)

pub without_links-without-requires-clause-run : goal.without_links-without-requires-clause-run
without_links-without-requires-clause-run c =
    let words = c.args.flash.now.words in
    let used : is_used words c.args.page ≡ true = ap (λ w. not (w == 0xFFFF)) (ap (word_at words) (omega arith) ∙ sym c.word.ensures.value) ∙ not_blank c.word.result c.if-word.false in
    code_page _ _ _ _ (used_rewritten _ _ _ _ c.requires.code c.requires.pool used)
