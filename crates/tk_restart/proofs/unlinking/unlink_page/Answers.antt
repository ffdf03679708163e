use Rattle.std.proofs.Common.{arith, ap, ◌∙◌, inl, inr}
use Rattle.flash_words.specs.Pages.{page_of, word_at}
use Rattle.flash_words.proofs.PageLaws.{page_same}
use Rattle.page_index.proofs.MapLaws.{free_word}
use Rattle.tk_restart.proofs.SweepLaws.{blank_long}
use Rattle.tk_restart.proofs.unlinking.unlink_page.Goals as goal

pub without_links-without-requires-clause-run : goal.without_links-without-requires-clause-run
without_links-without-requires-clause-run c = elim c.requires.code [
  | inl free ↦ (
      let words = c.args.flash.now.words in
      absurd (c.if-word.false (c.word.ensures.value ∙ ap (word_at words) (omega arith) ∙ free_word words c.args.page 0 (omega arith) free)))
  | inr code ↦ code
]

pub program-requires-clause-erased : goal.program-requires-clause-erased
program-requires-clause-erased c =
    ap (λ m. page_of m.words c.args.page) c.erase.ensures.after ∙ page_same _ _ _ blank_long (omega (arith, c.word.ensures.whole.words, c.requires.page.to, c.requires.right.pool_below_kernel))
