use Rattle.std.proofs.Common.{◌≡◌, ◌++◌, length, ap, ◌∙◌, sym, arith}
use Rattle.std.specs.Prelude.{flat_map}
use Rattle.flash_words.proofs.PageLaws.{length-page_of}
use Rattle.text_lines.specs.Written.{fed}
use Rattle.flash_dump.specs.WrittenDumps.{lines_of_page, lines_of_pages}
use Rattle.flash_dump.proofs.WrittenLaws.{one_page_more}
use Rattle.flash_dump.proofs.dump_writing.text_of.Goals as goal

pub push_page-requires-clause-words : goal.push_page-requires-clause-words
push_page-requires-clause-words c =
    let long = length-page_of c.args.flash.now.words c.pages.page (omega (arith, c.page.ensures.whole.words)) in
    omega (arith, ap length c.page.ensures.value, long)

pub pages-preserved : goal.pages-preserved
pages-preserved c =
    let words = c.args.flash.now.words in
    let before = flat_map fed (lines_of_pages words 0 c.pages.page) in
    record {
      said = c.in_ok-push_page.ensures.lines
          ∙ ap (λ z. z ++ flat_map fed (lines_of_page c.pages.page c.page.result.now)) c.pages.invariant.said
          ∙ ap (λ z. before ++ flat_map fed (lines_of_page c.pages.page z)) c.page.ensures.value
          ∙ sym (one_page_more words c.pages.page);
      whole = λ some. c.page.ensures.whole;
    }

pub returns : goal.returns
returns c =
    let all : c.pages.page ≡ 512 = omega (arith, c.pages-test.false) in
    record { text = c.pages.invariant.said ∙ ap (λ n. flat_map fed (lines_of_pages c.args.flash.now.words 0 n)) all; whole = c.pages.invariant.whole (omega (arith, all)) }
