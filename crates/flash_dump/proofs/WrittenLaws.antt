-- The lines of a dump that is written, page by page.
use Rattle.std.proofs.Common.{◌≡◌, ℕ, suc, ◌+◌, List, [], ◌∷◌, ◌++◌, ap, ◌∙◌, arith}
use Rattle.std.specs.Prelude.{flat_map}
use Rattle.std.specs.List.{range_with_len}
use Rattle.std.proofs.lemmas.Grind.{flat_map-append}
use Rattle.std.proofs.lemmas.List.{append-nil}
use Rattle.flash_words.specs.Pages.{page_of}
use Rattle.text_lines.specs.Written.{fed}
use Rattle.flash_dump.specs.WrittenDumps.{lines_of_page, lines_of_pages}
use Rattle.base.proofs.Ranges.{range_with_len-push}

pub one_page_more : (words : List ℕ) (count : ℕ) → flat_map fed (lines_of_pages words 0 (count + 1)) ≡ flat_map fed (lines_of_pages words 0 count)
    ++ flat_map fed (lines_of_page count (page_of words count))
one_page_more words count =
    let own : ℕ → List (List ℕ) = λ page. lines_of_page page (page_of words page) in
    let pages = range_with_len 0 count in
    let next : count + 1 ≡ suc count = omega arith in
    let none : 0 + count ≡ count = omega arith in
    let more = ap (λ n. flat_map own (range_with_len 0 n)) next ∙ ap (flat_map own) (range_with_len-push 0 count) ∙ flat_map-append own pages ((0 + count) ∷ [])
    ∙ ap (λ n. lines_of_pages words 0 count ++ flat_map own (n ∷ [])) none ∙ ap (λ z. lines_of_pages words 0 count ++ z) (append-nil (own count)) in
    ap (flat_map fed) more ∙ flat_map-append fed (lines_of_pages words 0 count) (own count)
