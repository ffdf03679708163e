-- Rewritten code tells its first address and its number of instructions itself.
use Rattle.std.proofs.Common.{◌≡◌, ℕ, ◌+◌, ◌*◌, ◌<◌, ◌≤◌, List, length, arith, ap, ◌∙◌}
use Rattle.flash_words.specs.Pages.{word_at}
use Rattle.flash_words.specs.Layouts.{most_image_words, most_image_pages, most_entries}
use Rattle.nat_template.specs.declared.piece.Piece.{Piece}
use Rattle.page_draft.specs.Standing.{Stands, size}
use Rattle.page_draft.specs.CodePages.{page_pieces, page_size, HoldsRun, Anywhere, IsCodePage, IsPage}
use Rattle.nat_page.proofs.WalkLaws.{OwnRun, own_run}
use Rattle.pool_check.specs.Forms.{first_told, last_told}

own : (image words : List ℕ) → IsCodePage image words 0 → OwnRun Anywhere image words 0
own image words code = own_run Anywhere image words 0 code.first code.last code.holds

pub record IsTold (words : List ℕ) : Type 0 where
  pub original : word_at words 0 < most_image_pages
  pub some : 1 ≤ word_at words 1
  pub few : word_at words 1 < most_entries

pub told : (image words : List ℕ) → length image ≤ most_image_words → IsCodePage image words 0 → IsTold words
told image words short code =
    let run = own image words code in
    record { original = omega (arith, run.holds.run.inside 0 (omega arith)); some = omega (arith, run.some); few = omega (arith, run.few) }

-- so it holds the run that its words tell
pub holds_told : (image words : List ℕ) → IsCodePage image words 0 → HoldsRun Anywhere image words 0 (first_told words) (last_told words)
holds_told image words code = (own image words code).holds

pub page_told : (image words : List ℕ) → IsCodePage image words 0 → IsPage image (first_told words) (last_told words)
page_told image words code =
    let holds = holds_told image words code in
    record { run = holds.run; fits = holds.fits }

module _ (image words : List ℕ) (pieces : List Piece) (is : pieces ≡ page_pieces image (first_told words) (last_told words)) (code : IsCodePage image words 0) where
  pub stands_told : Stands Anywhere words 0 pieces
  stands_told = rw is (holds_told image words code).stands

  pub rest_told : (k : ℕ) → size pieces ≤ k → k < 128 → word_at words k ≡ 0xFFFF
  rest_told k behind below =
      let same : size pieces ≡ page_size image (first_told words) (last_told words) = ap size is in
      let here : k ≡ 128 * 0 + k = omega arith in
      ap (word_at words) here ∙ (holds_told image words code).rest k (omega arith) below

-- and a page that is made anew in the same way is code
pub is_code : (image words : List ℕ) (t last : ℕ) (pieces : List Piece) → IsPage image t last → pieces ≡ page_pieces image t last → Stands Anywhere words 0 pieces
    → ((k : ℕ) → size pieces ≤ k → k < 128 → word_at words k ≡ 0xFFFF) → IsCodePage image words 0
is_code image words t last pieces page is stands rest =
    let same : size pieces ≡ page_size image t last = ap size is in
    record {
      first = t;
      last = last;
      holds = record {
        run = page.run;
        fits = page.fits;
        stands = rw is at stands;
        rest = λ k behind below. let here : 128 * 0 + k ≡ k = omega arith in ap (word_at words) here ∙ rest k (omega arith) below;
      };
    }
