-- One link of a page is resolved, or leads to the kernel's bridge again: its two first words are exchanged.
-- The page holds its run, and all that makes the pool faithful stays.
use Rattle.std.proofs.Common.{◌≡◌, ℕ, ◌+◌, ◌*◌, ◌/◌, ◌%◌, ◌<◌, ◌≤◌, List, ◌∷◌, ◌++◌, length, arith, sym, ap, ◌∙◌}
use Rattle.flash_words.specs.Pages.{word_count, page_words, word_at, page_of, set_page}
use Rattle.flash_words.specs.Layouts.{IsRight, image_of}
use Rattle.flash_words.specs.declared.layout.Layout.{Layout}
use Rattle.nat_template.specs.declared.piece.Piece.{Piece}
use Rattle.nat_template.specs.declared.piece.Piece.TheVariants.{Link}
use Rattle.page_index.specs.Entries.{IsEntry}
use Rattle.page_draft.specs.Standing.{IsLink, Stands, size}
use Rattle.page_draft.specs.CodePages.{page_pieces, page_size, HoldsRun}
use Rattle.nat_page.specs.Links.{IsLinkOf, IsLinkIn, with_two_words}
use Rattle.nat_page.specs.Faithful.{IsFaithful}
use Rattle.page_draft.proofs.PieceLaws.{size-append, size-cons, stands_split, stands_join, stands_same}
use Rattle.nat_page.proofs.LinkLaws.{link_room}
use Rattle.nat_page.proofs.TwoWords.{length-with_two_words, first_of_two, second_of_two, word_beside_two, two_in_page}
use Rattle.nat_page.proofs.KeptLaws.{KeepsRun, kept_entries, kept_entries_back, kept_holds, kept_image, kept_faithful}

-- the pieces stand as before, with the new words of one link among them
stands_relinked : (leads : ℕ → ℕ → Type 0) (words : List ℕ) (a t first second : ℕ) (before behind : List Piece) → a + size before + 1 < length words
    → IsLink leads first second t → Stands leads words a (before ++ Link t ∷ behind)
    → Stands leads (with_two_words words (a + size before) first second) a (before ++ Link t ∷ behind)
stands_relinked leads words a t first second before behind inside link stands =
    let s = a + size before in
    let words' = with_two_words words s first second in
    let same : (b v : ℕ) → leads b v → leads b v = λ b v l. l in
    let two = stands_split leads words a before (Link t ∷ behind) stands in
    let P : ℕ → ℕ → Type 0 = λ w w'. IsLink leads w w' t in
    let there : P (word_at words' s) (word_at words' (s + 1)) = rw (second_of_two words s first second inside) (rw (first_of_two words s first second inside) link) in
    let target : word_at words' (s + 2) ≡ t = word_beside_two words s (s + 2) first second (λ is. omega arith) (λ is. omega arith) ∙ two.1.0.1 in
    stands_join leads words' a before (Link t ∷ behind)
    (stands_same leads leads words words' a before same
    (λ k below. word_beside_two words s (a + k) first second (λ is. omega arith) (λ is. omega arith)) two.0) (
      (there, target),
      stands_same leads leads words words' (s + 3) behind same
          (λ k below. word_beside_two words s (s + 3 + k) first second (λ is. omega arith) (λ is. omega arith)) two.1.1,
    )

-- the page holds its run with the new words; its links may lead where they did
pub holds_relinked : (leads : ℕ → ℕ → Type 0) (image words : List ℕ) (page first last s t w w' : ℕ) → page_words * page + page_words ≤ length words
    → IsLinkOf (page_pieces image first last) (page_words * page) s t → IsLink leads w w' t → HoldsRun leads image words page first last
    → HoldsRun leads image (with_two_words words s w w') page first last
holds_relinked leads image words page first last s t w w' inside at link holds =
    let room = link_room image page first last s t holds.fits at in
    let base = page_words * page in
    let whole : page_size image first last ≡ size at.before + size (Link t ∷ at.behind) = ap size at.split ∙ size-append at.before (Link t ∷ at.behind) in
    let long = size-cons (Link t) at.behind in
    let fits = holds.fits in
    record {
      run = holds.run;
      fits = fits;
      stands = rw at.at (rw at.split (stands_relinked leads words base t w w' at.before at.behind (omega (arith, at.at)) link (rw at.split at holds.stands)));
      rest = λ k behind below. word_beside_two words s (base + k) w w' (λ is. omega (arith, at.at)) (λ is. omega (arith, at.at)) ∙ holds.rest k behind below;
    }

-- where the link stands: its page is one that flash can erase and program, and the page with the new words
-- in it is flash with them
pub record IsPlaced (words : List ℕ) (s w w' : ℕ) : Type 0 where
  pub low : s / page_words < 480
  pub room : s % page_words + 1 < page_words
  pub is : set_page words (s / page_words) (with_two_words (page_of words (s / page_words)) (s % page_words) w w') ≡ with_two_words words s w w'

module _ (layout : Layout) (image words : List ℕ) (s t w w' : ℕ) where
  pub link_placed : IsRight layout → length words ≡ word_count → IsLinkIn layout image words s t → IsPlaced words s w w'
  link_placed right whole in_page =
      let room = link_room image in_page.page in_page.first in_page.last s t in_page.holds.fits in_page.link in
      let low : s / page_words < 480 = omega (arith, in_page.pool.to, right.pool_below_kernel) in
      let below : s % page_words + 1 < page_words = omega arith in
      record { low = low; room = below; is = two_in_page words (s / page_words) (s % page_words) w w' (omega arith) below ∙ ap (λ b. with_two_words words b w w') (omega arith) }

  -- all other pages stay, and this one keeps its run
  pub relinks : IsRight layout → IsFaithful layout image words → (in_page : IsLinkIn layout image words s t) → IsLink (IsEntry layout words) w w' t
      → KeepsRun layout image words (with_two_words words s w w') in_page.page in_page.first in_page.last
  relinks right code in_page link =
      let page = in_page.page in
      let whole = code.whole in
      let low : page < 480 = omega (arith, in_page.pool.to, right.pool_below_kernel) in
      let room = link_room image page in_page.first in_page.last s t in_page.holds.fits in_page.link in
      record {
        short = omega (arith, code.image_length, right.image_fits);
        whole = whole;
        whole' = length-with_two_words words s w w' ∙ whole;
        others = λ other apart. record { word = λ k below. sym (word_beside_two words s (page_words * other + k) w w' (λ is. apart (omega arith)) (λ is. apart (omega arith))) };
        old = in_page.holds;
        new = holds_relinked (IsEntry layout words) image words page in_page.first in_page.last s t w w' (omega arith) in_page.link link in_page.holds;
      }

  -- the pool stays faithful
  pub relinked_faithful : IsRight layout → IsFaithful layout image words → IsLinkIn layout image words s t → IsLink (IsEntry layout words) w w' t
      → IsFaithful layout image (with_two_words words s w w')
  relinked_faithful right code in_page link =
      kept_faithful layout image words (with_two_words words s w w') in_page.page in_page.first in_page.last right code in_page.pool (relinks right code in_page link)

  -- each entry stays, and there is no other
  pub relinked_entries : (a v : ℕ) → IsRight layout → IsFaithful layout image words → IsLinkIn layout image words s t → IsLink (IsEntry layout words) w w' t → IsEntry layout words a v
      → IsEntry layout (with_two_words words s w w') a v
  relinked_entries a v right code in_page link entry =
      kept_entries layout image words (with_two_words words s w w') in_page.page in_page.first in_page.last a v (relinks right code in_page link) entry

  pub relinked_entries_back : (a v : ℕ) → IsRight layout → IsFaithful layout image words → IsLinkIn layout image words s t → IsLink (IsEntry layout words) w w' t
      → IsEntry layout (with_two_words words s w w') a v → IsEntry layout words a v
  relinked_entries_back a v right code in_page link entry =
      kept_entries_back layout image words (with_two_words words s w w') in_page.page in_page.first in_page.last a v (relinks right code in_page link) entry

  -- each link stays where it is
  pub relinked_links : (s' t' : ℕ) → IsRight layout → IsFaithful layout image words → IsLinkIn layout image words s t → IsLink (IsEntry layout words) w w' t → IsLinkIn layout image words s' t'
      → IsLinkIn layout image (with_two_words words s w w') s' t'
  relinked_links s' t' right code in_page link other = record {
    page = other.page;
    pool = other.pool;
    first = other.first;
    last = other.last;
    holds = kept_holds layout image words (with_two_words words s w w') in_page.page in_page.first in_page.last other.page other.first other.last (relinks right code in_page link) other.holds;
    link = other.link;
  }

  -- the image stays
  pub relinked_image : IsRight layout → IsFaithful layout image words → IsLinkIn layout image words s t → IsLink (IsEntry layout words) w w' t
      → image_of layout (with_two_words words s w w') ≡ image_of layout words
  relinked_image right code in_page link =
      kept_image layout image words (with_two_words words s w w') in_page.page in_page.first in_page.last right in_page.pool (relinks right code in_page link)
