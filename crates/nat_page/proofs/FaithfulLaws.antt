-- A faithful pool: it is mapped, and that of a new flash is faithful.
use Rattle.std.proofs.Common.{◌≡◌, ℕ, ◌≤◌, List, length, take, arith, sym, ap, ◌∙◌, inl, inr}
use Rattle.flash_words.specs.Layouts.{IsRight, image_of}
use Rattle.flash_words.specs.Memory.{kernel_first, loaded}
use Rattle.flash_words.specs.declared.layout.Layout.{Layout}
use Rattle.flash_words.proofs.LoadedLaws.{length-loaded, loaded_image, loaded_blank, loaded_kernel}
use Rattle.page_index.specs.Maps.{IsPool, IsFree}
use Rattle.page_index.specs.Entries.{IsEntry, IsMapped}
use Rattle.page_index.proofs.ChangeLaws.{new_flash_free, new_flash_mapped}
use Rattle.nat_page.specs.Faithful.{IsFaithful}
use Rattle.nat_page.proofs.HeldLaws.{map_held}

-- a faithful pool is mapped
pub faithful_mapped : (layout : Layout) (image words : List ℕ) → IsRight layout → IsFaithful layout image words → IsMapped layout words
faithful_mapped layout image words right code = record {
  pages = λ page pool. elim (code.pages page pool) [
    | inl free ↦ inl free
    | inr run ↦ inr (map_held (IsEntry layout words) image words page run.first run.last (omega (arith, code.image_length, right.image_fits)) run.holds)
  ];
  once = code.once;
}

-- a new flash is faithful to the image that it holds, with every page free
pub new_flash_faithful : (layout : Layout) (image : List ℕ) → IsRight layout → length image ≡ layout.image_words → IsFaithful layout image (loaded image)
new_flash_faithful layout image right long =
    let short : length image ≤ kernel_first = omega (arith, right.image_fits) in
    let free : (page : ℕ) → IsPool layout page → IsFree (loaded image) page = λ page pool. new_flash_free layout image page right (omega arith) pool in
    record {
      whole = length-loaded image short;
      image_length = long;
      held = ap (λ n. take n (loaded image)) (sym long) ∙ loaded_image image;
      erased = λ a after before. loaded_blank image a (omega arith) (omega (arith, right.pool_below_kernel));
      kernel = λ a from to. loaded_kernel image a short from to;
      pages = λ page pool. inl (free page pool);
      once = (new_flash_mapped layout image right (omega arith)).once;
    }

-- and so are the words of that flash over the image that they hold
pub new_flash_held : (layout : Layout) (image words : List ℕ) → IsRight layout → length image ≡ layout.image_words → words ≡ loaded image → IsFaithful layout (image_of layout words) words
new_flash_held layout image words right long new =
    let same : image ≡ image_of layout words = sym (ap (image_of layout) new ∙ ap (λ n. take n (loaded image)) (sym long) ∙ loaded_image image) in
    rw (← same, new) (new_flash_faithful layout image right long)
