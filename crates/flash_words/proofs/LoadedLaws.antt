-- What a new flash holds.
use Rattle.std.proofs.Common.{◌≡◌, ℕ, ◌+◌, ◌-◌, ◌*◌, ◌<◌, ◌≤◌, List, ◌++◌, length, take, arith, ap, ◌∙◌, sym, refl}
use Rattle.std.proofs.lemmas.List.{length-append, get_or_append_left, get_or-append_right, append_assoc, take_at}
use Rattle.std.proofs.lemmas.Grind.{same_number_lists}
use Rattle.flash_words.specs.Pages.{word_count, page_words, word_at, page_of, blank}
use Rattle.base.specs.Lists.{many}
use Rattle.flash_words.specs.Memory.{kernel_first, return_word, loaded}
use Rattle.flash_words.proofs.PageLaws.{page_word, length-page_of}
use Rattle.base.proofs.ManyLaws.{length-many, get_or-many}

-- the words between the image and the kernel
abbrev gap : List ℕ → List ℕ
gap image = many (kernel_first - length image) 0xFFFF

-- the kernel's words
abbrev kernel : List ℕ
kernel = many (word_count - kernel_first) return_word

pub length-loaded : (image : List ℕ) → length image ≤ kernel_first → length (loaded image) ≡ word_count
unfolding loaded
length-loaded image fits =
    omega (
      arith,
      length-append (image ++ gap image) kernel,
      length-append image (gap image),
      length-many (kernel_first - length image) 0xFFFF,
      length-many (word_count - kernel_first) return_word,
    )

-- the image
pub loaded_image : (image : List ℕ) → take (length image) (loaded image) ≡ image
unfolding loaded
loaded_image image =
    ap (take (length image)) (append_assoc image (gap image) kernel) ∙ take_at image (gap image ++ kernel) (length image) refl

-- a word after the image and before the kernel
pub loaded_blank : (image : List ℕ) (a : ℕ) → length image ≤ a → a < kernel_first → word_at (loaded image) a ≡ 0xFFFF
unfolding loaded
loaded_blank image a after before =
    let long = length-many (kernel_first - length image) 0xFFFF in
    get_or_append_left (image ++ gap image) kernel 0 a (omega (arith, length-append image (gap image))) ∙ get_or-append_right image (gap image) (length image) a 0 refl after
    ∙ get_or-many (kernel_first - length image) 0xFFFF (a - length image) (omega arith)

-- a word of the kernel
pub loaded_kernel : (image : List ℕ) (a : ℕ) → length image ≤ kernel_first → kernel_first ≤ a → a < word_count → word_at (loaded image) a ≡ return_word
unfolding loaded
loaded_kernel image a fits from to =
    let long = length-many (kernel_first - length image) 0xFFFF in
    get_or-append_right (image ++ gap image) kernel kernel_first a 0 (omega (arith, length-append image (gap image))) from
    ∙ get_or-many (word_count - kernel_first) return_word (a - kernel_first) (omega arith)

-- a page after the image and before the kernel is erased
pub loaded_page : (image : List ℕ) (page : ℕ) → length image ≤ page_words * page → page < 480 → page_of (loaded image) page ≡ blank
unfolding blank
loaded_page image page after before =
    let inside : page_words * page + page_words ≤ length (loaded image) = omega (arith, length-loaded image (omega arith)) in
    same_number_lists _ _ (length-page_of (loaded image) page inside ∙ sym (length-many page_words 0xFFFF)) (λ k within.
    let below : k < page_words = omega (arith, length-page_of (loaded image) page inside) in
    page_word (loaded image) page k below ∙ loaded_blank image (page_words * page + k) (omega arith) (omega arith) ∙ sym (get_or-many page_words 0xFFFF k below))
