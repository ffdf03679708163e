-- A page all of whose words are erased.
use Rattle.std.proofs.Common.{◌≡◌, ℕ, ◌+◌, ◌*◌, ◌≤◌, true, false, List, length, ap, ◌∙◌}
use Rattle.std.proofs.lemmas.Bool.{false_from_ne_true}
use Rattle.base.specs.Lists.{many}
use Rattle.flash_words.specs.Pages.{page_words, page_of, blank}
use Rattle.flash_words.proofs.PageLaws.{length-page_of}
use Rattle.page_index.specs.Maps.{IsFree}
use Rattle.flash_dump.specs.WrittenDumps.{is_erased}
use Rattle.flash_dump.proofs.ErasedLaws.{all_erased, erased_all}

pub blank_free : (words : List ℕ) (page : ℕ) → page_words * page + page_words ≤ length words → is_erased (page_of words page) ≡ true → IsFree words page
unfolding blank
blank_free words page inside is = all_erased (page_of words page) is ∙ ap (λ n. many n 0xFFFF) (length-page_of words page inside)

pub free_blank : (words : List ℕ) (page : ℕ) → IsFree words page → is_erased (page_of words page) ≡ true
unfolding blank
free_blank words page free = ap is_erased free ∙ erased_all page_words

pub not_blank : (words : List ℕ) (page : ℕ) → page_words * page + page_words ≤ length words → ¬ IsFree words page → is_erased (page_of words page) ≡ false
not_blank words page inside none = false_from_ne_true _ (λ is. none (blank_free words page inside is))
