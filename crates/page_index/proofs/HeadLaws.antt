-- What a page lists, by its first word.
use Rattle.std.proofs.Common.{◌≡◌, ℕ, ◌+◌, ◌*◌, ◌/◌, ◌<◌, ◌⊎◌, List, arith, ap, ◌∙◌}
use Rattle.std.specs.Prelude.{◌≢◌}
use Rattle.flash_words.specs.Pages.{word_at}
use Rattle.flash_words.specs.Heads.{head}
use Rattle.page_index.specs.Maps.{IsFree, IsMap, original_page}
use Rattle.page_index.specs.Entries.{Lists}
use Rattle.page_index.proofs.MapLaws.{free_word, map_of_entry, entry_words}

head_is : (words : List ℕ) (page : ℕ) → head words page ≡ original_page words page
head_is words page = let here : 128 * page ≡ 128 * page + 0 = omega arith in ap (word_at words) here

-- a page that begins otherwise lists no address of an original page
pub lists_no_other : (words : List ℕ) (page i original k v : ℕ) → k < 128 → IsFree words page ⊎ IsMap words page → head words page ≢ original → Lists words page i (128 * original + k) v → ⊥
lists_no_other words page i original k v below mapped other lists =
    let own : (128 * original + k) / 128 ≡ original = omega arith in
    other (head_is words page ∙ (entry_words words page i _ v (map_of_entry words page i _ v mapped lists) lists).0 ∙ own)

-- .. and one that doesn't begin with 0xFFFF isn't free
pub not_free : (words : List ℕ) (page : ℕ) → head words page ≢ 0xFFFF → IsFree words page → ⊥
not_free words page other free = other (head_is words page ∙ free_word words page 0 (omega arith) free)
