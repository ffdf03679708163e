-- Three operations on a new flash, the second of which is to fail: the first is done, the third isn't tried.
use Rattle.std.proofs.Common.{◌≡◌, ℕ, List, [], ◌∷◌, Some, refl}
use Rattle.flash_words.specs.Pages.{set_page, blank}
use Rattle.flash_words.specs.Memory.{loaded, new_flash}
use Rattle.flash_words.specs.Operations.{Erase, Program, Performed, perform}

abbrev three : List ℕ → Performed
three words = perform (new_flash [] (2 ∷ [])) (Erase 130 ∷ Program 130 words ∷ Erase 131 ∷ [])

the_second_is_refused : (words : List ℕ) → (three words).refusal ≡ Some (record { op = 2; operation = Program 130 words })
the_second_is_refused words = refl

the_first_is_done : (words : List ℕ) → (three words).memory.words ≡ set_page (loaded []) 130 blank
the_first_is_done words = refl

two_are_counted : (words : List ℕ) → (three words).memory.ops ≡ 2
two_are_counted words = refl

its_page_is_told : (words : List ℕ) → (three words).memory.refused ≡ Some 130
its_page_is_told words = refl
