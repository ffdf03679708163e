-- Choices read one after another.
use Rattle.std.proofs.Common.{◌≡◌, ◌≢◌, ℕ, List, [], ◌∷◌, refl, sym, subst, slice_set, ◌∙◌}
use Rattle.std.specs.Prelude.{Option, Some, None, slice_get}
use Rattle.cli_words.specs.declared.table.Row.{Row}
use Rattle.cli_words.specs.declared.options.Choice.{Choice}
use Rattle.cli_words.specs.Options.{BeginsWith, Choose, MakeChoices, nothing, place_of}
use Rattle.cli_words.specs.OptionReading.{HasRead}
use Rattle.cli_words.proofs.NumberWords.{none_read, one_choice}

-- where words begin with a choice, it is the first of their choices, and the others follow
record GoesOn (rows : List Row) (choice : Choice) (behind : List (List ℕ)) (before after : List (Option ℕ)) : Type 0 where
  free : slice_get before (place_of choice.parameter) ≡ Some None
  later : Choose rows behind (slice_set before (place_of choice.parameter) (Some choice.value)) after

goes_on : (rows : List Row) (choice : Choice) (words behind : List (List ℕ)) (before after : List (Option ℕ)) → BeginsWith rows choice words behind → Choose rows words before after
    → GoesOn rows choice behind before after
goes_on rows choice words behind before after begins ([], said) =
    absurd (none_read rows [] refl choice behind (subst (λ ws. BeginsWith rows choice ws behind) said.0 begins))
goes_on rows choice words behind before after begins (first ∷ later, said) =
    let one = one_choice rows words first choice said.0 behind said.1 begins in
    let P : Choice → List (List ℕ) → Type 0 = λ c ws. MakeChoices rows later ws (slice_set before (place_of c.parameter) (Some c.value)) after in
    record {
      free = subst (λ (c : Choice). slice_get before (place_of c.parameter) ≡ Some None) one.0 said.2;
      later = (later, subst (P choice) one.1 (subst (λ c. P c said.0) one.0 said.3));
    }

-- words choose one list of values
pub one_chosen : (rows : List Row) (choices : List Choice) (words : List (List ℕ)) (before a b : List (Option ℕ)) → MakeChoices rows choices words before a → Choose rows words before b → a ≡ b
one_chosen rows [] words before a b first ([], second) = sym first.1 ∙ second.1
one_chosen rows [] words before a b first (choice ∷ choices, second) =
    absurd (none_read rows [] refl choice second.0 (subst (λ ws. BeginsWith rows choice ws second.0) first.0 second.1))
one_chosen rows (choice ∷ choices) words before a b first second =
    one_chosen rows choices first.0 _ a b first.3 (goes_on rows choice words first.0 before b first.1 second).later

-- behind one more choice
pub read_more : (rows : List Row) (words rest behind : List (List ℕ)) (chosen : List (Option ℕ)) (choice : Choice) → HasRead rows words rest chosen → BeginsWith rows choice rest behind
    → slice_get chosen (place_of choice.parameter) ≡ Some None
    → HasRead rows words behind (slice_set chosen (place_of choice.parameter) (Some choice.value))
read_more rows words rest behind chosen choice read begins free = record {
  on = λ after said. (goes_on rows choice rest behind chosen after begins (read.on after said)).later;
  back = λ after said. read.back after (choice ∷ said.0, (behind, begins, free, said.1));
}

-- where the next words are no choice
pub says_none : (rows : List Row) (words rest : List (List ℕ)) (chosen : List (Option ℕ)) → HasRead rows words rest chosen → rest ≢ []
    → ((choice : Choice) (behind : List (List ℕ)) → ¬ BeginsWith rows choice rest behind) → (after : List (Option ℕ)) → ¬ Choose rows words nothing after
says_none rows words rest chosen read some none after said = first_none (read.on after said) where
  first_none : Choose rows rest chosen after → ⊥
  first_none ([], said) = some said.0
  first_none (choice ∷ choices, said) = none choice said.0 said.1

-- where the next words choose a parameter again
pub says_twice : (rows : List Row) (words rest behind : List (List ℕ)) (chosen : List (Option ℕ)) (choice : Choice) → HasRead rows words rest chosen → BeginsWith rows choice rest behind
    → slice_get chosen (place_of choice.parameter) ≢ Some None → (after : List (Option ℕ)) → ¬ Choose rows words nothing after
says_twice rows words rest behind chosen choice read begins taken after said = taken (goes_on rows choice rest behind chosen after begins (read.on after said)).free
