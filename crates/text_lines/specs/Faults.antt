-- The first faulty line of a text.
use Rattle.std.specs.Prelude.{ℕ, ◌+◌, List, [], ◌∷◌, Option, None, option_map}
use Rattle.std.specs.Option.{option_or}

-- what is known behind lines, where `after` gives what is known behind one line more
abbrev pub after_lines : {S : Type 0} → (after : S → List ℕ → S) → S → List (List ℕ) → S
after_lines after known [] = known
after_lines after known (line ∷ lines) = after_lines after (after known line) lines

-- The first line that has a fault, and its fault; lines are counted on from `number`. `own` gives a line's own fault behind
-- what is known before it.
abbrev pub first_fault : {S F : Type 0} → (own : S → List ℕ → Option F) → (after : S → List ℕ → S) → (number : ℕ) → S → List (List ℕ) → Option (ℕ × F)
first_fault own after number known [] = None
first_fault own after number known (line ∷ lines) =
    option_or (option_map (λ fault. (number, fault)) (own known line)) (first_fault own after (number + 1) (after known line) lines)
