-- Parts of a line.
use Rattle.std.specs.Prelude.{ℕ, ◌==◌, ◌||◌, Bool, if◌then◌else◌, List, [], ◌∷◌, Option, option_map, bytes_eq, find}
use Rattle.std.specs.List.{list_all}

-- a space (32) or a tab (9)
abbrev pub is_blank : ℕ → Bool
is_blank b = (b == 32) || (b == 9)

-- the text before a byte's first position; all of it where the byte doesn't stand in it
abbrev pub before : ℕ → List ℕ → List ℕ
before byte [] = []
before byte (b ∷ text) = if b == byte then [] else b ∷ before byte text

-- the text behind a byte's first position; none where the byte doesn't stand in it
abbrev pub behind : ℕ → List ℕ → List ℕ
behind byte [] = []
behind byte (b ∷ text) = if b == byte then text else behind byte text

-- the text without blanks at its front
abbrev pub skip_front : List ℕ → List ℕ
skip_front [] = []
skip_front (b ∷ text) = if is_blank b then skip_front text else b ∷ text

-- the text without blanks at its end
abbrev pub skip_end : List ℕ → List ℕ
skip_end [] = []
skip_end (b ∷ text) = if list_all is_blank (b ∷ text) then [] else b ∷ skip_end text

-- the text without blanks around it
abbrev pub trimmed : List ℕ → List ℕ
trimmed text = skip_end (skip_front text)

-- the text before its first blank
abbrev pub front_word : List ℕ → List ℕ
front_word [] = []
front_word (b ∷ text) = if is_blank b then [] else b ∷ front_word text

-- the text from its first blank on
abbrev pub behind_word : List ℕ → List ℕ
behind_word [] = []
behind_word (b ∷ text) = if is_blank b then b ∷ text else behind_word text

-- what stands beside a text in a table
abbrev pub found_in : {A : Type 0} → List (List ℕ × A) → List ℕ → Option A
found_in rows text = option_map (λ row. row.1) (find (λ row. bytes_eq row.0 text) rows)
