-- That the program stands at one of some addresses, as it is shown.
use Rattle.std.specs.Prelude.{ℕ, ◌==◌, ◌||◌, Bool, false, if◌then◌else◌, List, [], ◌∷◌, ◌++◌, codes, decimal}
use Rattle.text_lines.specs.Pieces.{address_text}

-- an address is one of these
abbrev pub is_among : List ℕ → ℕ → Bool
is_among [] pc = false
is_among (a ∷ more) pc = (a == pc) || is_among more pc

-- the program stands at an address after so many steps
unfoldable pub visit_line : (step pc : ℕ) → List ℕ
visit_line step pc = codes "step " ++ decimal step ++ codes " " ++ address_text pc ++ codes "\n"

-- .. which is told where it is one of the places
abbrev pub visit_text : (places : List ℕ) (step pc : ℕ) → List ℕ
visit_text places step pc = if is_among places pc then visit_line step pc else []
