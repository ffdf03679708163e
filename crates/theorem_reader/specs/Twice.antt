-- What two calls answer to the same words and text.
use Rattle.std.specs.Prelude.{◌≡◌, ◌⊎◌, ℕ, List}
use Rattle.theorem_reader.specs.Telling.{Sink, IsTold}
use Rattle.theorem_reader.specs.Texts.{no_memory}

-- What a call took whose sink served is told again by another one, with its status, as far as that one's sink takes it. Or memory was
-- wanted in one of them.
abbrev pub IsToldAgain : (status : ℕ) (taken : List ℕ) → Sink → (again : ℕ) (retaken : List ℕ) → Type 0
IsToldAgain status taken sink again retaken = IsTold sink status taken again retaken ⊎ ((status ≡ 8) ⊎ IsTold sink 8 no_memory again retaken)
