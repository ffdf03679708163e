-- What stands in a text behind its front, and nothing in a text that doesn't begin so.
use Rattle.std.specs.Prelude.{ℕ, ◌==◌, if◌then◌else◌, List, [], ◌∷◌, Option, Some, None}

abbrev pub stripped : List ℕ → List ℕ → Option (List ℕ)
stripped [] text = Some text
stripped (byte ∷ front) [] = None
stripped (byte ∷ front) (first ∷ text) = if byte == first then stripped front text else None
