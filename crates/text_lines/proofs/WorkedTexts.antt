-- The definitions, tried on texts whose lines are seen at a glance.
use Rattle.std.proofs.Common.{◌≡◌, [], ◌∷◌, codes, refl}
use Rattle.text_lines.specs.Lines.{pieces_of, lines_of}

pub both_line_ends : lines_of (codes "one\r\n\ntwo\n") ≡ codes "one" ∷ [] ∷ codes "two" ∷ []
both_line_ends = refl

pub pieces_keep_their_ends : pieces_of (codes "one\r\n\ntwo") ≡ codes "one\r\n" ∷ codes "\n" ∷ codes "two" ∷ []
pieces_keep_their_ends = refl

-- one carriage return is dropped at a line's end, also at the text's
pub returns : lines_of (codes "a\rb\r\r\n\r") ≡ codes "a\rb\r" ∷ [] ∷ []
returns = refl

pub no_lines : lines_of [] ≡ []
no_lines = refl
