-- What is wrong with a text, tried on texts whose first fault is seen at a glance.
use Rattle.std.proofs.Common.{◌≡◌, ℕ, List, [], ◌∷◌, ◌++◌, codes, map, refl}
use Rattle.std.specs.Prelude.{Option, Some, None, replicate}
use Rattle.flash_dump.specs.declared.dump_line.DumpFault.{DumpFault}
use Rattle.flash_dump.specs.declared.dump_line.DumpFault.TheVariants.{Form, Order, Range}
use Rattle.flash_dump.specs.Dumps.{dump_fault}

-- a text, and what is wrong with it
abbrev Row : Type 0
Row = List ℕ × Option (ℕ × DumpFault)

abbrev AreFaults : List Row → Type 0
AreFaults rows = map (λ (row : Row). dump_fault row.0) rows ≡ map (λ (row : Row). row.1) rows

-- 511 digits, and the line of a page with one digit more
abbrev digits : List ℕ
digits = replicate 511 70

abbrev page : List ℕ → List ℕ
page number = codes "page " ++ number ++ codes " " ++ digits ++ codes "f\n"

-- texts without a fault
sound : AreFaults (
    (codes "", None)
    ∷ (codes "\r\n\n", None)
    ∷ (page (codes "000"), None)
    ∷ (page (codes "511") ++ codes "\n", None)
    ∷ (page (codes "127") ++ codes "\n" ++ page (codes "128"), None)
    ∷ []
    )
sound = refl

-- each fault
faulty : AreFaults (
    (codes "page 1", Some (1, Form))
    ∷ (codes "\n page", Some (2, Form))
    ∷ (page (codes "000") ++ page (codes "0x1"), Some (2, Form))
    ∷ (page (codes "1000"), Some (1, Form))
    ∷ (codes "page 000 " ++ digits, Some (1, Form))
    ∷ (codes "page 000 " ++ digits ++ codes "g", Some (1, Form))
    ∷ (codes "page 000:" ++ digits ++ codes "0", Some (1, Form))
    ∷ (page (codes "128") ++ page (codes "128"), Some (2, Order))
    ∷ (page (codes "128") ++ codes "\n" ++ page (codes "127"), Some (3, Order))
    ∷ (page (codes "512"), Some (1, Range))
    ∷ []
    )
faulty = refl

-- the first fault of the first faulty line
first : AreFaults (
    (page (codes "999") ++ codes "page", Some (1, Range))
    ∷ (page (codes "512") ++ page (codes "511"), Some (1, Range))
    ∷ (page (codes "003") ++ page (codes "002") ++ codes "?", Some (2, Order))
    ∷ []
    )
first = refl
