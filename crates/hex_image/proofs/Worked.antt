-- The definitions, tried on texts that are known from the format.
use Rattle.std.proofs.Common.{◌≡◌, ℕ, List, [], ◌∷◌, ◌++◌, codes, map, refl}
use Rattle.std.specs.Prelude.{Option, Some, None}
use Rattle.hex.proofs.OnLiterals.{hex_on_literals}
use Rattle.hex_image.specs.declared.fault.HexFault.{HexFault}
use Rattle.hex_image.specs.declared.fault.HexFault.TheVariants.{Checksum, Digit, Kind, Length, NoEnd, Start, TooLarge, Twice, Wrap}
use Rattle.hex_image.specs.HexText.{HexText, hex_fault}
use Rattle.hex_image.specs.Written.{written}

-- `ldi r16, 0x0F`, `out 0x1B, r16`, `rjmp .-2`, in both digit cases and with both line ends, and text behind it
pub program : HexText (codes ":020000020000FC\r\n\n:060000000fe00BBBFFCF77\n:0400000300000000F9\r\n:00000001FF\n:\n") (0xE00F ∷ 0xBB0B ∷ 0xCFFF ∷ []) 75
unfolding hex_on_literals
program = record { sound = refl; image = refl; cut = refl }

-- a text, and what is wrong with it
abbrev Row : Type 0
Row = List ℕ × Option (ℕ × HexFault)

abbrev AreFaults : List Row → Type 0
AreFaults rows = map (λ (row : Row). hex_fault row.0) rows ≡ map (λ (row : Row). row.1) rows

abbrev end : List ℕ
end = codes ":00000001FF\n"

-- texts without a fault
sound : AreFaults (
    (end, None)
    ∷ (codes "\r\n\n" ++ end, None)
    ∷ (codes ":00000001FF", None)
    ∷ (codes ":00ABCD0187\n:", None)
    ∷ (codes ":01BFFF000041\n" ++ end, None)
    ∷ (codes ":02FFFF02BFFF40\n:00FFFF0002\n" ++ end, None)
    ∷ []
    )
unfolding hex_on_literals
sound = refl

-- each fault
faulty : AreFaults (
    (codes ";\n" ++ end, Some (1, Start))
    ∷ (codes ":0G\n" ++ end, Some (1, Digit))
    ∷ (codes ":\n" ++ end, Some (1, Length))
    ∷ (codes ":0600\n" ++ end, Some (1, Length))
    ∷ (codes ":00000001FF0", Some (1, Length))
    ∷ (codes ":060000000FE00BBBFFCF78\n" ++ end, Some (1, Checksum))
    ∷ (codes ":00000006FA\n" ++ end, Some (1, Kind))
    ∷ (codes ":0100000100FE\n" ++ end, Some (1, Kind))
    ∷ (codes ":02FFFF00000000\n" ++ end, Some (1, Wrap))
    ∷ (codes ":0100000000FF\n\n:0100000000FF\n" ++ end, Some (3, Twice))
    ∷ (codes ":01C00000003F\n" ++ end, Some (1, TooLarge))
    ∷ (codes "", Some (1, NoEnd))
    ∷ (codes "\r", Some (2, NoEnd))
    ∷ (codes ":0100000000FF\n\n", Some (3, NoEnd))
    ∷ []
    )
unfolding hex_on_literals
faulty = refl

-- the first fault of the first faulty line, an end record's too
first : AreFaults (
    (codes "\n;G\n:0G\n" ++ end, Some (2, Start))
    ∷ (codes ":00000001FE\n" ++ end, Some (1, Checksum))
    ∷ (codes ":02FFFF00000000\n;\n", Some (1, Wrap))
    ∷ (codes ":01BFFF000041\n:02BFFF00000040\n", Some (2, Twice))
    ∷ []
    )
unfolding hex_on_literals
first = refl

-- the last base counts, a gap is 0xFF, and an odd byte is filled up
image : HexText (codes ":020000020010EC\n:020000040000FA\n:0100020034C9\n:0100010012EC\n" ++ end) (0x12FF ∷ 0xFF34 ∷ []) 72
unfolding hex_on_literals
image = record { sound = refl; image = refl; cut = refl }

pub text : written (0xE00F ∷ 0xBB0B ∷ 0xCFFF ∷ []) ≡ codes ":060000000FE00BBBFFCF77\n:00000001FF\n"
unfolding hex_on_literals
text = refl
