-- Serves the contracts of `one_image`, `one_fault` and `image_or_fault`: laws of texts.
use Rattle.std.specs.Prelude.{◌≡◌, ◌⊎◌, ℕ, List, Some}
use Rattle.hex_image.specs.declared.fault.HexFault.{HexFault}
use Rattle.hex_image.specs.HexText.{HexText, hex_fault}

-- a text has one image at most, and one position at which the text behind it begins
abbrev pub HasOneImage : Type 0
HasOneImage = (text v w : List ℕ) (p q : ℕ) → HexText text v p → HexText text w q → (v ≡ w) × (p ≡ q)

-- a text has one faulty line at most that comes first, and one fault there
abbrev pub HasOneFault : Type 0
HasOneFault = (text : List ℕ) (l m : ℕ) (f g : HexFault) → hex_fault text ≡ Some (l, f) → hex_fault text ≡ Some (m, g) → (l ≡ m) × (f ≡ g)

-- a text has an image or a fault
abbrev pub HasImageOrFault : Type 0
HasImageOrFault =
    (text : List ℕ) → ((words : List ℕ) × (position : ℕ) × HexText text words position) ⊎ ((line : ℕ) × (fault : HexFault) × (hex_fault text ≡ Some (line, fault)))

-- and none has both
abbrev pub HasNeverBoth : Type 0
HasNeverBoth = (text words : List ℕ) (position line : ℕ) (fault : HexFault) → HexText text words position → hex_fault text ≡ Some (line, fault) → ⊥
