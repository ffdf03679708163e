-- A part of an image, alone: the image with no words but the part's own (docs/MEMORY.md, "A part of the image").
use Rattle.std.specs.Prelude.{◌≡◌, ℕ, ◌+◌, ◌≤◌, true, if◌then◌else◌, List, [], ◌∷◌}
use Rattle.avr_isa.specs.Image.{word}
use Rattle.flat_machine.specs.declared.part.Part.{Part}
use Rattle.flat_machine.specs.FlatMachine.{Program, is_own}

-- from the word address a on, each word that isn't the part's own is erased
abbrev pub masked_from : Part → (a : ℕ) → List ℕ → List ℕ
masked_from part a [] = []
masked_from part a (w ∷ words) = (if is_own part a then w else 0xFFFF) ∷ masked_from part (a + 1) words

abbrev pub masked : Part → List ℕ → List ℕ
masked part image = masked_from part 0 image

-- the program over its own words alone
abbrev pub alone : Program → Program
alone program = record program { image = masked program.part program.image }

-- A shut part below the end of flash, whose last two words are erased: so no instruction of it has a word outside.
pub record IsFramed (part : Part) (image : List ℕ) : Type 0 where
  pub shut : part.shut ≡ true
  pub few : part.first + part.count ≤ 65536
  pub erased : (a : ℕ) → is_own part a ≡ true → part.first + part.count ≤ a + 2 → word image a ≡ 0xFFFF
