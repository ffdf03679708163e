-- What `check` answers about a flash.
use Rattle.std.specs.Prelude.{◌≡◌, ℕ, ◌*◌, ◌<◌, ◌==◌, not, List, ◌++◌, codes, decimal, drop, slice_index, Option, None}
use Rattle.flash_dump.specs.Dumps.{IsDump}
use Rattle.program_steps.specs.Machines.{Machine}
use Rattle.cli_words.specs.declared.command.Command.TheVariants.{Check}
use Rattle.cli_words.specs.Commands.{IsCommand}
use Rattle.theorem_reader.specs.Pools.{pages_where, IsFormed, IsLinked, IsInPool, AreFaithful}
use Rattle.theorem_reader.specs.Runs.{HasHex}
use Rattle.theorem_reader.specs.Telling.{Sink, IsTold}
use Rattle.theorem_reader.specs.Texts.{no_memory}

-- the word is `check`; the text has a HEX text of the image, and behind it a dump of these 65,536 words of flash
pub record AsksCheck (words : List (List ℕ)) (text image flash : List ℕ) : Type 0 where
  pub command : IsCommand words Check
  pub front : HasHex text image
  pub dump : IsDump (drop front.position text) flash

-- how many pages of the pool don't begin with an erased word
abbrev pub used_in : (image flash : List ℕ) → ℕ
used_in image flash = pages_where image (λ page. not (slice_index flash (128 * page) == 0xFFFF))

-- the lowest page that hasn't its form
pub record IsMisshapen (image flash : List ℕ) (page : ℕ) : Type 0 where
  pub inside : page < 512
  pub without : ¬ IsFormed image flash page
  pub lower : (other : ℕ) → other < page → IsFormed image flash other

-- the lowest page of the pool that hasn't its links, where all have their forms
pub record IsUnlinked (image flash : List ℕ) (page : ℕ) : Type 0 where
  pub forms : (other : ℕ) → other < 512 → IsFormed image flash other
  pub inside : IsInPool image page
  pub without : ¬ IsLinked image flash page
  pub lower : (other : ℕ) → IsInPool image other → other < page → IsLinked image flash other

-- Memory was wanted; or one of three things is so, and that is told. No two of them can be so of one flash. No machine is kept.
pub data IsChecked (sink : Sink) (image flash : List ℕ) (status : ℕ) (taken : List ℕ) (kept : Option Machine) : Type 0 where
  NoMemory : IsTold sink 8 no_memory status taken → kept ≡ None → IsChecked sink image flash status taken kept
  Faithful : AreFaithful image flash → IsTold sink 0 (codes "faithful pages " ++ decimal (used_in image flash) ++ codes "\n") status taken → kept ≡ None → IsChecked sink image flash status taken kept
  Misshapen : (page : ℕ) → IsMisshapen image flash page → IsTold sink 2 (codes "not faithful page " ++ decimal page ++ codes " form\n") status taken
      → kept ≡ None → IsChecked sink image flash status taken kept
  Unlinked : (page : ℕ) → IsUnlinked image flash page → IsTold sink 2 (codes "not faithful page " ++ decimal page ++ codes " links\n") status taken
      → kept ≡ None → IsChecked sink image flash status taken kept
