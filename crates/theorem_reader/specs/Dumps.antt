-- What `dump` answers: the flash that a run leaves, page by page.
use Rattle.std.specs.Prelude.{◌≡◌, ℕ, ◌+◌, ◌*◌, ◌/◌, ◌%◌, ◌==◌, if◌then◌else◌, List, [], ◌∷◌, ◌++◌, codes, flat_map, drop, take, Option, Some, None}
use Rattle.std.specs.List.{list_all, range_with_len}
use Rattle.hex.specs.Hex.{encode_upper}
use Rattle.program_steps.specs.Machines.{Machine}
use Rattle.cli_words.specs.declared.command.Command.TheVariants.{Dump}
use Rattle.theorem_reader.specs.Runs.{Asked, AsksAs, boot_of, EndsWell, EndsInAFault}
use Rattle.theorem_reader.specs.Telling.{Sink, IsTold}
use Rattle.theorem_reader.specs.Texts.{no_memory}

-- the words are those of `dump` with these options, and the text is of the program
abbrev pub AsksDump : (words : List (List ℕ)) (text : List ℕ) (asked : Asked) → Type 0
AsksDump words text asked = AsksAs Dump words text asked

-- The line of a page: its number in three digits, and its 128 words, the high byte first. None where all are 0xFFFF.
abbrev pub page_text : List ℕ → ℕ → List ℕ
page_text flash page =
    if list_all (λ word. word == 0xFFFF) (take 128 (drop (128 * page) flash))
    then []
    else codes "page " ++ ((48 + page / 100) ∷ (48 + page / 10 % 10) ∷ (48 + page % 10) ∷ []) ++ codes " "
    ++ encode_upper (flat_map (λ word. word / 256 ∷ word % 256 ∷ []) (take 128 (drop (128 * page) flash))) ++ codes "\n"

-- the lines of the pages 0 to 511
abbrev pub dump_text : List ℕ → List ℕ
dump_text flash = flat_map (page_text flash) (range_with_len 0 512)

-- the machine ran as for `run`
pub data HasEnded (asked : Asked) (m : Machine) : Type 0 where
  Well : EndsWell (boot_of asked) asked m → HasEnded asked m
  InAFault : EndsInAFault (boot_of asked) asked m → HasEnded asked m

-- memory was wanted for the run, or for its dump; or what is told is the dump of just the flash of the machine that is kept
pub data IsDumped (sink : Sink) (asked : Asked) (status : ℕ) (taken : List ℕ) (kept : Option Machine) : Type 0 where
  NoMemory : IsTold sink 8 no_memory status taken → kept ≡ None → IsDumped sink asked status taken kept
  Unwritten : (m : Machine) → kept ≡ Some m → HasEnded asked m → IsTold sink 8 no_memory status taken → IsDumped sink asked status taken kept
  Dumped : (m : Machine) → kept ≡ Some m → HasEnded asked m → IsTold sink 0 (dump_text m.kernel.mote.flash.words) status taken → IsDumped sink asked status taken kept
