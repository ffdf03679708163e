-- The words and the text of the example ask for it.
use Rattle.std.proofs.Common.{◌≡◌, ℕ, List, [], ◌∷◌, codes, refl, arith, inl, inr}
use Rattle.std.specs.Prelude.{◌≤◌, Some, slice_set}
use Rattle.hex.proofs.OnLiterals.{hex_on_literals}
use Rattle.hex_image.specs.HexText.{HexText}
use Rattle.cli_words.proofs.WorkedWords.{chosen, rest, said, values_are, with_options}
use Rattle.base.specs.Lists.{many}
use Rattle.input_script.specs.Script.{nothing}
use Rattle.pool_check.proofs.CheckedLaws.{outside}
use Rattle.task_input.specs.Images.{IsMisplaced, IsApart}
use Rattle.task_input.specs.Scripts.{Schedules}
use Rattle.cli_words.specs.declared.command.Command.TheVariants.{Dump, Restart, Tasks, Check, Generate}
use Rattle.cli_words.specs.Commands.{IsCommand, entry_of}
use Rattle.cli_words.specs.Options.{AreValues, seed_rows, tasks_rows}
use Rattle.cli_words.specs.Options as options
use Rattle.theorem_reader.specs.Checks.{AsksCheck}
use Rattle.theorem_reader.specs.Dumps.{AsksDump}
use Rattle.theorem_reader.specs.Examples.{example_of_tasks, words_of_tasks, erased}
use Rattle.theorem_reader.specs.Restarts.{AsksRestart}
use Rattle.theorem_reader.specs.Tasks.{AsksTasks, tasks_options_of}
use Rattle.theorem_reader.specs.Runs.{Asks, AsksGenerate, HasHex, example, options_of}

-- the text
abbrev text : List ℕ
text = codes ":060000000FE00BBBFFCF77\n:00000001FF\nat 22 uart 0x41\nfail flash 0012\n# end\n"

-- its first line has these bytes, and its second is the end record
hex : HexText text example.image 36
unfolding hex_on_literals
hex = record { sound = refl; image = refl; cut = refl }

abbrev in_front : HasHex text example.image
in_front = record { position = 36; hex = hex; short = omega arith }

-- The options, and what a command that takes them is then. ------------------------------------------------

dumps : IsCommand (codes "dump" ∷ rest) (Dump (options_of example))
dumps = (refl, (chosen, said, values_are))

restarts : IsCommand (codes "restart" ∷ rest) (Restart (options_of example))
restarts = (refl, (chosen, said, values_are))

-- the words of the call, whose first is a command
pub record AreWords (command : List ℕ) (words : List (List ℕ)) (bytes : List ℕ) : Type 0 where
  pub words_are : words ≡ command ∷ rest
  pub bytes_are : bytes ≡ text

pub asks_run : (words : List (List ℕ)) (bytes : List ℕ) → AreWords (codes "run") words bytes → Asks words bytes example
asks_run words bytes are = rw (are.words_are, are.bytes_are) (record { command = with_options; front = in_front; script = record { sound = refl; schedule_is = refl } })

pub asks_dump : (words : List (List ℕ)) (bytes : List ℕ) → AreWords (codes "dump") words bytes → AsksDump words bytes example
asks_dump words bytes are = rw (are.words_are, are.bytes_are) (record { command = dumps; front = in_front; script = record { sound = refl; schedule_is = refl } })

pub asks_restart : (words : List (List ℕ)) (bytes : List ℕ) → AreWords (codes "restart") words bytes → AsksRestart words bytes example
asks_restart words bytes are = rw (are.words_are, are.bytes_are) (record { command = restarts; front = in_front; script = record { sound = refl; schedule_is = refl } })

pub are_words : (command a b c d e f bytes : List ℕ) → a ≡ command → b ≡ codes "--steps" → c ≡ codes "100" → d ≡ codes "--quantum=7" → e ≡ codes "--swap" → f ≡ codes "0" → bytes ≡ text
    → AreWords command (a ∷ b ∷ c ∷ d ∷ e ∷ f ∷ []) bytes
are_words command a b c d e f bytes first second third fourth fifth sixth same = rw (first, second, third, fourth, fifth, sixth, same) (record { words_are = refl; bytes_are = refl })

-- The HEX text alone. -------------------------------------------------------------------------------------

abbrev hex_text : List ℕ
hex_text = codes ":060000000FE00BBBFFCF77\n:00000001FF\n"

hex_alone : HexText hex_text example.image 36
unfolding hex_on_literals
hex_alone = record { sound = refl; image = refl; cut = refl }

-- the first of some
abbrev head : {A : Type 0} → (list : List A) → (list ≡ [] → ⊥) → A
head [] some = absurd (some refl)
head (x ∷ list) some = x

tasks_values : AreValues tasks_rows (slice_set options.nothing 4 (Some 1)) (entry_of (Tasks (tasks_options_of example_of_tasks))).2
tasks_values = (
  1,
  1000000 ∷ 255 ∷ 32 ∷ [],
  refl,
  record { is = refl; least = omega arith; most = omega arith },
  (
    1000000,
    255 ∷ 32 ∷ [],
    refl,
    record { is = refl; least = omega arith; most = omega arith },
    (
      255,
      32 ∷ [],
      refl,
      record { is = refl; least = omega arith; most = omega arith },
      (32, [], refl, record { is = refl; least = omega arith; most = omega arith }, refl),
    ),
  ),
)

pub tasks_command : IsCommand (codes "tasks" ∷ codes "--tasks" ∷ codes "1" ∷ []) (Tasks (tasks_options_of example_of_tasks))
tasks_command = (
  refl,
  (
    slice_set options.nothing 4 (Some 1),
    (
      record { parameter = (head tasks_rows (λ e. cc)).parameter; value = 1 } ∷ [],
      ([], record { digits = codes "1"; written = inl refl; number = refl; has = refl }, refl, (refl, refl)),
    ),
    tasks_values,
  ),
)

far : (a : ℕ) → IsApart 1 a → 3 ≤ a
far a (inl behind) = omega (arith, behind)
far a (inr (inl one)) = omega (arith, one)
far a (inr (inr other)) = omega (arith, other)

placed : (a : ℕ) → ¬ IsMisplaced 1 example.image a
placed a is = is.1 (outside example.image a (far a is.0))

pub schedules : Schedules 1 [] (nothing ∷ [])
schedules = record { sound = refl; schedules_are = refl }

pub asks_tasks : AsksTasks words_of_tasks hex_text example_of_tasks
asks_tasks = record { command = tasks_command; front = record { position = 36; hex = hex_alone; short = omega arith }; scripts = schedules; placed = placed }

pub words_are : (a b c : List ℕ) → a ≡ codes "tasks" → b ≡ codes "--tasks" → c ≡ codes "1" → a ∷ b ∷ c ∷ [] ≡ words_of_tasks
words_are a b c first second third = rw (first, second, third) refl

pub check_command : IsCommand (codes "check" ∷ []) Check
check_command = (refl, (options.nothing, ([], (refl, refl)), refl))

pub asks_check : AsksCheck (codes "check" ∷ []) hex_text example.image erased
unfolding many
asks_check = record { command = check_command; front = record { position = 36; hex = hex_alone; short = omega arith }; dump = record { sound = refl; words_are = refl } }

abbrev pub words_of_generate : List (List ℕ)
words_of_generate = codes "generate" ∷ codes "7" ∷ []

generate_command : IsCommand words_of_generate (Generate 7)
generate_command = (
  refl,
  (
    slice_set options.nothing 0 (Some 7),
    (
      record { parameter = (head seed_rows (λ e. cc)).parameter; value = 7 } ∷ [],
      ([], record { digits = codes "7"; written = refl; number = refl; has = refl }, refl, (refl, refl)),
    ),
    (7, [], refl, record { is = refl; least = omega arith; most = omega arith }, refl),
  ),
)

pub asks_generate : AsksGenerate words_of_generate 7
asks_generate = generate_command

pub words_to_generate : (a b : List ℕ) → a ≡ codes "generate" → b ≡ codes "7" → a ∷ b ∷ [] ≡ words_of_generate
words_to_generate a b first second = rw (first, second) refl
