-- The words of a command line, this project's own grammar (docs/FORMATS.md): a command, and behind it its
-- numbers in any order, each at most once. A number with a name stands in the word behind the name, or
-- behind `=` in the same one.
use Rattle.std.specs.Prelude.{◌≡◌, ℕ, ◌≤◌, ◌⊎◌, ◌==◌, List, [], ◌∷◌, ◌++◌, codes, slice_get, slice_set, slice_index_or, map, find, Option, Some, None, IsSome}
use Rattle.std.specs.Option.{option_or}
use Rattle.input_script.specs.Grammar.{number_of}
use Rattle.cli_words.specs.declared.command.RunOptions.{RunOptions}
use Rattle.cli_words.specs.declared.table.Parameter.{Parameter}
use Rattle.cli_words.specs.declared.table.Parameter.TheVariants.{Seed, Count, Steps, Quantum, Swap}
use Rattle.cli_words.specs.declared.table.Row.{Row}
use Rattle.cli_words.specs.declared.options.Choice.{Choice}

-- the name of a parameter, where it has one
abbrev pub name_of : Parameter → Option (List ℕ)
name_of Seed = None
name_of Count = Some (codes "--tasks")
name_of Steps = Some (codes "--steps")
name_of Quantum = Some (codes "--quantum")
name_of Swap = Some (codes "--swap")

-- all parameters, and the place of each, by which they are told apart
abbrev pub parameters : List Parameter
parameters = Seed ∷ Steps ∷ Quantum ∷ Swap ∷ Count ∷ []

abbrev pub place_of : Parameter → ℕ
place_of Seed = 0
place_of Steps = 1
place_of Quantum = 2
place_of Swap = 3
place_of Count = 4

-- the options of a run where the words give none
abbrev pub default_options : RunOptions
default_options = record { steps = 1000000; quantum = 255; swap = 128 }

-- What a command takes: each parameter with its least and its greatest value, and the one that it has
-- where the words give none. This is what both `run` and `tasks` take, with as many swap slots at most, and
-- with these where the words give none
abbrev pub shared_rows : (most_swap default_swap : ℕ) → List Row
shared_rows most_swap default_swap =
    record { parameter = Steps; least = 0; most = 1000000000; default = Some default_options.steps }
    ∷ record { parameter = Quantum; least = 1; most = 255; default = Some default_options.quantum }
    ∷ record { parameter = Swap; least = 0; most = most_swap; default = Some default_swap }
    ∷ []

-- this a command that runs a program
abbrev pub run_rows : List Row
run_rows = shared_rows 251 default_options.swap

-- this one that runs several, which share the swap
abbrev pub tasks_rows : List Row
tasks_rows = record { parameter = Count; least = 1; most = 4; default = None } ∷ shared_rows 62 32

-- this one that runs a test program
abbrev pub seed_rows : List Row
seed_rows = record { parameter = Seed; least = 0; most = 4294967295; default = None } ∷ []

-- the row of a parameter
abbrev pub row_in : List Row → Parameter → Option Row
row_in rows parameter = find (λ row. place_of row.parameter == place_of parameter) rows

-- the first words write these digits, with the name that they have, and the rest stands behind them
abbrev pub IsWritten : Option (List ℕ) → (digits : List ℕ) → (words rest : List (List ℕ)) → Type 0
IsWritten None digits words rest = words ≡ digits ∷ rest
IsWritten (Some name) digits words rest = (words ≡ name ∷ digits ∷ rest) ⊎ (words ≡ (name ++ (codes "=" ++ digits)) ∷ rest)

-- the first words choose a value of one of these parameters
pub record BeginsWith (rows : List Row) (choice : Choice) (words rest : List (List ℕ)) : Type 0 where
  pub digits : List ℕ
  pub written : IsWritten (name_of choice.parameter) digits words rest
  pub number : number_of digits ≡ Some choice.value
  pub has : IsSome (row_in rows choice.parameter)

-- words that make these choices, one after another, each of a parameter that had no value
abbrev pub MakeChoices : List Row → List Choice → (words : List (List ℕ)) → (before after : List (Option ℕ)) → Type 0
MakeChoices rows [] words before after = (words ≡ []) × (before ≡ after)
MakeChoices rows (choice ∷ choices) words before after =
    (rest : List (List ℕ)) × BeginsWith rows choice words rest × (slice_get before (place_of choice.parameter) ≡ Some None)
    × MakeChoices rows choices rest (slice_set before (place_of choice.parameter) (Some choice.value)) after

abbrev pub Choose : List Row → (words : List (List ℕ)) → (before after : List (Option ℕ)) → Type 0
Choose rows words before after = (choices : List Choice) × MakeChoices rows choices words before after

-- no parameter has a value yet
abbrev pub nothing : List (Option ℕ)
nothing = map (λ parameter. None) parameters

-- the value of a parameter: the chosen one, or else the default
pub record IsValue (chosen : List (Option ℕ)) (row : Row) (value : ℕ) : Type 0 where
  pub is : option_or (slice_index_or chosen (place_of row.parameter) None) row.default ≡ Some value
  pub least : row.least ≤ value
  pub most : value ≤ row.most

-- the values of all parameters, in the order of the rows
abbrev pub AreValues : List Row → (chosen : List (Option ℕ)) → List ℕ → Type 0
AreValues [] chosen values = values ≡ []
AreValues (row ∷ rows) chosen values =
    (value : ℕ) × (others : List ℕ) × (values ≡ value ∷ others) × IsValue chosen row value × AreValues rows chosen others
