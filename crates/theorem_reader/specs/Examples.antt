-- Serves the contracts of the example calls: what `tasks` and `check` are asked in them, beside `example` of `Runs`.
use Rattle.std.specs.Prelude.{ℕ, List, [], ◌∷◌, codes, replicate}
use Rattle.theorem_reader.specs.Runs.{example}
use Rattle.theorem_reader.specs.Tasks.{AskedTasks}

-- the program of `example` alone, without a script
abbrev pub example_of_tasks : AskedTasks
example_of_tasks = record { image = example.image; scripts = record { events = []; failing = [] } ∷ []; count = 1; steps = 1000000; quantum = 255; slots = 32 }

-- the words `tasks --tasks 1`
abbrev pub words_of_tasks : List (List ℕ)
words_of_tasks = codes "tasks" ∷ codes "--tasks" ∷ codes "1" ∷ []

-- a flash whose words are all erased
abbrev pub erased : List ℕ
erased = replicate 65536 0xFFFF
