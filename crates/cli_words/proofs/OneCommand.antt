-- The words of a command line ask for one thing.
use Rattle.std.proofs.Common.{◌≡◌, ◌≤◌, ℕ, List, [], ◌∷◌, codes, refl, sym, ap, ap₂, ◌∙◌, subst, arith}
use Rattle.std.specs.Prelude.{MatchOption, Option, Some, None, bytes_eq, if◌then◌else◌}
use Rattle.cli_words.specs.declared.command.Command.{Command}
use Rattle.cli_words.specs.declared.command.Command.TheVariants.{Help, Run, Dump, Restart, Tasks, Check, Generate, Asm}
use Rattle.cli_words.specs.declared.command.RunOptions.{RunOptions}
use Rattle.cli_words.specs.declared.command.TaskOptions.{TaskOptions}
use Rattle.cli_words.specs.declared.table.Row.{Row}
use Rattle.cli_words.specs.Options.{AreValues, Choose, nothing, run_rows, seed_rows, tasks_rows}
use Rattle.cli_words.specs.Commands.{IsCommand, IsNoCommand, entry_of, run_numbers}
use Rattle.cli_words.proofs.NumberChoices.{one_chosen}

-- choices give one list of values
one_list : (rows : List Row) (chosen : List (Option ℕ)) (a b : List ℕ) → AreValues rows chosen a → AreValues rows chosen b → a ≡ b
one_list [] chosen a b first second = first ∙ sym second
one_list (row ∷ rows) chosen a b first second =
    let found = sym first.3.is ∙ second.3.is in
    let same : first.0 ≡ second.0 = cc in
    first.2 ∙ ap₂ (λ v vs. v ∷ vs) same (one_list rows chosen first.1 second.1 first.4 second.4) ∙ sym second.2

-- options are told by their numbers
abbrev run_by : List ℕ → RunOptions
run_by (steps ∷ quantum ∷ swap ∷ []) = record { steps = steps; quantum = quantum; swap = swap }
run_by _ = record { steps = 0; quantum = 0; swap = 0 }

abbrev tasks_by : List ℕ → TaskOptions
tasks_by (count ∷ steps ∷ quantum ∷ swap ∷ []) = record { count = count; steps = steps; quantum = quantum; swap = swap }
tasks_by _ = record { count = 0; steps = 0; quantum = 0; swap = 0 }

abbrev seed_by : List ℕ → ℕ
seed_by (seed ∷ []) = seed
seed_by _ = 0

-- what the command of a word takes
abbrev rows_by : List ℕ → List Row
rows_by word =
    if bytes_eq word (codes "tasks") then tasks_rows
    else if bytes_eq word (codes "generate") then seed_rows
    else if bytes_eq word (codes "help") then []
    else if bytes_eq word (codes "check") then []
    else if bytes_eq word (codes "asm") then []
    else run_rows

rows_are : (command : Command) → rows_by (entry_of command).0 ≡ (entry_of command).1
rows_are Help = refl
rows_are (Run options) = refl
rows_are (Dump options) = refl
rows_are (Restart options) = refl
rows_are (Tasks options) = refl
rows_are Check = refl
rows_are (Generate seed) = refl
rows_are Asm = refl

pub same_rows : (a b : Command) → (entry_of a).0 ≡ (entry_of b).0 → (entry_of a).1 ≡ (entry_of b).1
same_rows a b same = sym (rows_are a) ∙ ap rows_by same ∙ rows_are b

-- a command is told by its word and its values
abbrev made_by : List ℕ → List ℕ → Command
made_by word values =
    if bytes_eq word (codes "help") then Help
    else if bytes_eq word (codes "run") then Run (run_by values)
    else if bytes_eq word (codes "dump") then Dump (run_by values)
    else if bytes_eq word (codes "restart") then Restart (run_by values)
    else if bytes_eq word (codes "tasks") then Tasks (tasks_by values)
    else if bytes_eq word (codes "check") then Check
    else if bytes_eq word (codes "generate") then Generate (seed_by values)
    else Asm

made_is : (command : Command) → made_by (entry_of command).0 (entry_of command).2 ≡ command
made_is Help = refl
made_is (Run options) = refl
made_is (Dump options) = refl
made_is (Restart options) = refl
made_is (Tasks options) = refl
made_is Check = refl
made_is (Generate seed) = refl
made_is Asm = refl

-- words are one command
pub one_command : (words : List (List ℕ)) (a b : Command) → IsCommand words a → IsCommand words b → a ≡ b
one_command [] a b first second = absurd first
one_command (word ∷ rest) a b first second =
    let same : (entry_of a).0 ≡ (entry_of b).0 = sym first.0 ∙ second.0 in
    let rows : (entry_of a).1 ≡ (entry_of b).1 = same_rows a b same in
    let chosen : first.1.0 ≡ second.1.0 = one_chosen (entry_of a).1 first.1.1.0 rest nothing first.1.0 second.1.0 first.1.1.1 (subst (λ r. Choose r rest nothing second.1.0) (sym rows) second.1.1) in
    let values : (entry_of a).2 ≡ (entry_of b).2 =
    one_list (entry_of a).1 second.1.0 (entry_of a).2 (entry_of b).2 (subst (λ c. AreValues (entry_of a).1 c (entry_of a).2) chosen first.1.2)
    (subst (λ r. AreValues r second.1.0 (entry_of b).2) (sym rows) second.1.2) in
    sym (made_is a) ∙ ap₂ made_by same values ∙ made_is b

-- words that choose nothing are no command
pub no_choice : (words rest : List (List ℕ)) (word : List ℕ) (kind : Command) → words ≡ word ∷ rest → word ≡ (entry_of kind).0
    → ((after : List (Option ℕ)) → ¬ Choose (entry_of kind).1 rest nothing after) → IsNoCommand words
no_choice words rest word kind cut is none command asked =
    let own : IsCommand (word ∷ rest) command = subst (λ w. IsCommand w command) cut asked in
    none own.1.0 (subst (λ r. Choose r rest nothing own.1.0) (same_rows command kind (sym own.0 ∙ is)) own.1.1)

-- what was made of the choices, or not
pub command_told : (words rest : List (List ℕ)) (word : List ℕ) (kind : Command) (chosen : List (Option ℕ)) (found : Option Command) → words ≡ word ∷ rest → word ≡ (entry_of kind).0
    → Choose (entry_of kind).1 rest nothing chosen
    → MatchOption found ((values : List ℕ) → ¬ AreValues (entry_of kind).1 chosen values)
    (λ command. ((entry_of command).0 ≡ (entry_of kind).0) × AreValues (entry_of command).1 chosen (entry_of command).2)
    → MatchOption found (IsNoCommand words) (IsCommand words)
command_told words rest word kind chosen None cut is said none = λ command asked.
    let own : IsCommand (word ∷ rest) command = subst (λ w. IsCommand w command) cut asked in
    let rows : (entry_of command).1 ≡ (entry_of kind).1 = same_rows command kind (sym own.0 ∙ is) in
    let chose : Choose (entry_of kind).1 rest nothing own.1.0 = subst (λ r. Choose r rest nothing own.1.0) rows own.1.1 in
    let same : own.1.0 ≡ chosen = one_chosen (entry_of kind).1 chose.0 rest nothing own.1.0 chosen chose.1 said in
    none (entry_of command).2 (subst (λ c. AreValues (entry_of kind).1 c (entry_of command).2) same (subst (λ r. AreValues r own.1.0 (entry_of command).2) rows own.1.2))
command_told words rest word kind chosen (Some command) cut is said made =
    subst (λ w. IsCommand w command) (sym cut) (is ∙ sym made.0, (chosen, subst (λ r. Choose r rest nothing chosen) (sym (same_rows command kind made.0)) said, made.1))

-- a command for several programs has one at least
count_least : (count value : ℕ) (numbers others : List ℕ) → count ∷ numbers ≡ value ∷ others → 1 ≤ value → 1 ≤ count
count_least count value numbers others is least = let same : count ≡ value = cc in omega (arith, same, least)

pub one_program : (words : List (List ℕ)) (options : TaskOptions) → IsCommand words (Tasks options) → 1 ≤ options.count
one_program [] options is = absurd is
one_program (word ∷ rest) options is = let are = is.1.2 in count_least options.count are.0 _ are.1 are.2 are.3.least

-- words behind `run`, which choose its options or none
pub no_run : (rest : List (List ℕ)) → ((after : List (Option ℕ)) → ¬ Choose run_rows rest nothing after) → (options : RunOptions) → ¬ IsCommand (codes "run" ∷ rest) (Run options)
no_run rest none options asked = none asked.1.0 asked.1.1

pub run_told : (rest : List (List ℕ)) (chosen : List (Option ℕ)) (found : Option RunOptions) → Choose run_rows rest nothing chosen
    → MatchOption found ((values : List ℕ) → ¬ AreValues run_rows chosen values) (λ options. AreValues run_rows chosen (run_numbers options))
    → MatchOption found ((options : RunOptions) → ¬ IsCommand (codes "run" ∷ rest) (Run options)) (λ options. IsCommand (codes "run" ∷ rest) (Run options))
run_told rest chosen None said none = λ options asked.
    let same : asked.1.0 ≡ chosen = one_chosen run_rows asked.1.1.0 rest nothing asked.1.0 chosen asked.1.1.1 said in
    none (run_numbers options) (subst (λ c. AreValues run_rows c (run_numbers options)) same asked.1.2)
run_told rest chosen (Some options) said values_are = (refl, (chosen, said, values_are))
