-- What command lines ask for (docs/WATCHING.md).
use Rattle.std.specs.Prelude.{◌≡◌, ℕ, ◌⊎◌, List, [], ◌∷◌, Option, Some, None, bytes_eq, codes, if◌then◌else◌}
use Rattle.cli_words.specs.declared.command.Command.TheVariants.{Run}
use Rattle.cli_words.specs.declared.command.RunOptions.{RunOptions}
use Rattle.cli_words.specs.declared.job.Job.{Job}
use Rattle.cli_words.specs.declared.job.Job.TheVariants.{Print}
use Rattle.cli_words.specs.declared.status.Status.{Status}
use Rattle.cli_words.specs.declared.status.Status.TheVariants.{Done, Usage}
use Rattle.cli_words.specs.Commands.{IsCommand}
use Rattle.byte_streams.specs.Streams.{Input}
use Rattle.cli_requests.specs.Asking.{Asks, Warrants, wanted}
use Rattle.tk_watch.specs.declared.view.View.{View}
use Rattle.tk_watch.specs.declared.view.View.TheVariants.{Lines, State, Memory, Profile}
use Rattle.tk_watch.specs.ViewWords.{AskWithWords}

-- the table of the views that are one word
abbrev pub views : List (List ℕ × View)
views = (codes "lines", Lines) ∷ (codes "state", State) ∷ (codes "memory", Memory) ∷ (codes "profile", Profile) ∷ []

-- the view that has this word
abbrev pub view_in : List (List ℕ × View) → List ℕ → Option View
view_in [] word = None
view_in (row ∷ rows) word = if bytes_eq word row.0 then Some row.1 else view_in rows word

-- the words ask for a view, by its own word or with some behind it, and others stand behind
abbrev pub AskForView : List (List ℕ) → (behind : List (List ℕ)) → View → Type 0
AskForView [] behind view = ⊥
AskForView (word ∷ rest) behind view = ((view_in views word ≡ Some view) × (behind ≡ rest)) ⊎ AskWithWords word rest behind view

-- the words ask for a view of a run with these options, which stand behind the words of the view as they do behind `run`
abbrev pub AskToWatch : List (List ℕ) → View → RunOptions → Type 0
AskToWatch words view options = (behind : List (List ℕ)) × AskForView words behind view × IsCommand (codes "run" ∷ behind) (Run options)

abbrev pub usage_text : List ℕ
usage_text = codes "usage: tkwatch lines | state | memory | profile | trace N COUNT | visits 0xPC.. | changes 0xADDR COUNT | accesses 0xADDR COUNT [--steps N] [--quantum Q] [--swap S]\n"

abbrev pub usage : Status → Job
usage own = Print own (record { items = usage_text })

-- the words ask for the usage line
abbrev pub AskForHelp : List (List ℕ) → Type 0
AskForHelp words = words ≡ codes "help" ∷ []

-- the words ask for nothing
pub record AskForNothing (words : List (List ℕ)) : Type 0 where
  pub unwatched : (view : View) (options : RunOptions) → ¬ AskToWatch words view options
  pub helpless : ¬ AskForHelp words

-- A view is asked for, and what `tkernel run` does with the same options and the same input is what is watched; or the usage
-- line is asked for; or the words ask for nothing, and are refused. Nothing is read but for a view.
abbrev pub IsAsked : List (List ℕ) → (before now : Input) → View → Job → Type 0
IsAsked words before now view job =
    ((options : RunOptions) × AskToWatch words view options × Asks (Run options) before now job)
    ⊎ ((AskForHelp words × (job ≡ usage Done) × (now ≡ before))
    ⊎ (AskForNothing words × (job ≡ usage Usage) × (now ≡ before)))

-- the same, if memory serves
abbrev pub IsWarranted : List (List ℕ) → (before now : Input) → View → Job → Type 0
IsWarranted words before now view job =
    ((options : RunOptions) × AskToWatch words view options × Warrants (wanted (Run options)) before now job)
    ⊎ ((AskForHelp words × (job ≡ usage Done)) ⊎ (AskForNothing words × (job ≡ usage Usage)))
