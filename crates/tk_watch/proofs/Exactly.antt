-- What words and input ask for is what is answered.
use Rattle.std.proofs.Common.{◌≡◌, ℕ, ◌-◌, ◌<◌, ◌≤◌, List, [], ◌∷◌, length, map, take, drop, String, Global, string_bytes, codes, refl, ap, ◌∙◌, subst, inl, inr, ◌⊎◌, arith}
use Rattle.std.specs.Prelude.{slice_index_or}
use Rattle.arrayvec.specs.ArrayVec.{ArrayVec}
use Rattle.cli_words.specs.declared.command.Command.TheVariants.{Run}
use Rattle.cli_words.specs.declared.command.RunOptions.{RunOptions}
use Rattle.cli_words.specs.declared.job.Job.{Job}
use Rattle.cli_words.specs.declared.job.Job.TheVariants as jobs
use Rattle.cli_words.specs.declared.request.Request.{Request}
use Rattle.cli_words.specs.declared.status.Status.{Status}
use Rattle.cli_words.specs.declared.status.Status.TheVariants.{Done, NoMemory, Usage}
use Rattle.cli_words.specs.Commands.{IsCommand}
use Rattle.cli_words.specs.Printed.{no_memory}
use Rattle.cli_words.specs.Stream.{Stream}
use Rattle.byte_streams.specs.Streams.{Input}
use Rattle.cli_words.proofs.FirstWord.{first_bytes}
use Rattle.cli_requests.specs.Asking.{Asks, Warrants, wanted}
use Rattle.cli_requests.specs.Reading.{AsksByText, IsJudged, IsUnread}
use Rattle.cli_requests.specs.RunCommand.{RunAsks}
use Rattle.cli_requests.proofs.Judging.{text_wants}
use Rattle.cli_requests.proofs.Reasons.{Wanting, Same, why}
use Rattle.tkernel_cli.specs.Runs.{Says}
use Rattle.tk_watch.specs.declared.view.View.{View}
use Rattle.tk_watch.specs.declared.view.View.TheVariants.{Lines}
use Rattle.tk_watch.specs.Answer.{Does, IsAnswer, IsExact}
use Rattle.tk_watch.specs.Views.{Shows}
use Rattle.tk_watch.proofs.ViewWordsLaws.{one_view}
use Rattle.tk_watch.specs.Words.{AskForHelp, AskForView, AskToWatch, IsAsked, IsWarranted, usage, usage_text}

-- `run` asks for a run or for a line
abbrev IsRunOrLine : Job → Type 0
IsRunOrLine (jobs.Run request) = Unit {0}
IsRunOrLine (jobs.Print own line) = Unit {0}
IsRunOrLine _ = ⊥

run_or_line : (options : RunOptions) (before now : Input) (job : Job) → AsksByText (RunAsks options) before now job → IsRunOrLine job
run_or_line options before now job (inl (IsUnread.ReadFault is rose taken)) = rw is tt
run_or_line options before now job (inl (IsUnread.TooLong is taken)) = rw is tt
run_or_line options before now job (inl (IsUnread.NoMemory is taken)) = rw is tt
run_or_line options before now job (inr (text, gave, IsJudged.Bad line word bad is)) = rw is tt
run_or_line options before now job (inr (text, gave, IsJudged.Good hex good (IsJudged.Bad line word bad is))) = rw is tt
run_or_line options before now job (inr (text, gave, IsJudged.Good hex good (IsJudged.Good schedule right is))) = rw is tt

-- .. and for nothing else
other_job : (job : Job) → IsRunOrLine job → ((request : Request) → job ≡ jobs.Run request → ⊥) → ((own : Status) (line : ArrayVec ℕ) → job ≡ jobs.Print own line → ⊥) → ⊥
other_job (jobs.Run request) is no_run no_line = no_run request refl
other_job (jobs.Print own line) is no_run no_line = no_line own line refl
other_job _ is no_run no_line = is

pub no_other_job : {A : Type 0} (options : RunOptions) (before now : Input) (job : Job) → AsksByText (RunAsks options) before now job → ((request : Request) → job ≡ jobs.Run request → ⊥)
    → ((own : Status) (line : ArrayVec ℕ) → job ≡ jobs.Print own line → ⊥) → A
no_other_job options before now job asks no_run no_line = absurd (other_job job (run_or_line options before now job asks) no_run no_line)

-- one word
pub one_word : (words : List (String Global)) (first : String Global) (text : List ℕ) → 1 ≤ length words → length words < 2 → first ≡ slice_index_or words 0 first → text ≡ string_bytes first
    → map string_bytes words ≡ text ∷ []
one_word words first text some one is same =
    let none : length words - 1 ≡ 0 = omega (arith, some, one) in
    first_bytes words first text some is same ∙ ap (λ n. text ∷ map string_bytes (take n (drop 1 words))) none

-- the answers
module _ {words : List (List ℕ)} {source source' : Input} {sink sink' : Stream} {told : Status} (view : View) (options : RunOptions) (job : Job) (watch : AskToWatch words view options)
    (asks : AsksByText (RunAsks options) source source' job) where
  pub answer_shown : (request : Request) → job ≡ jobs.Run request → Shows view request sink sink' told ⊎ Says NoMemory (codes "no memory\n") sink sink' told
      → IsAnswer words source source' sink sink' told
  answer_shown request is (inl shows) = record { view = view; job = jobs.Run request; asked = inl (options, watch, rw is at asks); done = shows }
  answer_shown request is (inr none) =
      record { view = view; job = no_memory; asked = inl (options, watch, text_wants (RunAsks options) source source' (jobs.Run request) tt (rw is at asks)); done = none }

  pub answer_line : (own : Status) (line : ArrayVec ℕ) (put : List ℕ) → job ≡ jobs.Print own line → put ≡ line.items → Says own put sink sink' told → IsAnswer words source source' sink sink' told
  answer_line own line put is same said = record { view = view; job = jobs.Print own line; asked = inl (options, watch, rw is at asks); done = rw same at said }

-- no view is asked for
pub answer_usage : {words : List (List ℕ)} {source : Input} {sink sink' : Stream} {told : Status} (own : Status) → ((view : View) (options : RunOptions) → ¬ AskToWatch words view options)
    → (AskForHelp words × (own ≡ Done)) ⊎ ((¬ AskForHelp words) × (own ≡ Usage)) → Says own usage_text sink sink' told → IsAnswer words source source sink sink' told
answer_usage own unwatched (inl help) said = record { view = Lines; job = usage own; asked = inr (inl (help.0, ap usage help.1, refl)); done = said }
answer_usage own unwatched (inr none) said =
    record { view = Lines; job = usage own; asked = inr (inr (record { unwatched = unwatched; helpless = none.0 }, ap usage none.1, refl)); done = said }

-- a view is told by its words
same_view : (words : List (List ℕ)) (a b : View) (options options' : RunOptions) → AskToWatch words a options → AskToWatch words b options' → a ≡ b
same_view words a b options options' first second = (one_view words first.0 second.0 a b first.1 second.1).0

help_alone : (behind : List (List ℕ)) (view : View) → ¬ AskForView (codes "help" ∷ []) behind view
help_alone behind view (inl ask) = absurd (let e = ask.0 in cc)
help_alone behind view (inr (inl ask)) = let e = ask.0 in absurd (cc)
help_alone behind view (inr (inr (inl ask))) = let e = ask.0 in absurd (cc)
help_alone behind view (inr (inr (inr (inl ask)))) = let e = ask.0 in absurd (cc)
help_alone behind view (inr (inr (inr (inr ask)))) = let e = ask.0 in absurd (cc)

no_help : (words : List (List ℕ)) (view : View) (options : RunOptions) → AskForHelp words → ¬ AskToWatch words view options
no_help words view options help watch = help_alone watch.0 view (subst (λ w. AskForView w watch.0 view) help watch.1)

module _ (words : List (List ℕ)) (source source' : Input) (sink sink' : Stream) (told : Status) where
  exact_watch : (view : View) (options options' : RunOptions) (job whole : Job) → AskToWatch words view options → Asks (Run options) source source' job → AskToWatch words view options'
      → Warrants (wanted (Run options')) source source' whole → Does view job sink sink' told → Does view no_memory sink sink' told ⊎ Does view whole sink sink' told
  exact_watch view options options' job whole watch asks watch' warrants done =
      let same = (one_view words watch'.0 watch.0 view view watch'.1 watch.1).1 in
      elim (why (codes "run" ∷ watch.0) source source' job whole (inl (Run options, watch.2, asks))
      (inl (Run options', subst (λ b. IsCommand (codes "run" ∷ b) (Run options')) same watch'.2, warrants))) [
        | Wanting is ↦ inl (rw is at done)
        | Same is ↦ inr (rw is at done)
      ]

  -- the usage line, whatever the view
  usage_done : (own : Status) (a b : View) (job whole : Job) → job ≡ usage own → whole ≡ usage own → Does a job sink sink' told → Does b whole sink sink' told
  usage_done own a b job whole is same done =
      let said : Says own usage_text sink sink' told = rw is at done in
      rw same said

  exactly : (a b : View) (job whole : Job) → IsAsked words source source' a job → IsWarranted words source source' b whole → Does a job sink sink' told
      → Does b no_memory sink sink' told ⊎ Does b whole sink sink' told
  exactly a b job whole (inl asked) (inl other) done =
      let same = same_view words a b asked.0 other.0 asked.1 other.1 in
      exact_watch b asked.0 other.0 job whole (subst (λ v. AskToWatch words v asked.0) same asked.1) asked.2 other.1 other.2 (subst (λ v. Does v job sink sink' told) same done)
  exactly a b job whole (inl asked) (inr (inl help)) done = absurd (no_help words a asked.0 help.0 asked.1)
  exactly a b job whole (inl asked) (inr (inr nothing)) done = absurd (nothing.0.unwatched a asked.0 asked.1)
  exactly a b job whole (inr (inl help)) (inl other) done = absurd (no_help words b other.0 help.0 other.1)
  exactly a b job whole (inr (inl help)) (inr (inl other)) done = inr (usage_done _ a b job whole help.1 other.1 done)
  exactly a b job whole (inr (inl help)) (inr (inr nothing)) done = absurd (nothing.0.helpless help.0)
  exactly a b job whole (inr (inr nothing)) (inl other) done = absurd (nothing.0.unwatched b other.0 other.1)
  exactly a b job whole (inr (inr nothing)) (inr (inl help)) done = absurd (nothing.0.helpless help.0)
  exactly a b job whole (inr (inr nothing)) (inr (inr other)) done = inr (usage_done _ a b job whole nothing.1 other.1 done)

  -- what is asked for is what is warranted, but for want of memory
  pub answer_is_exact : IsAnswer words source source' sink sink' told → IsExact words source source' sink sink' told
  answer_is_exact answer view whole warranted = exactly answer.view view answer.job whole answer.asked warranted answer.done
