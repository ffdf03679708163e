-- Tasks are kept by `tasks` alone.
use Rattle.std.proofs.Common.{◌≡◌, ◌≢◌, ℕ, List, None, refl, sym, subst, inl, inr}
use Rattle.byte_streams.specs.Streams.{Input}
use Rattle.cli_words.specs.declared.command.Command.{Command}
use Rattle.cli_words.specs.declared.command.Command.TheVariants.{Help, Run, Dump, Restart, Tasks, Check, Generate, Asm}
use Rattle.cli_words.specs.declared.command.RunOptions.{RunOptions}
use Rattle.cli_words.specs.declared.command.TaskOptions.{TaskOptions}
use Rattle.cli_words.specs.declared.job.Job.{Job}
use Rattle.cli_words.specs.declared.job.Job.TheVariants as jobs
use Rattle.cli_words.specs.declared.request.Request.{Request}
use Rattle.cli_words.specs.Commands.{IsCommand}
use Rattle.cli_words.specs.Stream.{Stream}
use Rattle.cli_requests.specs.Asking.{Asks, IsAsked}
use Rattle.cli_requests.specs.Reading.{AsksByText, IsUnread, IsJudged, Bad, Good}
use Rattle.cli_requests.specs.AsmCommand.{AsmAsks}
use Rattle.cli_requests.specs.CheckCommand.{CheckAsks}
use Rattle.cli_requests.specs.DumpCommand.{DumpAsks}
use Rattle.cli_requests.specs.RestartCommand.{RestartAsks}
use Rattle.cli_requests.specs.RunCommand.{RequestThen, RunAsks}
use Rattle.tkernel_cli.specs.declared.top.Exit.{Exit}
use Rattle.tkernel_cli.specs.Answer.{Does}
use Rattle.theorem_reader.specs.Tasks.{AsksNoTasks}
use Rattle.theorem_reader.proofs.Doing.{Call}

-- the job is that of one program, or of none
abbrev IsOfOne : Job → Type 0
IsOfOne (jobs.Tasks request) = ⊥
IsOfOne _ = Unit {0}

keeps_none : (job : Job) (sink sink' : Stream) (exit : Exit) → IsOfOne job → Does job sink sink' exit → exit.tasks ≡ None
keeps_none (jobs.Tasks request) sink sink' exit one done = absurd one
keeps_none _ sink sink' exit one done = done.1

judged : {V : Type 0} (part : List ℕ) (Is : V → Type 0) (IsBad : ℕ → List ℕ → Type 0) (Then : V → Job → Type 0) (job : Job) → ((value : V) → Then value job → IsOfOne job)
    → IsJudged V part Is IsBad Then job → IsOfOne job
judged part Is IsBad Then job one (Bad line word bad is) = subst IsOfOne (sym is) tt
judged part Is IsBad Then job one (Good value is then) = one value then

requested : (options : RunOptions) (text : List ℕ) (asked : Request → Job) (job : Job) → ((request : Request) → IsOfOne (asked request)) → RequestThen options text asked job → IsOfOne job
requested options text asked job one = judged _ _ _ _ job (λ hex. judged _ _ _ _ job (λ schedule is. subst IsOfOne (sym is) (one _)))

by_text : (Rule : List ℕ → Job → Type 0) (before now : Input) (job : Job) → ((text : List ℕ) → Rule text job → IsOfOne job) → AsksByText Rule before now job → IsOfOne job
by_text Rule before now job one (inl (IsUnread.ReadFault is rose taken)) = subst IsOfOne (sym is) tt
by_text Rule before now job one (inl (IsUnread.TooLong is taken)) = subst IsOfOne (sym is) tt
by_text Rule before now job one (inl (IsUnread.NoMemory is taken)) = subst IsOfOne (sym is) tt
by_text Rule before now job one (inr asked) = one asked.0 asked.2

by_command : (command : Command) (before now : Input) (job : Job) → ((options : TaskOptions) → command ≢ Tasks options) → Asks command before now job → IsOfOne job
by_command Help before now job other asks = subst IsOfOne (sym asks.0) tt
by_command (Run options) before now job other asks = by_text (RunAsks options) before now job (λ text. requested options text jobs.Run job (λ request. tt)) asks
by_command (Dump options) before now job other asks = by_text (DumpAsks options) before now job (λ text. requested options text jobs.Dump job (λ request. tt)) asks
by_command (Restart options) before now job other asks = by_text (RestartAsks options) before now job
    (λ text. requested options text (λ request. jobs.Restart request request.script) job (λ request. tt)) asks
by_command (Tasks options) before now job other asks = absurd (other options refl)
by_command Check before now job other asks = by_text CheckAsks before now job (λ text. judged _ _ _ _ job (λ hex. judged _ _ _ _ job (λ words is. subst IsOfOne (sym is.2) tt))) asks
by_command (Generate seed) before now job other asks = elim asks.0 [ inl is ↦ subst IsOfOne (sym is) tt | inr is ↦ subst IsOfOne (sym is) tt ]
by_command Asm before now job other asks = by_text AsmAsks before now job (λ text. judged _ _ _ _ job (λ words is. subst IsOfOne (sym is) tt)) asks

of_one : (words : List (List ℕ)) (before now : Input) (job : Job) → AsksNoTasks words → IsAsked words before now job → IsOfOne job
of_one words before now job none (inl asked) = by_command asked.0 before now job (λ options is. none options (subst (IsCommand words) is asked.1)) asked.2
of_one words before now job none (inr unknown) = subst IsOfOne (sym unknown.1) tt

pub no_tasks : (words : List (List ℕ)) (exit : Exit) (status faults : ℕ) (taken : List ℕ) (call : Call words exit status faults taken) → AsksNoTasks words → exit.tasks ≡ None
no_tasks words exit status faults taken call none =
    keeps_none call.answer.job call.sink call.sink' exit (of_one words call.source call.source' call.answer.job none call.answer.asked) call.answer.done
