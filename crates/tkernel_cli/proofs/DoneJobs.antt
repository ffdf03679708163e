-- What is done for a job, by its kind.
use Rattle.std.proofs.Common.{◌≡◌, List, ℕ, Option, None, refl, sym, subst, inl, inr, ◌⊎◌}
use Rattle.program_steps.specs.Machines.{Machine}
use Rattle.cli_words.specs.declared.job.Job.{Job}
use Rattle.cli_words.specs.declared.job.Job.TheVariants as jobs
use Rattle.cli_words.specs.declared.status.Status.{Status}
use Rattle.cli_words.specs.Commands.{RunsAProgram}
use Rattle.cli_words.specs.Printed.{no_memory}
use Rattle.cli_words.specs.Stream.{Stream}
use Rattle.tkernel_cli.specs.Answer.{Does}
use Rattle.tkernel_cli.specs.Jobs.{DoesAlone}
use Rattle.tkernel_cli.specs.Runs.{Says}
use Rattle.tkernel_cli.specs.declared.top.Exit.{Exit}

-- a job is done, or memory is wanted for it
abbrev pub IsDone : Job → Stream → Stream → Exit → Type 0
IsDone job before now exit = Does job before now exit ⊎ (RunsAProgram job × Does no_memory before now exit)

pub done_as : (job own : Job) (before now : Stream) (exit : Exit) → job ≡ own → IsDone own before now exit → IsDone job before now exit
done_as job own before now exit is done = subst (λ j. IsDone j before now exit) (sym is) done

-- one of one program or of none keeps no tasks
does_alone : (job : Job) (before now : Stream) (told : Status) (held : Option Machine) → DoesAlone job before now told held → Does job before now (record { status = told; kept = held; tasks = None })
does_alone (jobs.Print own line) before now told held done = (done, refl)
does_alone (jobs.Run request) before now told held done = (done, refl)
does_alone (jobs.Dump request) before now told held done = (done, refl)
does_alone (jobs.Restart request again) before now told held done = (done, refl)
does_alone (jobs.Tasks request) before now told held done = absurd done
does_alone (jobs.Write text) before now told held done = (done, refl)

pub done_alone : (job own : Job) (before now : Stream) (told : Status) (held : Option Machine) → job ≡ own
    → DoesAlone own before now told held ⊎ (RunsAProgram own × DoesAlone no_memory before now told held)
    → IsDone job before now (record { status = told; kept = held; tasks = None })
done_alone job own before now told held is done = done_as job own before now _ is (elim done [
  | inl whole ↦ inl (does_alone own before now told held whole)
  | inr none ↦ inr (none.0, does_alone no_memory before now told held none.1)
])

pub or_wanting : {A B C : Type 0} → B → A ⊎ C → A ⊎ (B × C)
or_wanting reason done = elim done [ inl whole ↦ inl whole | inr none ↦ inr (reason, none) ]

-- a text that was said, with no machine
pub said_alone : (own said told : Status) (put text : List ℕ) (before now : Stream) (held : Option Machine) → told ≡ said → held ≡ None → put ≡ text → Says own put before now said
    → Says own text before now told × (held ≡ None)
said_alone own said told put text before now held status nothing line done =
    (subst (λ s. Says own text before now s) (sym status) (subst (λ t. Says own t before now said) line done), nothing)
