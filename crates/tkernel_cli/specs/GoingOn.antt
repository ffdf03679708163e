-- How a machine stands behind its run.
use Rattle.std.specs.Prelude.{◌≡◌, ℕ, false, List}
use Rattle.flat_machine.specs.FlatMachine.{Spent}
use Rattle.program_steps.specs.Machines.{Machine}
use Rattle.program_steps.specs.Ready.{IsExact}
use Rattle.tk_run.specs.Running.{states_of, StandsAfter}
use Rattle.cli_words.specs.declared.request.Request.{Request}
use Rattle.cli_words.specs.declared.status.Status.{Status}
use Rattle.cli_words.specs.Stream.{Stream}
use Rattle.tkernel_cli.specs.Runs.{Runs, RunsToTheEnd, original_of, whole_run}

-- Where all its steps were done and the program goes on, it stands between two steps, where the original program stands after as
-- many, as in the midst of a longer run.
abbrev pub SpentStandBetween : Type 0
SpentStandBetween =
    (request : Request) (start m : Machine) (front : List ℕ) (before now : Stream) (told : Status) → RunsToTheEnd request start front before now told m → (whole_run request).end ≡ Spent
    → StandsAfter (states_of (original_of request)) m.steps m

-- Unless lines could not be put, COUNT is what the crossings leave of the quantum, whatever ended the run.
abbrev pub CountsAreExact : Type 0
CountsAreExact = (request : Request) (m : Machine) (before now : Stream) (told : Status) → Runs request before now told m → m.broken ≡ false → IsExact m
