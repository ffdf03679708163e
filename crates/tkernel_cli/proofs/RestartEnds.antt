-- The second run of a restart, with its first line and its last two, as the answer tells it.
use Rattle.std.proofs.Common.{◌≡◌, ℕ, ◌≤◌, false, true, List, [], length, refl, ap, subst, arith}
use Rattle.std.specs.Prelude.{◌≢◌, Option, Result, Ok, Err, ◌^◌}
use Rattle.std.specs.Io.KnownBytes.{Appends}
use Rattle.byte_streams.specs.declared.failure.Failed.{Failed}
use Rattle.byte_streams.specs.Faults.{Rose, HasCause}
use Rattle.flash_words.specs.Layouts.{layout_of}
use Rattle.flash_words.specs.Memory.{Memory}
use Rattle.nat_page.specs.Faithful.{IsFaithful}
use Rattle.flat_machine.specs.FlatMachine.{Program}
use Rattle.kernel_entry.specs.Parts.{image_held}
use Rattle.kernel_entry.specs.Seen.{program}
use Rattle.kernel_entry.specs.declared.kernel.End.{End as MachineEnd}
use Rattle.kernel_entry.specs.declared.kernel.End.TheVariants as ends
use Rattle.program_steps.specs.Machines.{Machine}
use Rattle.program_steps.specs.Ready.{IsKept}
use Rattle.tk_run.specs.Running.{HasAdvanced}
use Rattle.tk_run.specs.WholeRuns.{HasWholeOver, program_at}
use Rattle.tk_run.proofs.WholeRun.{run_over}
use Rattle.cli_words.specs.declared.request.Request.{Request}
use Rattle.cli_words.specs.declared.status.Status.{Status}
use Rattle.cli_words.specs.declared.status.Status.TheVariants as status
use Rattle.tkernel_cli.specs.DumpRuns.{silent}
use Rattle.tkernel_cli.specs.RestartRuns.{RunsOver, second_start}
use Rattle.cli_words.specs.Stream.{Stream}
use Rattle.tkernel_cli.specs.Runs.{Says, Runs, last_text, status_of_stop}
use Rattle.tkernel_cli.proofs.RunEnds.{BeginInTurn, ended_to, until_cut, err_rose}

-- a sink that never fails cuts no run short
never_rose : Rose 0 0 → ⊥
never_rose rose = omega (arith, rose)

-- so the first run's program is the one that was asked for
pub program_silent : (request : Request) (ended : Status) (m : Machine) → Runs request silent silent ended m → program m.kernel ≡ program_at request.image request.options.quantum request.options.swap
program_silent request ended m (Runs.Ended unlisted run) = run.follows.at.program
program_silent request ended m (Runs.Failed run) = run.follows.at.program
program_silent request ended m (Runs.Cut run) = absurd (never_rose run.rose)

-- none of its operations is to fail
unlisted_end : (request : Request) (flash : Memory) (end : MachineEnd) (before after : Option (List ℕ)) (m : Machine)
    → HasWholeOver request.image flash request.script request.options.quantum request.options.swap request.options.steps before after (Ok end) m → (op : ℕ) → end ≢ ends.Flash op
unlisted_end request flash ends.Spent before after m run op is = cc
unlisted_end request flash (ends.Stopped stop) before after m run op is = cc
unlisted_end request flash (ends.Wild t) before after m run op is = cc
unlisted_end request flash (ends.Flash op') before after m run op is = (let e : false ≡ true = run.listed in absurd (cc))

-- by what `advance` leaves
pub over_answered : (request : Request) (flash : Memory) (line : List ℕ) (before first mid now : Stream) (told : Status) (result : Result MachineEnd Failed) (end : MachineEnd) (m : Machine)
    → IsFaithful (layout_of (length request.image)) request.image flash.words → IsKept (second_start request flash) → request.options.steps ≤ 10 ^ 9
    → Appends before.told first.told line → before.faults ≤ first.faults
    → HasAdvanced (second_start request flash) m request.options.steps first.told mid.told result → result ≡ Ok end → HasCause first.faults mid.faults result
    → Says (status_of_stop end) (last_text end m) mid now told
    → RunsOver request flash line before now told m
over_answered request flash line before first mid now told result end m faithful kept bound put later advanced is cause said =
    let Run : Result MachineEnd Failed → Type 0 = λ r. HasWholeOver request.image flash request.script request.options.quantum request.options.swap request.options.steps first.told mid.told r m in
    let run : Run (Ok end) =
    subst Run is (run_over request.image flash request.script request.options.quantum request.options.swap request.options.steps first.told mid.told result m faithful kept
    (omega arith) advanced) in
    RunsOver.Ended (ended_to request (second_start request flash) [] line before first mid now told end m refl refl put later run
    (unlisted_end request flash end first.told mid.told m run) cause.later said)

pub over_cut : (request : Request) (flash : Memory) (line : List ℕ) (before first now : Stream) (result : Result MachineEnd Failed) (failed : Failed) (m : Machine)
    → IsFaithful (layout_of (length request.image)) request.image flash.words → IsKept (second_start request flash) → request.options.steps ≤ 10 ^ 9
    → Appends before.told first.told line → before.faults ≤ first.faults
    → HasAdvanced (second_start request flash) m request.options.steps first.told now.told result → result ≡ Err failed → HasCause first.faults now.faults result
    → BeginInTurn request m first.told now.told
    → RunsOver request flash line before now status.WriteFault m
over_cut request flash line before first now result failed m faithful kept bound put later advanced is cause turns =
    let run = run_over request.image flash request.script request.options.quantum request.options.swap request.options.steps first.told now.told result m faithful kept (omega arith) advanced in
    RunsOver.Cut (until_cut request (second_start request flash) [] line before first now failed m refl refl put later
    (subst (λ r. HasWholeOver request.image flash request.script request.options.quantum request.options.swap request.options.steps first.told now.told r m) is run)
    (err_rose result failed first.faults now.faults is cause.failed) turns)

pub held_silent : (request : Request) (ended : Status) (m : Machine) → Runs request silent silent ended m → image_held m.kernel ≡ request.image
held_silent request ended m runs = ap (λ (p : Program). p.image) (program_silent request ended m runs)
