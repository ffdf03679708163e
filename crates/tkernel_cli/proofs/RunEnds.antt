-- A whole run, with its last two lines, as the answer tells it.
use Rattle.std.proofs.Common.{◌≡◌, ℕ, ◌*◌, ◌/◌, ◌<◌, ◌≤◌, List, [], ◌++◌, append_assoc, refl, sym, ap, ap₂, ◌∙◌, subst, arith, inl}
use Rattle.std.specs.Prelude.{◌≢◌, Option, None, Result, Ok, Err, OnErr, ◌^◌}
use Rattle.std.specs.Io.KnownBytes.{Appends}
use Rattle.byte_streams.specs.declared.failure.Failed.{Failed}
use Rattle.byte_streams.specs.Faults.{Rose, HasCause}
use Rattle.byte_streams.proofs.KnownBytes.{appends-nothing, appends-both, cut_behind}
use Rattle.hex_image.specs.Image.{IsImage}
use Rattle.flat_machine.specs.FlatMachine.{End, Spent, Run}
use Rattle.printed_text.specs.Ends.{stop_text, end_text}
use Rattle.printed_text.specs.StopLines.{end_line, how_text}
use Rattle.printed_text.proofs.StopLines.{line_of}
use Rattle.kernel_entry.specs.declared.kernel.End.{End as MachineEnd}
use Rattle.kernel_entry.specs.declared.kernel.End.TheVariants as ends
use Rattle.program_steps.specs.Machines.{Machine}
use Rattle.program_steps.specs.Ready.{IsKept, IsSound}
use Rattle.printed_text.specs.DeviceLines.{lines_text}
use Rattle.tk_run.specs.Running.{HasAdvanced, flat_end}
use Rattle.tk_run.specs.Booted.{booted}
use Rattle.tk_run.specs.WholeRuns.{IsAt, IsExactRun, IsFailedRun, HasWholeFrom, HasWhole, IsKeptEnd}
use Rattle.tk_run.proofs.WholeRun.{whole_run as whole_of}
use Rattle.cli_words.specs.declared.request.Request.{Request}
use Rattle.cli_words.specs.declared.status.Status.{Status}
use Rattle.cli_words.specs.declared.status.Status.TheVariants as status
use Rattle.tkernel_cli.specs.DumpRuns.{silent}
use Rattle.cli_words.specs.Stream.{Stream}
use Rattle.tkernel_cli.specs.Runs.{Says, Begins, Runs, RunsToTheEnd, RunsUntilCut, Follows, KeepsEnd, own_program, original_of, first_start, whole_run, checkpoints_of, count_line_of, last_text}
use Rattle.tkernel_cli.specs.Runs.{run_text, status_of_end, status_of_stop}
use Rattle.tkernel_cli.proofs.Putting.{rose_on, said_on, begun_on, begun_cut, begun_behind}

-- the last two lines, by the original's counts
last_lines : (end : MachineEnd) (m : Machine) (steps crossings quantum : ℕ) → m.steps ≡ steps → m.crossings ≡ crossings → m.kernel.quantum ≡ quantum
    → last_text end m ≡ end_line end steps (crossings / quantum) ++ count_line_of m
last_lines end m steps crossings quantum s c q =
    ap (λ n. end_line end n (m.crossings / m.kernel.quantum) ++ count_line_of m) s
    ∙ ap₂ (λ x y. end_line end steps (x / y) ++ count_line_of m) c q

-- what is said, as the text of the run
pub said_run : (request : Request) (end : MachineEnd) (r : Run) (own told : Status) (before mid now : Stream) (m : Machine) → m.steps ≡ r.state.now.steps → m.crossings ≡ r.state.now.crossings
    → m.kernel.quantum ≡ request.options.quantum
    → Appends before.told mid.told (lines_text r.lines) → before.faults ≤ mid.faults
    → Says own (last_text end m) mid now told
    → Says own (run_text r (end_line end r.state.now.steps (checkpoints_of request r)) m) before now told
said_run request end r own told before mid now m steps crossings quantum put later said =
    let whole = said_on own told before mid now (lines_text r.lines) _ put later said in
    let text : lines_text r.lines ++ (last_text end m) ≡ run_text r (end_line end r.state.now.steps (checkpoints_of request r)) m =
    ap (λ last. lines_text r.lines ++ last) (last_lines end m r.state.now.steps r.state.now.crossings request.options.quantum steps crossings quantum)
    ∙ sym (append_assoc (lines_text r.lines) (end_line end r.state.now.steps (checkpoints_of request r)) (count_line_of m)) in
    subst (λ t. Says own t before now told) text whole

pub keeps_end : (e : End) (end : MachineEnd) (m : Machine) → flat_end end ≡ e → IsKeptEnd e end m.end → KeepsEnd e m
keeps_end Spent end m same kept = kept
keeps_end _ end m same kept = (end, kept, same)

-- a machine that runs alone has no more pages than one for each step, and one, beside those that it began with
follows_by : (request : Request) (start : Machine) (n : ℕ) (m : Machine) → start.began ≡ start.pages → start.others ≡ 0 → IsSound m → IsAt start (own_program request) (original_of request) n m
    → Follows request start n m
follows_by request start n m first alone sound at =
    let most = sound.bounded.pages in
    record { at = at; sound = sound; longest = sound.bounded.moves.most; pages = omega (arith, most, first, alone, at.began, at.others) }

-- a run to the original's end
ended : (request : Request) (start : Machine) (failing front : List ℕ) (before first mid now : Stream) (told : Status) (end : MachineEnd) (m : Machine)
    → status_of_stop end ≡ status_of_end (flat_end end) → how_text end ≡ end_text (flat_end end) → start.began ≡ start.pages → start.others ≡ 0
    → Appends before.told first.told front → before.faults ≤ first.faults
    → IsExactRun start (own_program request) (original_of request) failing request.options.steps first.told mid.told end m → first.faults ≤ mid.faults
    → Says (status_of_stop end) (last_text end m) mid now told
    → RunsToTheEnd request start front before now told m
ended request start failing front before first mid now told end m status how began alone put earlier run later said =
    let r = whole_run request in
    let steps : m.steps ≡ r.state.now.steps = ap (λ s. s.now.steps) run.at.state in
    let crossings : m.crossings ≡ r.state.now.crossings = ap (λ s. s.now.crossings) run.at.state in
    let whole = said_run request end r (status_of_stop end) told first mid now m steps crossings run.at.quantum run.put later said in
    let stop : end_line end r.state.now.steps (checkpoints_of request r) ≡ stop_text r.end r.state.now.steps (checkpoints_of request r) =
    line_of end (flat_end end) r.state.now.steps (checkpoints_of request r) how ∙ ap (λ e. stop_text e r.state.now.steps (checkpoints_of request r)) run.same in
    let own : status_of_stop end ≡ status_of_end r.end = status ∙ ap status_of_end run.same in
    let behind = subst (λ s. Says s (run_text r (stop_text r.end r.state.now.steps (checkpoints_of request r)) m) first now told) own
    (subst (λ l. Says (status_of_stop end) (run_text r l m) first now told) stop whole) in
    record {
      said = said_on (status_of_end r.end) told before first now front _ put earlier behind;
      begun = begun_on (status_of_stop end) told before.told mid now (front ++ lines_text r.lines) _ (appends-both before.told first.told mid.told front (lines_text r.lines) put run.put) said;
      within = run.within;
      all = run.all;
      end = subst (λ e. KeepsEnd e m) run.same (keeps_end (flat_end end) end m refl run.kept);
      unrefused = run.unrefused;
      follows = follows_by request start request.options.steps m began alone run.ready.sound run.at;
      unbroken = run.unbroken;
      ready = run.ready;
    }

-- a run that flash ended
failed : (request : Request) (before mid now : Stream) (told : Status) (op : ℕ) (m : Machine)
    → IsFailedRun (first_start request) (own_program request) (original_of request) request.script.failing request.options.steps before.told mid.told op m → before.faults ≤ mid.faults
    → Says status.FlashFault (last_text (ends.Flash op) m) mid now told
    → Runs request before now told m
failed request before mid now told op m run later said =
    let r = original_of request m.steps in
    let steps : m.steps ≡ r.state.now.steps = ap (λ s. s.now.steps) run.at.state in
    let crossings : m.crossings ≡ r.state.now.crossings = ap (λ s. s.now.crossings) run.at.state in
    let whole = said_run request (ends.Flash op) r status.FlashFault told before mid now m steps crossings run.at.quantum run.put later said in
    Runs.Failed (record {
      op = op;
      said = subst (λ n. Says status.FlashFault (run_text r (end_line (ends.Flash op) n (checkpoints_of request r)) m) before now told) (sym steps) whole;
      begun = begun_on status.FlashFault told before.told mid now (lines_text r.lines) _ run.put said;
      fewer = run.fewer;
      spent = run.same;
      end = run.kept;
      last = run.last;
      listed = run.listed;
      first = run.first;
      refused = run.refused;
      follows = follows_by request (first_start request) m.steps m refl refl run.ready.sound run.at;
      unbroken = run.unbroken;
      ready = run.ready;
    })

-- one that flash has not ended, whose last two lines were said, or not
pub ended_to : (request : Request) (start : Machine) (failing front : List ℕ) (before first mid now : Stream) (told : Status) (end : MachineEnd) (m : Machine) → start.began ≡ start.pages
    → start.others ≡ 0 → Appends before.told first.told front → before.faults ≤ first.faults
    → HasWholeFrom start (own_program request) (original_of request) failing request.options.steps first.told mid.told (Ok end) m → ((op : ℕ) → end ≢ ends.Flash op) → first.faults ≤ mid.faults
    → Says (status_of_stop end) (last_text end m) mid now told
    → RunsToTheEnd request start front before now told m
ended_to request start failing front before first mid now told ends.Spent m began alone put earlier run unfailed later said =
    ended request start failing front before first mid now told ends.Spent m refl refl began alone put earlier run later said
ended_to request start failing front before first mid now told (ends.Stopped stop) m began alone put earlier run unfailed later said =
    ended request start failing front before first mid now told (ends.Stopped stop) m refl refl began alone put earlier run later said
ended_to request start failing front before first mid now told (ends.Wild t) m began alone put earlier run unfailed later said =
    ended request start failing front before first mid now told (ends.Wild t) m refl refl began alone put earlier run later said
ended_to request start failing front before first mid now told (ends.Flash op) m began alone put earlier run unfailed later said = absurd (unfailed op refl)

-- at each turn that the machine went past all lines up to there went out
abbrev pub BeginInTurn : Request → Machine → (before now : Option (List ℕ)) → Type 0
BeginInTurn request m before now = (turn : ℕ) → 65536 * turn < m.steps → Begins before now (lines_text (original_of request (65536 * turn)).lines)

-- a run whose line could not be put
pub until_cut : (request : Request) (start : Machine) (failing front : List ℕ) (before first now : Stream) (failed : Failed) (m : Machine) → start.began ≡ start.pages → start.others ≡ 0
    → Appends before.told first.told front → before.faults ≤ first.faults
    → HasWholeFrom start (own_program request) (original_of request) failing request.options.steps first.told now.told (Err failed) m → Rose first.faults now.faults
    → BeginInTurn request m first.told now.told
    → RunsUntilCut request start front before now status.WriteFault m
until_cut request start failing front before first now failed m began alone put later run rose turns = record {
  status_is = refl;
  rose = rose_on before.faults first.faults now.faults later rose;
  put = cut_behind before.told first.told now.told front _ put run.put;
  begun = begun_cut before.told first.told now.told front _ put run.put;
  turns = λ turn below. begun_behind before.told first.told now.told front _ put (turns turn below);
  broken = run.broken;
  over = run.over;
  within = run.within;
  follows = follows_by request start m.steps m began alone run.sound run.at;
}

-- the run from boot
ran_to : (request : Request) (before mid now : Stream) (told : Status) (end : MachineEnd) (m : Machine)
    → HasWhole request.image request.script request.options.quantum request.options.swap request.options.steps before.told mid.told (Ok end) m → before.faults ≤ mid.faults
    → Says (status_of_stop end) (last_text end m) mid now told
    → Runs request before now told m
ran_to request before mid now told ends.Spent m run later said =
    Runs.Ended run.unlisted (ended_to request (first_start request) request.script.failing [] before before mid now told ends.Spent m refl refl (appends-nothing before.told) (omega arith) run
    (λ op e. absurd (cc)) later said)
ran_to request before mid now told (ends.Stopped stop) m run later said =
    Runs.Ended run.unlisted (ended_to request (first_start request) request.script.failing [] before before mid now told (ends.Stopped stop) m refl refl (appends-nothing before.told)
    (omega arith) run (λ op e. absurd (cc)) later said)
ran_to request before mid now told (ends.Wild t) m run later said =
    Runs.Ended run.unlisted (ended_to request (first_start request) request.script.failing [] before before mid now told (ends.Wild t) m refl refl (appends-nothing before.told) (omega arith) run
    (λ op e. absurd (cc)) later said)
ran_to request before mid now told (ends.Flash op) m run later said = failed request before mid now told op m run later said

-- the last two lines were said, or the sink failed
pub answered : (request : Request) (before mid now : Stream) (told : Status) (result : Result MachineEnd Failed) (end : MachineEnd) (m : Machine) → IsImage request.image
    → IsKept (booted request.image request.script request.options.quantum request.options.swap) → request.options.steps ≤ 10 ^ 9
    → HasAdvanced (booted request.image request.script request.options.quantum request.options.swap) m request.options.steps before.told mid.told result → result ≡ Ok end
    → HasCause before.faults mid.faults result
    → Says (status_of_stop end) (last_text end m) mid now told
    → Runs request before now told m
answered request before mid now told result end m image kept bound advanced is cause said =
    let run = whole_of request.image request.script request.options.quantum request.options.swap request.options.steps before.told mid.told result m image kept (omega arith) advanced in
    let whole = subst (λ r. HasWhole request.image request.script request.options.quantum request.options.swap request.options.steps before.told mid.told r m) is run in
    ran_to request before mid now told end m whole cause.later said

pub err_rose : (result : Result MachineEnd Failed) (failed : Failed) (before now : ℕ) → result ≡ Err failed → OnErr result (Rose before now) → Rose before now
err_rose (Ok end) failed before now is rose = absurd (cc)
err_rose (Err e) failed before now is rose = rose

pub answered_cut : (request : Request) (before now : Stream) (result : Result MachineEnd Failed) (failed : Failed) (m : Machine) → IsImage request.image
    → IsKept (booted request.image request.script request.options.quantum request.options.swap) → request.options.steps ≤ 10 ^ 9
    → HasAdvanced (booted request.image request.script request.options.quantum request.options.swap) m request.options.steps before.told now.told result → result ≡ Err failed
    → HasCause before.faults now.faults result → BeginInTurn request m before.told now.told
    → Runs request before now status.WriteFault m
answered_cut request before now result failed m image kept bound advanced is cause turns =
    let run = whole_of request.image request.script request.options.quantum request.options.swap request.options.steps before.told now.told result m image kept (omega arith) advanced in
    Runs.Cut (until_cut request (first_start request) request.script.failing [] before before now failed m refl refl (appends-nothing before.told) (omega arith)
    (subst (λ r. HasWhole request.image request.script request.options.quantum request.options.swap request.options.steps before.told now.told r m) is run)
    (err_rose result failed before.faults now.faults is cause.failed) turns)

-- a run into a sink that takes everything and tells nothing
pub ran_silently : (request : Request) (result : Result MachineEnd Failed) (m : Machine) → IsImage request.image
    → IsKept (booted request.image request.script request.options.quantum request.options.swap) → request.options.steps ≤ 10 ^ 9
    → HasAdvanced (booted request.image request.script request.options.quantum request.options.swap) m request.options.steps None None result → HasCause 0 0 result
    → (ended : Status) × Runs request silent silent ended m
ran_silently request (Ok end) m image kept bound advanced cause =
    (status_of_stop end, answered request silent silent silent (status_of_stop end) (Ok end) end m image kept bound advanced refl cause (inl (refl, tt)))
ran_silently request (Err failed) m image kept bound advanced cause =
    (status.WriteFault, answered_cut request silent silent (Err failed) failed m image kept bound advanced refl cause (λ turn below. ([], tt)))
