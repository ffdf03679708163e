-- What was said behind a run, as the text of a view.
use Rattle.std.proofs.Common.{◌≡◌, ℕ, ◌/◌, ◌≤◌, List, [], ◌++◌, refl, sym, ap, ap₂, ◌∙◌, subst, arith, append_assoc}
use Rattle.std.specs.Prelude.{◌≢◌, Option, Some, Result, Ok, Err}
use Rattle.byte_streams.specs.declared.failure.Failed.{Failed}
use Rattle.byte_streams.specs.Streams.{IsSent, Puts}
use Rattle.printed_text.specs.Ends.{end_text, stop_text}
use Rattle.printed_text.specs.StopLines.{end_line, how_text}
use Rattle.printed_text.proofs.Gathered.{all_on, rest_cut}
use Rattle.printed_text.proofs.StopLines.{line_of}
use Rattle.flat_machine.specs.FlatMachine.{Moment, End as FlatEnd, Spent}
use Rattle.mote_devices.specs.declared.line.Line.{Line}
use Rattle.kernel_entry.specs.declared.kernel.End.{End}
use Rattle.kernel_entry.specs.declared.kernel.End.TheVariants as ends
use Rattle.program_steps.specs.Machines.{Machine, flat_of}
use Rattle.tk_run.specs.Running.{Answers, flat_end}
use Rattle.cli_words.specs.declared.request.Request.{Request}
use Rattle.cli_words.specs.declared.status.Status.{Status}
use Rattle.cli_words.specs.declared.status.Status.TheVariants as status
use Rattle.cli_words.specs.Stream.{Stream}
use Rattle.tkernel_cli.specs.DumpRuns.{silent}
use Rattle.tkernel_cli.specs.Runs.{Says, Runs, AreUnlisted, RunsToTheEnd, RunsIntoAFault, KeepsEnd, first_start, original_of, whole_run, checkpoints_of, status_of_end, status_of_stop}
use Rattle.tkernel_cli.proofs.Putting.{said_on}
use Rattle.tk_watch.specs.declared.view.View.{View}
use Rattle.tk_watch.specs.Views.{Shows, shown, ended_text, failed_text}
use Rattle.tk_watch.specs.Watching.{kept_end, stop_of}

-- An end of the machine is told as this one of the original program.
record IsStop (e : FlatEnd) (end : End) : Type 0 where
  pub how : how_text end ≡ end_text e
  pub status_is : status_of_stop end ≡ status_of_end e

is_stop : (end : End) (e : FlatEnd) → flat_end end ≡ e → e ≢ Spent → IsStop e end
is_stop ends.Spent e same other = absurd (other (sym same))
is_stop (ends.Flash op) e same other = absurd (other (sym same))
is_stop (ends.Stopped stop) e same other = record { how = ap end_text same; status_is = ap status_of_end same }
is_stop (ends.Wild t) e same other = record { how = ap end_text same; status_is = ap status_of_end same }

of_kept : (e : FlatEnd) (m : Machine) → (kept : End) × (m.end ≡ Some kept) × (flat_end kept ≡ e) → e ≢ Spent → IsStop e (kept_end m.end)
of_kept e m kept other = rw kept.1 (is_stop kept.0 e kept.2 other)

kept_stop : (e : FlatEnd) (m : Machine) → KeepsEnd e m → IsStop e (kept_end m.end)
kept_stop Spent m kept = rw kept (record { how = refl; status_is = refl })
kept_stop e m kept = of_kept e m kept (λ spent. absurd (cc))

-- the stop line, by the original's counts
stop_as : (end : End) (m : Machine) (steps crossings quantum : ℕ) → m.steps ≡ steps → m.crossings ≡ crossings → m.kernel.quantum ≡ quantum → stop_of end m ≡ end_line end steps (crossings / quantum)
stop_as end m steps crossings quantum s c q =
    ap (λ n. end_line end n (m.crossings / m.kernel.quantum)) s ∙ ap₂ (λ x y. end_line end steps (x / y)) c q

-- what a view tells of the machine was said, with the stop line of this end
abbrev pub SaysShown : View → Request → Machine → End → (before now : Stream) → Status → Type 0
SaysShown view request m end before now told = Says (status_of_stop end) (shown view request m.kernel.mote.flash.ops (flat_of m) ++ stop_of end m) before now told

module _ (view : View) (request : Request) (m : Machine) (own told : Status) (before now : Stream) where
  shows_ended : AreUnlisted request m → RunsToTheEnd request (first_start request) [] silent silent own m → SaysShown view request m (kept_end m.end) before now told
      → Shows view request before now told
  shows_ended unlisted run said =
      let r = whole_run request in
      let end = kept_end m.end in
      let is = kept_stop r.end m run.end in
      let state = run.follows.at.state in
      let steps : m.steps ≡ r.state.now.steps = ap (λ (s : Moment). s.now.steps) state in
      let crossings : m.crossings ≡ r.state.now.crossings = ap (λ (s : Moment). s.now.crossings) state in
      let stop : stop_of end m ≡ stop_text r.end r.state.now.steps (checkpoints_of request r) =
      stop_as end m r.state.now.steps r.state.now.crossings request.options.quantum steps crossings run.follows.at.quantum ∙ line_of end r.end r.state.now.steps (checkpoints_of request r) is.how in
      let text : shown view request m.kernel.mote.flash.ops (flat_of m) ++ stop_of end m ≡ ended_text view request m.kernel.mote.flash.ops =
      ap₂ (λ a b. a ++ b) (ap (shown view request m.kernel.mote.flash.ops) state) stop in
      Shows.Ended m own unlisted run (subst (λ s. Says s (ended_text view request m.kernel.mote.flash.ops) before now told) is.status_is
      (subst (λ t. Says (status_of_stop end) t before now told) text said))

  shows_failed : (run : RunsIntoAFault request silent silent own m) → SaysShown view request m (kept_end m.end) before now told → Shows view request before now told
  shows_failed run said =
      let r = original_of request m.steps in
      let end = ends.Flash run.op in
      let state = run.follows.at.state in
      let crossings : m.crossings ≡ r.state.now.crossings = ap (λ (s : Moment). s.now.crossings) state in
      let stop : stop_of end m ≡ end_line end m.steps (checkpoints_of request r) = stop_as end m m.steps r.state.now.crossings request.options.quantum refl crossings run.follows.at.quantum in
      let text : shown view request m.kernel.mote.flash.ops (flat_of m) ++ stop_of end m ≡ failed_text view request run.op m.steps =
      ap₂ (λ a b. a ++ b) (ap₂ (shown view request) (sym run.last) state) stop in
      let kept = subst (λ e. SaysShown view request m e before now told) (ap kept_end run.end) said in
      Shows.Failed m own run (subst (λ t. Says status.FlashFault t before now told) text kept)

  -- of a run whose own lines went nowhere
  pub shows_by : Runs request silent silent own m → SaysShown view request m (kept_end m.end) before now told → Shows view request before now told
  shows_by (Runs.Ended unlisted run) said = shows_ended unlisted run said
  shows_by (Runs.Failed run) said = shows_failed run said
  shows_by (Runs.Cut cut) said = absurd (omega (arith, cut.rose))

-- the end that is answered is the one that the machine keeps
pub answers_kept : (old new : Machine) (n done : ℕ) (lines : List Line) (end : End) → Answers old new n done lines (Ok end) → kept_end new.end ≡ end
answers_kept old new n done lines ends.Spent is = ap kept_end is.ready.going
answers_kept old new n done lines (ends.Flash op) is = ap kept_end is.kept
answers_kept old new n done lines (ends.Wild t) is = ap kept_end is.kept
answers_kept old new n done lines (ends.Stopped stop) is = ap kept_end is.kept

-- what was gathered went out, and more behind it
pub said_behind : (own told : Status) (before mid now : Stream) (text gathered more : List ℕ) → IsSent text gathered before.told mid.told → before.faults ≤ mid.faults
    → Says own (gathered ++ more) mid now told → Says own (text ++ more) before now told
said_behind own told before mid now text gathered more sent later said =
    let parts : sent.sent ++ (gathered ++ more) ≡ text ++ more = sym (append_assoc sent.sent gathered more) ∙ ap (λ z. z ++ more) (sym sent.parts) in
    subst (λ t. Says own t before now told) parts (said_on own told before mid now sent.sent (gathered ++ more) sent.appended later said)

-- what was gathered went out, and no more
pub puts_behind : (result : Result (Unit {0}) Failed) (text gathered : List ℕ) (before mid now : Option (List ℕ)) → IsSent text gathered before mid → Puts mid now result gathered
    → Puts before now result text
puts_behind (Ok done) text gathered before mid now first rest = all_on text gathered before mid now first rest
puts_behind (Err e) text gathered before mid now first rest = rest_cut text gathered before mid now first rest
