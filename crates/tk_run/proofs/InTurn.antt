-- What goes out in turn.
use Rattle.std.proofs.Common.{◌≡◌, ℕ, ◌+◌, ◌-◌, ◌*◌, ◌%◌, ◌<◌, ◌≤◌, List, [], ◌++◌, sym, ap, ◌∙◌, arith, append-nil, inl, inr}
use Rattle.std.specs.Prelude.{Option, Some}
use Rattle.std.proofs.lemmas.Bool.{cases_lt}
use Rattle.std.specs.Io.KnownBytes.{Appends}
use Rattle.byte_streams.specs.Streams.{IsSent}
use Rattle.byte_streams.proofs.KnownBytes.{appends-both, appends-nothing}
use Rattle.flat_machine.specs.FlatMachine.{Program, Run}
use Rattle.mote_devices.specs.declared.line.Line.{Line}
use Rattle.kernel_entry.specs.declared.kernel.End.{End}
use Rattle.kernel_entry.specs.Seen.{program as program_of}
use Rattle.printed_text.specs.Gathering.{turn_steps}
use Rattle.printed_text.proofs.Gathered.{all_on}
use Rattle.printed_text.specs.DeviceLines.{lines_text}
use Rattle.program_steps.specs.Machines.{Machine, flat_of}
use Rattle.program_steps.specs.Several.{HasDone}
use Rattle.program_steps.specs.Stepping.{HasStepped, StepWay, HasBound}
use Rattle.tk_run.specs.InTurn.{HadAll, GoOutInTurn}
use Rattle.tk_run.specs.Running.{original_from}
use Rattle.tk_run.proofs.Advancing.{IsIn}
use Rattle.tk_run.proofs.Gathered.{IsUnderWay, last_in}
use Rattle.tk_run.proofs.RunSoFar.{Ran, none_ran, nothing}
use Rattle.tk_run.proofs.WholeRun.{IsStart}

-- the lines so far are those of the original program
pub lines_so_far : (old now : Machine) (i : ℕ) (before after : Option (List ℕ)) → (ran : Ran old now i before after) → (original_from old i).lines ≡ ran.lines
lines_so_far old now i before after ran =
    ap (λ n. (original_from old n).lines) (sym (nothing i)) ∙ ap (λ (r : Run). r.lines) (ran.run 0) ∙ ap (λ l. ran.lines ++ l) (none_ran (program_of old.kernel) (flat_of now)).0 ∙ append-nil ran.lines

-- between two steps, with nothing gathered
went_out : {K : Type 0} (taken : K → Option (List ℕ)) (old now : Machine) (before after : K) (done : ℕ) (gathered : List ℕ) → IsUnderWay old now done gathered (taken before) (taken after)
    → gathered ≡ [] → HadAll taken old before after done
went_out taken old now before after done gathered way empty =
    let ran = way.between.ran in
    let text : way.text ≡ lines_text (original_from old done).lines = ran.put ∙ ap lines_text (sym (lines_so_far old now done (Some []) (Some way.text) ran)) in
    record {
      sink = after;
      put = rw text at (all_on way.text gathered (taken before) (taken after) (taken after) way.sent (rw empty (appends-nothing (taken after))));
      later = ([], appends-nothing (taken after));
    }

-- what the sink took then is behind what it had taken before
pub turns_later : {K : Type 0} (taken : K → Option (List ℕ)) (old : Machine) (before mid after : K) (steps : ℕ) → GoOutInTurn taken old before mid steps
    → (bytes : List ℕ) × Appends (taken mid) (taken after) bytes → GoOutInTurn taken old before after steps
turns_later taken old before mid after steps turns more turn below =
    let had = turns turn below in
    record { sink = had.sink; put = had.put; later = (had.later.0 ++ more.0, appends-both (taken had.sink) (taken mid) (taken after) had.later.0 more.0 had.later.1 more.1) }

-- up to the next turn
pub turns_on : {K : Type 0} (taken : K → Option (List ℕ)) (old now : Machine) (before mid after : K) (done : ℕ) (bytes gathered : List ℕ) → GoOutInTurn taken old before mid done
    → IsSent bytes gathered (taken mid) (taken after) → IsUnderWay old now done gathered (taken before) (taken after)
    → (done % turn_steps ≡ 0 → gathered ≡ []) → GoOutInTurn taken old before after (done + (turn_steps - done % turn_steps))
turns_on taken old now before mid after done bytes gathered turns sent way empty turn below =
    elim (cases_lt (turn_steps * turn) done) [
      | inl earlier ↦ turns_later taken old before mid after done turns (sent.sent, sent.appended) turn earlier
      | inr later ↦
          let at : done % 65536 ≡ 0 = omega (arith, below, later) in
          let is : done ≡ turn_steps * turn = omega (arith, below, later) in
          rw is at (went_out taken old now before after done gathered way (empty at))
    ]

-- by the count of steps
pub turns_left : {K : Type 0} (taken : K → Option (List ℕ)) (old : Machine) (before mid after : K) (most steps : ℕ) → GoOutInTurn taken old before mid most
    → (bytes : List ℕ) × Appends (taken mid) (taken after) bytes → steps ≤ old.steps + most
    → GoOutInTurn taken old before after (steps - old.steps)
turns_left taken old before mid after most steps turns more few turn below = turns_later taken old before mid after most turns more turn (omega (arith, below, few))

-- so of a machine that had done nothing yet, what went out begins with the lines up to each turn
pub begins_in_turn : {K : Type 0} (taken : K → Option (List ℕ)) (start : Machine) (own : Program) (run : ℕ → Run) (failing : List ℕ) (m : Machine) (before after : K) → IsStart start own run failing
    → GoOutInTurn taken start before after (m.steps - start.steps)
    → (turn : ℕ) → turn_steps * turn < m.steps → (rest : List ℕ) × Appends (taken before) (taken after) (lines_text (run (turn_steps * turn)).lines ++ rest)
begins_in_turn taken start own run failing m before after is turns turn below =
    let had = turns turn (omega (arith, below, is.steps)) in
    let put = rw (is.run_is (turn_steps * turn)) at had.put in
    (had.later.0, appends-both (taken before) (taken had.sink) (taken after) (lines_text (run (turn_steps * turn)).lines) had.later.0 put had.later.1)

step_counts : {old new : Machine} {line : Option Line} → StepWay old new line → new.steps ≤ old.steps + 1
step_counts (StepWay.On ready quiet steps is) = omega (arith, steps)
step_counts (StepWay.Stopped stop over kept none steps is left) = omega (arith, steps)

pub stepped_counts : {old new : Machine} {line : Option Line} → HasStepped old new line → new.steps ≤ old.steps + 1
stepped_counts step = step_counts step.way

pub done_counts : {old now new : Machine} {i count : ℕ} {line : Option Line} {before after : Option (List ℕ)} → IsIn old now i before after → HasDone now new count line
    → new.steps ≤ old.steps + (i + count)
done_counts {old} {now} {new} {i} {count} {line} now' done =
    let last = last_in new count line now' done in
    omega (arith, last.ran.steps, stepped_counts done.step, done.counted)

pub bound_counts : (old new : Machine) (end : End) → HasBound old new end → new.steps ≡ old.steps
bound_counts old new end (HasBound.Waits same own) = ap (λ (m : Machine). m.steps) same
bound_counts old new end (HasBound.Leaves entered own) = entered.steps
