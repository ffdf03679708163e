-- A run whose last lines are gathered before they go out.
use Rattle.std.proofs.Common.{true, ◌≡◌, ℕ, zero, suc, ◌+◌, ◌<◌, ◌≤◌, List, [], ◌++◌, refl, arith, subst}
use Rattle.std.specs.Prelude.{Option, Some, None}
use Rattle.std.proofs.lemmas.List.{append-nil}
use Rattle.byte_streams.specs.Streams.{CutShort, IsSent}
use Rattle.byte_streams.proofs.KnownBytes.{nothing_sent, appends-nothing}
use Rattle.printed_text.proofs.Gathered.{sent_on, cut_on}
use Rattle.mote_devices.specs.declared.line.Line.{Line}
use Rattle.step_laws.specs.Moves.{line_before}
use Rattle.program_steps.specs.Machines.{Machine}
use Rattle.program_steps.specs.Ready.{IsGoing, IsQuiet}
use Rattle.printed_text.specs.DeviceLines.{lines_text}
use Rattle.program_steps.specs.Stepping.{HasStepped}
use Rattle.program_steps.specs.Several.{Silently, HasDone}
use Rattle.program_steps.specs.Interrupts.{is_taken_now}
use Rattle.program_steps.proofs.TakingLaws.{taken_inside}
use Rattle.tk_run.proofs.RunSoFar.{IsBetween, between_start, begun_between}
use Rattle.tk_run.proofs.Advancing.{IsIn, is_in, between_on}

-- between two steps, with some of the text gathered
pub record IsUnderWay (old now : Machine) (i : ℕ) (gathered : List ℕ) (before after : Option (List ℕ)) : Type 0 where
  pub text : List ℕ
  pub between : IsBetween old now i (Some []) (Some text)
  pub sent : IsSent text gathered before after

pub under_way : {m : Machine} (gathered : List ℕ) (known : Option (List ℕ)) → IsGoing m → IsQuiet m → gathered ≡ [] → IsUnderWay m m 0 gathered known known
under_way {m} gathered known ready quiet empty = record {
  text = [];
  between = between_start m (Some []) ready quiet;
  sent = rw empty (nothing_sent [] known);
}

-- behind what went out in turn
pub turn_on : {old now : Machine} {i : ℕ} {gathered : List ℕ} (left : List ℕ) {before after : Option (List ℕ)} (later : Option (List ℕ)) → IsUnderWay old now i gathered before after
    → IsSent (gathered ++ []) left after later → IsUnderWay old now i left before later
turn_on {old} {now} {i} {gathered} left {before} {after} later way sent = record {
  text = way.text;
  between = way.between;
  sent = rw (append-nil way.text) at (sent_on way.text gathered [] left before after later way.sent sent);
}

pub turn_cut : (old now : Machine) (i : ℕ) (gathered : List ℕ) {before after : Option (List ℕ)} (later : Option (List ℕ)) → (way : IsUnderWay old now i gathered before after)
    → CutShort after later (gathered ++ []) → CutShort before later way.text
turn_cut old now i gathered {before} {after} later way cut = rw (append-nil way.text) at (cut_on way.text gathered [] before after later way.sent cut)

-- behind a step
pub step_on : {old now new : Machine} {i : ℕ} {line : Option Line} {text gathered : List ℕ} (left : List ℕ) {before after : Option (List ℕ)} (later : Option (List ℕ))
    → IsIn old now i (Some []) (Some text) → HasStepped now new line → new.end ≡ None → IsSent text gathered before after
    → IsSent (gathered ++ lines_text (line_before line [])) left after later → IsUnderWay old new (i + 1) left before later
step_on {old} {now} {new} {i} {line} {text} {gathered} left {before} {after} later now' step going first second = record {
  text = text ++ lines_text (line_before line []);
  between = between_on old now new i line (Some []) (Some text) (Some (text ++ lines_text (line_before line []))) now' step refl going;
  sent = sent_on text gathered (lines_text (line_before line [])) left before after later first second;
}

-- behind an interrupt that is taken, which writes no line
pub take_in : (old now : Machine) (i : ℕ) (before after : Option (List ℕ)) → IsBetween old now i before after → is_taken_now now ≡ true → IsIn old now i before after
take_in old now i before after between wanted = record { ran = between.ran; begun = begun_between before after between; inside = taken_inside now between.ready wanted }

pub take_on : {old now new : Machine} {i : ℕ} {gathered : List ℕ} {before after : Option (List ℕ)} → IsUnderWay old now i gathered before after → is_taken_now now ≡ true → HasStepped now new None
    → new.end ≡ None → IsUnderWay old new (i + 1) gathered before after
take_on {old} {now} {new} {i} {gathered} {before} {after} way wanted step going =
    step_on gathered after (take_in old now i (Some []) (Some way.text) way.between wanted) step going way.sent (rw (append-nil gathered) (nothing_sent gathered after))

-- Several steps, one behind the other. ---------------------------------------------------------------------

-- behind them, with the last still to come, the run is in the middle of a turn
silently_in : (n : ℕ) {old now last : Machine} {i : ℕ} {before after : Option (List ℕ)} → Silently n now last → IsIn old now i before after → IsIn old last (i + n) before after
silently_in zero {old} {now} {last} {i} {before} {after} same now' =
    let none : i ≡ i + 0 = omega arith in
    subst (λ k. IsIn old last k before after) none (subst (λ m. IsIn old m i before after) same now')
silently_in (suc n) {old} {now} {last} {i} {before} {after} (y, w, earlier, step, followed) now' =
    let more : i + n + 1 ≡ i + suc n = omega arith in
    let between = between_on old y w (i + n) None before after after (silently_in n earlier now') step (appends-nothing after) followed.ready.going in
    subst (λ k. IsIn old last k before after) more (is_in old w last (i + n + 1) before after None between followed.entered refl)

pub last_in : {old now : Machine} (new : Machine) {i : ℕ} (count : ℕ) (line : Option Line) {before after : Option (List ℕ)} → IsIn old now i before after → (done : HasDone now new count line)
    → IsIn old done.last (i + done.earlier) before after
last_in new count line now' done = silently_in done.earlier done.silently now'

pub last_below : (old new : Machine) (i count n : ℕ) (line : Option Line) → (done : HasDone old new count line) → i + count ≤ n → i + done.earlier < n
last_below old new i count n line done within = omega (arith, done.counted, within)

-- behind them, where the program goes on
pub steps_on : {old now new : Machine} {i count : ℕ} {line : Option Line} {text gathered : List ℕ} (left : List ℕ) {before after : Option (List ℕ)} (later : Option (List ℕ))
    → IsIn old now i (Some []) (Some text) → HasDone now new count line → new.end ≡ None
    → IsSent text gathered before after → IsSent (gathered ++ lines_text (line_before line [])) left after later → IsUnderWay old new (i + count) left before later
steps_on {old} {now} {new} {i} {count} {line} left {before} {after} later now' done going first second =
    let all : i + done.earlier + 1 ≡ i + count = omega (arith, done.counted) in
    subst (λ k. IsUnderWay old new k left before later) all (step_on left later (last_in new count line now' done) done.step going first second)
