-- What was told so far, some of it gathered.
use Rattle.std.proofs.Common.{◌≡◌, ℕ, ◌+◌, ◌-◌, ◌*◌, ◌%◌, ◌<◌, ◌≤◌, true, false, List, [], ◌++◌, refl, sym, ap, ◌∙◌, subst, arith, inl, inr}
use Rattle.std.specs.Prelude.{◌&&◌, Bool, Option, Some, None}
use Rattle.std.proofs.lemmas.Bool.{cases_lt}
use Rattle.std.proofs.lemmas.List.{append-nil}
use Rattle.byte_streams.specs.Streams.{CutShort, IsSent}
use Rattle.byte_streams.proofs.KnownBytes.{appends-nothing}
use Rattle.printed_text.specs.Gathering.{turn_steps}
use Rattle.printed_text.proofs.Gathered.{all_on, sent_on, cut_on}
use Rattle.mote_devices.specs.declared.line.Line.{Line}
use Rattle.flat_machine.specs.FlatMachine.{Moment, On, Program, is_taken, next_of}
use Rattle.kernel_entry.specs.declared.kernel.End.{End}
use Rattle.kernel_entry.specs.declared.kernel.End.TheVariants as ends
use Rattle.kernel_entry.specs.Seen.{program as program_of}
use Rattle.step_laws.specs.Moves.{line_before}
use Rattle.program_steps.specs.Machines.{Machine, flat_of}
use Rattle.program_steps.specs.Ready.{IsGoing, IsQuiet}
use Rattle.kernel_entry.specs.Interrupts.{is_wanted}
use Rattle.kernel_entry.specs.declared.kernel.Kernel.{Kernel}
use Rattle.kernel_entry.specs.declared.kernel.Owed.{Owed}
use Rattle.program_steps.specs.Interrupts.{is_taken_now, is_wanted_at}
use Rattle.program_steps.specs.Stepping.{Entering, HasBound, HasEntered, StepWay}
use Rattle.tk_run.specs.Running.{original_from}
use Rattle.tk_run.proofs.Advancing.{no_end}
use Rattle.tk_run.proofs.RunSoFar.{IsBetween, between_start}
use Rattle.tk_watch.specs.declared.view.View.{View}
use Rattle.tk_watch.specs.declared.view.View.TheVariants.{Changes, Accesses}
use Rattle.tk_watch.specs.Kept.{AreHeld, AreHeldBeside, IsForeseen, IsNext, IsSpared, step_told}
use Rattle.tk_watch.specs.AccessesText.{next_by}
use Rattle.tk_watch.specs.declared.accesses.Access.{Access}
use Rattle.tk_watch.specs.StepTexts.{front_text, told_text}
use Rattle.tk_watch.specs.Turning.{HasTurned}
use Rattle.tk_watch.specs.Watching.{GoOutInTurn, HadAll, HasTold}
use Rattle.tk_watch.proofs.ToldLaws.{step_same}
use Rattle.tk_watch.proofs.Turns.{AreUntold, HasEnded, HasGone, bound, ended, gone, left, refused_end}

pub record IsToldSoFar (view : View) (old now : Machine) (i : ℕ) (gathered : List ℕ) (before after : Option (List ℕ)) : Type 0 where
  pub text : List ℕ
  pub between : IsBetween old now i (Some []) (Some text)
  pub sent : IsSent (told_text view (program_of old.kernel) (original_from old) i) gathered before after

-- in front of all steps
front_told : (view : View) (m : Machine) → IsGoing m → IsQuiet m → told_text view (program_of m.kernel) (original_from m) 0 ≡ front_text view (flat_of m).now
front_told view m ready quiet = ap (λ (s : Moment). front_text view s.now) (left (between_start m (Some []) ready quiet).ran)

pub told_start : {view : View} {m : Machine} {rest : List ℕ} {before after : Option (List ℕ)} (gathered : List ℕ) → IsGoing m → IsQuiet m → gathered ≡ []
    → IsSent (gathered ++ front_text view (flat_of m).now) rest before after → IsToldSoFar view m m 0 rest before after
told_start {view} {m} gathered ready quiet empty sent = record { text = []; between = between_start m (Some []) ready quiet; sent = rw (empty, ← front_told view m ready quiet) at sent }

pub cut_start : (view : View) (m : Machine) (gathered : List ℕ) (before after : Option (List ℕ)) → IsGoing m → IsQuiet m → gathered ≡ []
    → CutShort before after (gathered ++ front_text view (flat_of m).now) → CutShort before after (told_text view (program_of m.kernel) (original_from m) 0)
cut_start view m gathered before after ready quiet empty cut = rw (empty, ← front_told view m ready quiet) at cut

module _ {view : View} {old now : Machine} {i : ℕ} {gathered : List ℕ} {before after : Option (List ℕ)} (way : IsToldSoFar view old now i gathered before after) where
  -- behind what went out in turn
  pub told_in_turn : {rest : List ℕ} {later : Option (List ℕ)} → IsSent (gathered ++ []) rest after later → IsToldSoFar view old now i rest before later
  told_in_turn {rest} {later} sent = record {
    text = way.text;
    between = way.between;
    sent = rw (append-nil (told_text view (program_of old.kernel) (original_from old) i)) at (sent_on (told_text view (program_of old.kernel) (original_from old) i) gathered [] rest before after later way.sent sent);
  }

  pub cut_in_turn : (later : Option (List ℕ)) → CutShort after later (gathered ++ []) → CutShort before later (told_text view (program_of old.kernel) (original_from old) i)
  cut_in_turn later cut = rw (append-nil (told_text view (program_of old.kernel) (original_from old) i)) at (cut_on (told_text view (program_of old.kernel) (original_from old) i) gathered [] before after later way.sent cut)

  -- behind a turn
  pub turned_on : {new : Machine} {count : ℕ} {line : Option Line} → AreUntold view i count → HasTurned now new count line → new.end ≡ None → HasGone view old now new i (i + count) line
  turned_on untold turned going = gone untold way.between turned going

  turn_told : {new : Machine} {j : ℕ} {line : Option Line} (bytes : List ℕ) (access : Access) → HasGone view old now new i j line → AreHeld view (flat_of now).now.memory bytes
      → IsNext view (program_of old.kernel) (flat_of now) access
      → told_text view (program_of old.kernel) (original_from old) i ++ step_told view j (line_before line []) (flat_of now).now.cpu.pc (flat_of now).now.cpu.sreg bytes access (flat_of new).now ≡ told_text view (program_of old.kernel) (original_from old) j
  turn_told {new} {j} {line} bytes access on held next =
      ap (λ t. told_text view (program_of old.kernel) (original_from old) i ++ t) (step_same view (program_of old.kernel) j (line_before line []) (flat_of now) (flat_of new) bytes access held next) ∙ sym on.told

  pub told_gone : {new : Machine} {j : ℕ} {line : Option Line} {rest : List ℕ} {later : Option (List ℕ)} (bytes : List ℕ) (access : Access)
      → HasGone view old now new i j line → AreHeld view (flat_of now).now.memory bytes → IsNext view (program_of old.kernel) (flat_of now) access
      → IsSent (gathered ++ step_told view j (line_before line []) (flat_of now).now.cpu.pc (flat_of now).now.cpu.sreg bytes access (flat_of new).now) rest after later → IsToldSoFar view old new j rest before later
  told_gone {rest = rest} {later} bytes access on held next sent = record {
    text = on.text;
    between = on.between;
    sent = rw (turn_told bytes access on held next) at (sent_on (told_text view (program_of old.kernel) (original_from old) i) gathered _ rest before after later way.sent sent);
  }

  pub cut_gone : {new : Machine} {j : ℕ} {line : Option Line} (later : Option (List ℕ)) (bytes : List ℕ) (access : Access) → HasGone view old now new i j line
      → AreHeld view (flat_of now).now.memory bytes → IsNext view (program_of old.kernel) (flat_of now) access
      → CutShort after later (gathered ++ step_told view j (line_before line []) (flat_of now).now.cpu.pc (flat_of now).now.cpu.sreg bytes access (flat_of new).now) → CutShort before later (told_text view (program_of old.kernel) (original_from old) j)
  cut_gone later bytes access on held next cut = rw (turn_told bytes access on held next) at (cut_on (told_text view (program_of old.kernel) (original_from old) i) gathered _ before after later way.sent cut)

  -- at an end
  told_end : {new : Machine} {count n : ℕ} {end : End} → old.steps ≡ 0 → HasEnded view old new i count n end → HasTold view old new n gathered before after end
  told_end {new} begins over =
      let all : over.done ≡ new.steps = omega (arith, over.steps, begins) in
      record { text = over.text; advanced = over.advanced; sent = rw (← over.told, all) at way.sent }

  pub told_ended : {new : Machine} {count n : ℕ} {line : Option Line} {end : End} → AreUntold view i count → old.steps ≡ 0 → old.end ≡ None → old.broken ≡ false → i < n → i + count ≤ n
      → HasTurned now new count line → new.end ≡ Some end → HasTold view old new n gathered before after end × (new.steps ≤ i + count)
  told_ended untold begins going whole below within turned over =
      let over' = ended untold going whole below within way.between turned over in
      (told_end begins over', omega (arith, over'.steps, over'.most, begins))

  pub told_bound : {new : Machine} {end : End} → old.steps ≡ 0 → old.end ≡ None → old.broken ≡ false → HasBound now new end → HasTold view old new i gathered before after end
  told_bound begins going whole is = told_end begins (bound going whole way.between is)

-- Turns that went out. --------------------------------------------------------------------------------------------

went_out : {K : Type 0} (taken : K → Option (List ℕ)) (view : View) (old now : Machine) (before after : K) (done : ℕ) (gathered : List ℕ)
    → IsToldSoFar view old now done gathered (taken before) (taken after) → gathered ≡ [] → HadAll taken view old before done
went_out taken view old now before after done gathered way empty = record {
  sink = after;
  put = all_on (told_text view (program_of old.kernel) (original_from old) done) gathered (taken before) (taken after) (taken after) way.sent (rw empty (appends-nothing (taken after)));
}

-- up to the next
pub turns_on : {K : Type 0} (taken : K → Option (List ℕ)) (view : View) (old now : Machine) (before after : K) (done : ℕ) (gathered : List ℕ) → GoOutInTurn taken view old before done
    → IsToldSoFar view old now done gathered (taken before) (taken after) → (done % turn_steps ≡ 0 → gathered ≡ []) → GoOutInTurn taken view old before (done + (turn_steps - done % turn_steps))
turns_on taken view old now before after done gathered turns way empty turn below =
    elim (cases_lt (turn_steps * turn) done) [
      | inl earlier ↦ turns turn earlier
      | inr later ↦
          let at : done % 65536 ≡ 0 = omega (arith, below, later) in
          let is : done ≡ turn_steps * turn = omega (arith, below, later) in
          subst (HadAll taken view old before) is (went_out taken view old now before after done gathered way (empty at))
    ]

-- by the count of steps
pub turns_left : {K : Type 0} (taken : K → Option (List ℕ)) (view : View) (old : Machine) (before : K) (most steps : ℕ) → GoOutInTurn taken view old before most → steps ≤ most
    → GoOutInTurn taken view old before steps
turns_left taken view old before most steps turns few turn below = turns turn (omega (arith, below, few))

-- The bytes that are held. ----------------------------------------------------------------------------------------

-- a turn of one step is the next step of the original program
step_next : {last new : Machine} {line : Option Line} → StepWay last new line → new.end ≡ None → next_of (program_of last.kernel) (flat_of last) ≡ On line (flat_of new)
step_next (StepWay.On ready quiet steps is) going = is
step_next {new = new} (StepWay.Stopped stop over kept none steps is same) going = absurd (no_end new (ends.Stopped stop) kept going)

entered_next : {now mid last : Machine} (new : Machine) {line : Option Line} → HasEntered now mid None → mid ≡ last → next_of (program_of last.kernel) (flat_of last) ≡ On line (flat_of new)
    → next_of (program_of now.kernel) (flat_of now) ≡ On line (flat_of new)
entered_next {now} {mid} new entered same is =
    ap (λ program. next_of program (flat_of now)) (sym entered.stays.program)
    ∙ ap (next_of (program_of mid.kernel)) (sym entered.flat)
    ∙ ap (λ (m : Machine). next_of (program_of m.kernel) (flat_of m)) same
    ∙ is

turn_next : {now new : Machine} {count : ℕ} {line : Option Line} → count ≤ 1 → HasTurned now new count line → new.end ≡ None → next_of (program_of now.kernel) (flat_of now) ≡ On line (flat_of new)
turn_next few (HasTurned.Interrupted wanted step one none) going = rw none (step_next step.way going)
turn_next {new = new} few (HasTurned.Refused end entered zeros none) going = absurd (no_end new end (refused_end entered.way) going)
turn_next {new = new} few (HasTurned.Stepped mid entered done) going =
    let none : done.earlier ≡ 0 = omega (arith, done.counted, few) in
    entered_next new entered (rw none at done.silently) (step_next done.step.way going)

-- .. and no interrupt, where none is taken
entered_untaken : {now mid : Machine} → HasEntered now mid None → Entering now mid None → is_taken (flat_of now) ≡ false
entered_untaken entered (Entering.In ready none own untaken) = ap is_taken (sym entered.flat) ∙ untaken

turn_untaken : {now new : Machine} {count : ℕ} {line : Option Line} → is_taken_now now ≡ false → HasTurned now new count line → new.end ≡ None → is_taken (flat_of now) ≡ false
turn_untaken none (HasTurned.Interrupted wanted step one no_line) going = absurd (let e : true ≡ false = sym wanted ∙ none in cc)
turn_untaken {new = new} none (HasTurned.Refused end entered zeros no_line) going = absurd (no_end new end (refused_end entered.way) going)
turn_untaken none (HasTurned.Stepped mid entered done) going = entered_untaken entered entered.way

single : (at count i steps : ℕ) → AreUntold (Changes at count) i steps → steps ≤ 1
single at count i steps untold = elim (cases_lt 1 steps) [ inl many ↦ absurd (untold (i + 1) (omega arith) (omega (arith, many))) | inr few ↦ few ]

pub held_beside : (view : View) {now new : Machine} (i : ℕ) {count : ℕ} (from to : ℕ) {line : Option Line} (bytes : List ℕ) → AreUntold view i count → HasTurned now new count line → new.end ≡ None
    → IsSpared view now from to → AreHeld view (flat_of now).now.memory bytes → AreHeldBeside view (flat_of new).now.memory from to bytes
held_beside (Changes at size) {now} {new} i {count} from to {line} bytes untold turned going spared held =
    let next = turn_next (single at size i count untold) turned going in
    (spared.0, spared.1, λ k below out. let own = spared.2 k below out in held k below ∙ sym (own.1 (turn_untaken own.0 turned going) line (flat_of new) next))
held_beside _ i from to bytes untold turned going spared held = tt

-- What is known of a step before it is made. ----------------------------------------------------------------------

and_right : (a b : Bool) → (a && b) ≡ true → b ≡ true
and_right true b is = is
and_right false b is = absurd (cc)

taken_by_owed : (due : Bool) (k : Kernel) (owed : Option Owed) → (due && is_wanted_at k owed) ≡ true → (due && is_wanted k) ≡ true
taken_by_owed true k None is = absurd (cc)
taken_by_owed true k (Some owed) is = and_right _ (is_wanted k) is
taken_by_owed false k owed is = is

taken_case : {now new : Machine} {count : ℕ} {line : Option Line} (taken : Bool) → is_taken_now now ≡ taken → HasTurned now new count line → new.end ≡ None → is_taken_now now ≡ is_taken (flat_of now)
taken_case {now} true is turned going = is ∙ sym (taken_by_owed now.due now.kernel now.owed is)
taken_case false is turned going = is ∙ sym (turn_untaken is turned going)

pub next_known : (view : View) (old : Machine) {now new : Machine} {count : ℕ} {line : Option Line} (access : Access) → program_of now.kernel ≡ program_of old.kernel → HasTurned now new count line
    → new.end ≡ None → IsForeseen view now access → IsNext view (program_of old.kernel) (flat_of now) access
next_known (Accesses first count) old {now} access same turned going known =
    let cpu = (flat_of now).now.cpu in
    known
    ∙ ap (λ t. next_by t (program_of now.kernel).image cpu) (taken_case (is_taken_now now) refl turned going)
    ∙ ap (λ (p : Program). next_by (is_taken (flat_of now)) p.image cpu) same
next_known _ old access same turned going known = tt
