-- The run so far behind one turn more, and what a view tells of it.
use Rattle.std.proofs.Common.{◌≡◌, ℕ, zero, suc, ◌+◌, ◌<◌, ◌≤◌, false, true, List, [], ◌∷◌, ◌++◌, refl, sym, ap, ◌∙◌, subst, arith}
use Rattle.std.specs.Prelude.{Option, Some, None, Ok}
use Rattle.std.proofs.lemmas.List.{append-nil}
use Rattle.byte_streams.proofs.KnownBytes.{appends-nothing}
use Rattle.mote_devices.specs.declared.line.Line.{Line}
use Rattle.flat_machine.specs.FlatMachine.{Run, run, with_line}
use Rattle.flat_machine.proofs.MachineLaws.{run_goes}
use Rattle.kernel_entry.specs.Seen.{program as program_of}
use Rattle.kernel_entry.specs.declared.kernel.End.{End}
use Rattle.kernel_entry.specs.declared.kernel.End.TheVariants as ends
use Rattle.step_laws.specs.Moves.{line_before}
use Rattle.program_steps.specs.Machines.{Machine, flat_of}
use Rattle.printed_text.specs.DeviceLines.{lines_text}
use Rattle.program_steps.specs.Stepping.{HasStepped, StepWay, HasEntered, Entering, HasBound}
use Rattle.program_steps.specs.Interrupts.{is_taken_now}
use Rattle.program_steps.specs.Several.{Silently, HasDone}
use Rattle.tk_run.specs.Running.{HasAdvanced, original_from}
use Rattle.tk_run.proofs.RunSoFar.{Ran, IsBetween, none_ran, nothing, inside_same, tried_same}
use Rattle.tk_run.proofs.Advancing.{IsIn, is_in, between_on, no_end, advanced_enter, advanced_stop, advanced_bound}
use Rattle.tk_run.proofs.Gathered.{take_in}
use Rattle.tk_run.proofs.InTurn.{lines_so_far, bound_counts}
use Rattle.tk_watch.specs.Turning.{HasTurned}
use Rattle.tk_watch.specs.declared.view.View.{View}
use Rattle.tk_watch.specs.Kept.{IsUntold}
use Rattle.tk_watch.specs.StepTexts.{moment_text, told_text}
use Rattle.tk_watch.proofs.ToldLaws.{beside_same, told_on, told_silent}

-- where the original stands
pub left : {old now : Machine} {i : ℕ} {before after : Option (List ℕ)} → Ran old now i before after → (original_from old i).state ≡ flat_of now
left {old} {now} {i} ran = ap (λ k. (original_from old k).state) (sym (nothing i)) ∙ ap (λ (r : Run). r.state) (ran.run 0) ∙ (none_ran (program_of old.kernel) (flat_of now)).1

line_alone : (line : Option Line) (r : Run) → r.lines ≡ [] → (with_line line r).lines ≡ line_before line []
line_alone None r none = none
line_alone (Some line) r none = ap (λ l. line ∷ l) none

-- a step adds its line
step_lines : {old now new : Machine} {i : ℕ} {line : Option Line} {before after : Option (List ℕ)} → IsIn old now i before after → StepWay now new line → new.end ≡ None
    → (original_from old (i + 1)).lines ≡ (original_from old i).lines ++ line_before line []
step_lines {old} {now} {new} {i} {line} {before} {after} now' (StepWay.On ready quiet steps is) going =
    let ran = now'.ran in
    let program = program_of old.kernel in
    let on : run program (flat_of now) 1 ≡ with_line line (run program (flat_of new) 0) =
    run_goes program (flat_of now) (flat_of new) 0 line (inside_same old now ran.stays now'.inside) (tried_same old now _ ran.stays is) in
    let same : i + 1 ≡ 1 + i = omega arith in
    ap (λ k. (original_from old k).lines) same
    ∙ ap (λ (r : Run). r.lines) (ran.run 1)
    ∙ ap (λ (r : Run). ran.lines ++ r.lines) on
    ∙ ap (λ l. ran.lines ++ l) (line_alone line (run program (flat_of new) 0) (none_ran program (flat_of new)).0)
    ∙ ap (λ l. l ++ line_before line []) (sym (lines_so_far old now i before after ran))
step_lines {new = new} now' (StepWay.Stopped stop over kept none steps is same) going = absurd (no_end new (ends.Stopped stop) kept going)

-- in the midst of a turn of so many steps, since i of which nothing was told
pub record IsSilent (view : View) (old now : Machine) (i j : ℕ) (text : List ℕ) : Type 0 where
  pub inside : IsIn old now j (Some []) (Some text)
  pub told : told_text view (program_of old.kernel) (original_from old) j ≡ told_text view (program_of old.kernel) (original_from old) i

-- nothing is told of the next steps but the last, unless they write a line
abbrev pub AreUntold : View → (i count : ℕ) → Type 0
AreUntold view i count = (step : ℕ) → i < step → step < i + count → IsUntold view step

-- before the first of them
silent_start : {view : View} {old now : Machine} {i : ℕ} {text : List ℕ} → IsIn old now i (Some []) (Some text) → IsSilent view old now i (i + 0) text
silent_start {i = i} now' = let none : i + 0 ≡ i = omega arith in rw none (record { inside = now'; told = refl })

silent_on : {view : View} (n : ℕ) {old now last : Machine} {i count : ℕ} {text : List ℕ} → n < count → AreUntold view i count → Silently n now last → IsIn old now i (Some []) (Some text)
    → IsSilent view old last i (i + n) text
silent_on {view} zero fewer untold same now' = rw same at (silent_start {view = view} now')
silent_on {view} (suc n) {old} {now} {last} {i} {count} {text} fewer untold (y, w, earlier, step, followed) now' =
    let runs = original_from old in
    let first : IsSilent view old y i (i + n) text = silent_on n (omega (arith, fewer)) untold earlier now' in
    let next : i + n + 1 ≡ suc (i + n) = omega arith in
    let going = followed.ready.going in
    let grows = step_lines first.inside step.way going in
    let between = between_on old y w (i + n) None (Some []) (Some text) (Some text) first.inside step (appends-nothing (Some text)) going in
    let whole : IsSilent view old last i (i + n + 1) text = record {
      inside = is_in old w last (i + n + 1) (Some []) (Some text) None between followed.entered refl;
      told = told_silent view (program_of old.kernel) runs (i + n) (i + n + 1) next (untold (i + n + 1) (omega arith) (omega (arith, fewer))) (grows ∙ append-nil (runs (i + n)).lines) ∙ first.told;
    } in
    subst (λ k. IsSilent view old last i k text) (omega arith) whole

-- .. of which the last step is still to come
pub record IsLast (view : View) (old now new : Machine) (i count : ℕ) (line : Option Line) (text : List ℕ) : Type 0 where
  pub last : Machine
  pub at : ℕ
  pub before : count ≡ 1 + at
  pub silent : IsSilent view old last i (i + at) text
  pub step : HasStepped last new line

last_of : {view : View} {old now mid new : Machine} {i count : ℕ} {line : Option Line} {text : List ℕ} → AreUntold view i count → IsBetween old now i (Some []) (Some text) → HasEntered now mid None
    → HasDone mid new count line → IsLast view old now new i count line text
last_of {old = old} {now} {mid} {i = i} {text = text} untold between entered done = record {
  last = done.last;
  at = done.earlier;
  before = omega (arith, done.counted);
  silent = silent_on done.earlier (omega (arith, done.counted)) untold done.silently (is_in old now mid i (Some []) (Some text) None between entered refl);
  step = done.step;
}

last_taken : {view : View} {old now new : Machine} {i count : ℕ} {text : List ℕ} → IsBetween old now i (Some []) (Some text) → is_taken_now now ≡ true → HasStepped now new None → count ≡ 1
    → IsLast view old now new i count None text
last_taken {old = old} {now} {i = i} {text = text} between wanted step one =
    record { last = now; at = 0; before = omega (arith, one); silent = silent_start (take_in old now i (Some []) (Some text) between wanted); step = step }

-- Behind a turn, where the program goes on.
pub record HasGone (view : View) (old now new : Machine) (i j : ℕ) (line : Option Line) : Type 0 where
  pub text : List ℕ
  pub between : IsBetween old new j (Some []) (Some text)
  pub told : told_text view (program_of old.kernel) (original_from old) j ≡ told_text view (program_of old.kernel) (original_from old) i ++ moment_text view (program_of old.kernel) j (line_before line []) (flat_of now) (flat_of new)

gone_by : {view : View} {old now new : Machine} {i count : ℕ} {line : Option Line} {text : List ℕ} → AreUntold view i count → IsBetween old now i (Some []) (Some text)
    → IsLast view old now new i count line text → new.end ≡ None → HasGone view old now new i (i + count) line
gone_by {view} {old} {now} {new} {i} {count} {line} {text} untold between last going =
    let runs = original_from old in
    let program = program_of old.kernel in
    let j = i + last.at in
    let lines = line_before line [] in
    let next : i + count ≡ suc j = omega (arith, last.before) in
    let one : j + 1 ≡ i + count = omega (arith, last.before) in
    let behind : IsBetween old new (i + count) (Some []) (Some (text ++ lines_text lines)) =
    rw one at (between_on old last.last new j line (Some []) (Some text) (Some (text ++ lines_text lines)) last.silent.inside last.step refl going) in
    let grows : (runs (i + count)).lines ≡ (runs j).lines ++ lines = rw one at (step_lines last.silent.inside last.step.way going) in
    let last_told : moment_text view program (i + count) lines (runs j).state (flat_of new) ≡ moment_text view program (i + count) lines (flat_of now) (flat_of new) =
    beside_same view program (i + count) lines (runs j).state (flat_of now) (flat_of new) i last.at (λ step from to. untold step from (omega (arith, last.before, to)))
    (λ none. let same : j ≡ i = omega (arith, none) in rw same (left between.ran)) in
    record {
      text = text ++ lines_text lines;
      between = behind;
      told = told_on view program runs j (i + count) lines (flat_of new) next grows (left behind.ran)
          ∙ ap (λ t. told_text view program runs j ++ t) last_told
          ∙ ap (λ t. t ++ moment_text view program (i + count) lines (flat_of now) (flat_of new)) last.silent.told;
    }

pub refused_end : {now new : Machine} {end : End} → Entering now new (Some end) → new.end ≡ Some end
refused_end (Entering.Out over kept outside) = kept
refused_end (Entering.Failed op over kept inside fault) = kept

pub gone : {view : View} {old now new : Machine} {i count : ℕ} {line : Option Line} {text : List ℕ} → AreUntold view i count → IsBetween old now i (Some []) (Some text) → HasTurned now new count line
    → new.end ≡ None → HasGone view old now new i (i + count) line
gone untold between (HasTurned.Interrupted wanted step one none) going = rw none (gone_by untold between (last_taken between wanted step one) going)
gone {new = new} untold between (HasTurned.Refused end entered zeros none) going = absurd (no_end new end (refused_end entered.way) going)
gone untold between (HasTurned.Stepped mid entered done) going = gone_by untold between (last_of untold between entered done) going

-- Behind a turn in which the program ended, with nothing told more.
pub record HasEnded (view : View) (old new : Machine) (i count n : ℕ) (end : End) : Type 0 where
  pub text : List ℕ
  pub advanced : HasAdvanced old new n (Some []) (Some text) (Ok end)
  pub done : ℕ
  pub most : done ≤ i + count
  pub one : count ≤ 1 → done ≡ i
  pub steps : new.steps ≡ old.steps + done
  pub told : told_text view (program_of old.kernel) (original_from old) done ≡ told_text view (program_of old.kernel) (original_from old) i

-- .. at the same step
ended_here : {view : View} {old new : Machine} {i count n : ℕ} {end : End} {text : List ℕ} → HasAdvanced old new n (Some []) (Some text) (Ok end) → new.steps ≡ old.steps + i
    → HasEnded view old new i count n end
ended_here {i} {text} advanced steps = record { text = text; advanced = advanced; done = i; most = omega arith; one = λ few. refl; steps = steps; told = refl }

stopped_by : {view : View} {old now new : Machine} {i count n : ℕ} {line : Option Line} {end : End} {text : List ℕ} → old.end ≡ None → old.broken ≡ false → i + count ≤ n
    → (last : IsLast view old now new i count line text) → StepWay last.last new line → new.end ≡ Some end → HasEnded view old new i count n end
stopped_by {new = new} {end = end} going whole within last (StepWay.On ready quiet steps is) ended = absurd (no_end new end ended ready.going)
stopped_by {old = old} {new = new} {i} {n = n} {line} {end} {text} going whole within last (StepWay.Stopped stop over kept none steps is same) ended =
    let more = lines_text (line_before line []) in
    record {
      text = text ++ more;
      advanced = advanced_stop old last.last new (i + last.at) n line end (Some []) (Some text) (Some (text ++ more)) going whole
          (omega (arith, last.before, within)) last.silent.inside last.step last.step.way refl ended;
      done = i + last.at;
      most = omega (arith, last.before);
      one = λ few. omega (arith, last.before, few);
      steps = steps ∙ last.silent.inside.ran.steps;
      told = last.silent.told;
    }

pub ended : {view : View} {old now new : Machine} {i count n : ℕ} {line : Option Line} {end : End} {text : List ℕ} → AreUntold view i count → old.end ≡ None → old.broken ≡ false → i < n
    → i + count ≤ n → IsBetween old now i (Some []) (Some text) → HasTurned now new count line → new.end ≡ Some end → HasEnded view old new i count n end
ended untold going whole below within between (HasTurned.Interrupted wanted step one none) over =
    let last = last_taken between wanted step one in
    stopped_by going whole within last last.step.way over
ended {old = old} {now} {new} {i} {n = n} {end = end} {text} untold going whole below within between (HasTurned.Refused other entered zeros none) over =
    ended_here (advanced_enter old now new i n (Some []) (Some text) (Some other) end going whole below between entered entered.way (sym (refused_end entered.way) ∙ over))
    (entered.steps ∙ between.ran.steps)
ended untold going whole below within between (HasTurned.Stepped mid entered done) over =
    let last = last_of untold between entered done in
    stopped_by going whole within last last.step.way over

-- Where all steps are done.
pub bound : {view : View} {old now new : Machine} {n : ℕ} {end : End} {text : List ℕ} → old.end ≡ None → old.broken ≡ false → IsBetween old now n (Some []) (Some text) → HasBound now new end
    → HasEnded view old new n 0 n end
bound {old = old} {now} {new} {n} {end} {text} going whole between is =
    ended_here (advanced_bound old now new n (Some []) (Some text) end going whole between is) (bound_counts now new end is ∙ between.ran.steps)

-- A turn after which the program goes on has a step.
pub some_steps : {now new : Machine} {count : ℕ} {line : Option Line} → HasTurned now new count line → new.end ≡ None → 1 ≤ count
some_steps (HasTurned.Interrupted wanted step one none) going = omega (arith, one)
some_steps {new = new} (HasTurned.Refused end entered zeros none) going = absurd (no_end new end (refused_end entered.way) going)
some_steps (HasTurned.Stepped mid entered done) going = omega (arith, done.counted)
