-- The answers of a run.
use Rattle.std.proofs.Common.{◌≡◌, ℕ, suc, ◌+◌, ◌-◌, ◌<◌, ◌≤◌, true, false, List, [], ◌∷◌, ◌++◌, refl, sym, ap, ap₂, ◌∙◌, arith, subst}
use Rattle.std.specs.Prelude.{◌^◌, ◌≢◌, Option, Some, None, Result, Ok, Err}
use Rattle.std.proofs.lemmas.List.{append-nil}
use Rattle.std.specs.Io.KnownBytes.{Appends}
use Rattle.byte_streams.specs.Streams.{CutShort}
use Rattle.byte_streams.proofs.KnownBytes.{appends-both, appends-nothing}
use Rattle.byte_streams.specs.declared.failure.Failed.{Failed}
use Rattle.mote_devices.specs.declared.line.Line.{Line}
use Rattle.flat_machine.specs.FlatMachine.{Program, is_own, is_inside, Moment, End as FlatEnd, Run, is_taken}
use Rattle.flat_machine.specs.FlatMachine as flat_ends
use Rattle.kernel_entry.specs.declared.kernel.End.{End}
use Rattle.kernel_entry.specs.declared.kernel.End.TheVariants as ends
use Rattle.step_laws.specs.Moves.{Move, lines_of, line_before}
use Rattle.step_laws.specs.Numbers.{Numbers}
use Rattle.step_laws.proofs.NumberLaws.{unmoved}
use Rattle.kernel_entry.specs.Seen.{end_of, program as program_of}
use Rattle.program_steps.specs.Machines.{Machine, numbers_of, flat_of}
use Rattle.program_steps.specs.Ready.{IsGoing, IsQuiet, IsSound, IsEnded, IsKept}
use Rattle.printed_text.specs.DeviceLines.{lines_text}
use Rattle.program_steps.specs.Stepping.{IsFault, ends_in_arrive, HasStepped, StepWay, HasEntered, Entering, HasBound}
use Rattle.tk_run.specs.Running.{Leads, original_from, states_of, run_of, flat_end, IsByStep, IsOver, Answers, IsBroken, HasAdvanced}
use Rattle.program_steps.proofs.Bounds.{bounds_ready}
use Rattle.program_steps.proofs.Leading.{last_on, stays_self}
use Rattle.program_steps.proofs.OneBehindOther.{goes_on_by, let_in}
use Rattle.tk_run.proofs.RunSoFar.{Ran, IsBetween, HasBegun, unshut_on, none_ran, nothing, begun_between, begun_entered, by_step_begun, steps_on, by_step_stopped, by_step_marked, lines_text_on}
use Rattle.tk_run.proofs.RunSoFar.{ran_still, ran_enter, ran_step, spent_at, wild_at, stop_at}

-- the answers
pub no_end : (m : Machine) (end : End) → m.end ≡ Some end → m.end ≡ None → ⊥
no_end m end is going = let e : Some end ≡ None = sym is ∙ going in absurd (cc)

difference : (i n : ℕ) → i ≤ n → (k : ℕ) × (k + i ≡ n)
difference i n below = (n - i, omega arith)

kept_ended : {m : Machine} → m.steps ≤ 10 ^ 12 → m.kernel.part.shut ≡ false → IsEnded m → IsKept m
kept_ended {m} few unshut over =
    let sound : IsSound m = record { order = over.order; bounded = over.bounded; steps = few } in
    record { sound = sound; unshut = unshut; ready = λ e. record { sound = sound; exact = over.exact; going = λ going. absurd (over.ended going); quiet = λ going. absurd (over.ended going) } }

pub kept_ready : {m : Machine} → m.steps ≤ 10 ^ 12 → m.kernel.part.shut ≡ false → IsGoing m → IsQuiet m → IsKept m
kept_ready {m} few unshut ready quiet =
    let sound : IsSound m = record { order = ready.order; bounded = bounds_ready m ready; steps = few } in
    record { sound = sound; unshut = unshut; ready = λ e. record { sound = sound; exact = ready.exact; going = λ going. ready; quiet = λ going. quiet } }

-- a run that ended, or did all its steps, from what it is of the original program's
answered : {old new : Machine} {i n : ℕ} (before after : Option (List ℕ)) {end : End} (flat : FlatEnd) → old.end ≡ None → old.broken ≡ false → i ≤ n → (ran : Ran old new i before after)
    → (new.end ≡ None → ends_in_arrive ran.moves ≡ false)
    → IsByStep (states_of (original_from old)) old new i ran.moves → original_from old i ≡ run_of flat ran.lines (flat_of new) → Answers old new n i ran.lines (Ok end)
    → (new.steps ≤ 10 ^ 12 → new.kernel.part.shut ≡ false → IsKept new) → HasAdvanced old new n before after (Ok end)
answered {old} {new} {i} before after flat going whole below ran last by_step part answers kept = record {
  lines = ran.lines;
  leads = record { moves = ran.moves; goes = ran.goes; last = last };
  put = ran.put;
  stays = ran.stays;
  broken = ran.broken ∙ whole;
  ran = λ e. record { done = i; within = below; steps = ran.steps; written = ap (λ (r : Run). r.lines) part; left = ap (λ (r : Run). r.state) part; by_step = by_step; answers = answers };
  keeps = λ few before'. kept (omega (arith, ran.steps, below, few)) (unshut_on ran.stays before'.unshut);
  kept = λ other is. absurd (no_end old other is going);
}

by_wild : {old now new : Machine} {i : ℕ} (n t : ℕ) {before after : Option (List ℕ)} → old.end ≡ None → old.broken ≡ false → i ≤ n → t ≡ now.at
    → IsBetween old now i before after → is_own now.kernel.part now.at ≡ false → HasEntered now new (Some (ends.Wild t)) → new.end ≡ Some (ends.Wild t) → IsEnded new
    → HasAdvanced old new n before after (Ok (ends.Wild t))
unfolding ran_still
by_wild {old} {now} {new} {i} n t {before} {after} going whole below same between outside entered kept over =
    let ran = between.ran in
    let d = difference i n below in
    let W : ℕ → Type 0 = λ k. original_from old k ≡ run_of (flat_ends.Wild now.at) ran.lines (flat_of now) in
    let all : W n = rw d.1 at (wild_at old now i d.0 before after ran outside) in
    let part : W i = rw (nothing i) at (wild_at old now i 0 before after ran outside) in
    let flat = ap (run_of (flat_ends.Wild now.at) ran.lines) (sym entered.flat) in
    answered before after (flat_ends.Wild now.at) going whole below (ran_enter old now new i before after (Some (ends.Wild t)) ran entered) (λ e. absurd (no_end new (ends.Wild t) kept e))
    (by_step_begun (begun_entered now before after (Some (ends.Wild t)) between entered)) (part ∙ flat)
    (record { ran = all ∙ flat ∙ ap (λ a. run_of (flat_ends.Wild a) ran.lines (flat_of new)) (sym same); kept = kept; ended = over }) (λ few unshut. kept_ended few unshut over)

by_failed : {old now new : Machine} {i : ℕ} (n : ℕ) {op : ℕ} {before after : Option (List ℕ)} → old.end ≡ None → old.broken ≡ false → i < n
    → IsBetween old now i before after → is_own now.kernel.part now.at ≡ true → HasEntered now new (Some (ends.Flash op))
    → new.end ≡ Some (ends.Flash op) → IsEnded new → IsFault new op → HasAdvanced old new n before after (Ok (ends.Flash op))
unfolding ran_still
by_failed {old} {now} {new} {i} n {op} {before} {after} going whole below between inside entered kept over fault =
    let ran = between.ran in
    let part = spent_at old now i before after ran inside ∙ ap (run_of flat_ends.Spent ran.lines) (sym entered.flat) in
    answered before after flat_ends.Spent going whole (omega arith) (ran_enter old now new i before after (Some (ends.Flash op)) ran entered) (λ e. absurd (no_end new (ends.Flash op) kept e))
    (by_step_begun (begun_entered now before after (Some (ends.Flash op)) between entered)) part
    (record { fewer = below; ran = part; kept = kept; ended = over; fault = fault }) (λ few unshut. kept_ended few unshut over)

pub advanced_enter : (old now new : Machine) (i n : ℕ) (before after : Option (List ℕ)) (result : Option End) (end : End) → old.end ≡ None
    → old.broken ≡ false → i < n → IsBetween old now i before after → HasEntered now new result → Entering now new result → result ≡ Some end
    → HasAdvanced old new n before after (Ok end)
advanced_enter old now new i n before after result end going whole below between entered (Entering.In ready free inside untaken) is = absurd (cc)
advanced_enter old now new i n before after result end going whole below between entered (Entering.Out over kept outside) is =
    let e : ends.Wild now.at ≡ end = cc in
    subst (λ x. HasAdvanced old new n before after (Ok x)) e (by_wild n now.at going whole (omega arith) refl between outside entered kept over)
advanced_enter old now new i n before after result end going whole below between entered (Entering.Failed op over kept inside fault) is =
    let e : ends.Flash op ≡ end = cc in
    subst (λ x. HasAdvanced old new n before after (Ok x)) e (by_failed n going whole below between inside entered kept over fault)

-- in the middle of a turn
pub record IsIn (old now : Machine) (i : ℕ) (before after : Option (List ℕ)) : Type 0 where
  pub ran : Ran old now i before after
  pub begun : HasBegun old now i ran.moves
  pub inside : is_own now.kernel.part now.at ≡ true

-- behind an arrival a step can begin
pub record CanStep (m : Machine) : Type 0 where
  pub ready : IsGoing m
  pub placed : m.owed ≡ None
  pub untaken : is_taken (flat_of m) ≡ false
  pub inside : is_own m.kernel.part m.at ≡ true

pub can_step : (now new : Machine) (result : Option End) → HasEntered now new result → result ≡ None → CanStep new
can_step now new result entered is =
    let e = let_in now new result entered is in
    record {
      ready = e.ready;
      placed = e.placed;
      untaken = e.untaken;
      inside = ap₂ (λ (p : Program) a. is_inside p a) entered.stays.program (ap (λ (s : Moment). s.now.cpu.pc) entered.flat)
          ∙ e.inside;
    }

pub is_in : (old now new : Machine) (i : ℕ) (before after : Option (List ℕ)) (result : Option End) → IsBetween old now i before after → HasEntered now new result → result ≡ None
    → IsIn old new i before after
unfolding ran_still
is_in old now new i before after result between entered is =
    record {
      ran = ran_enter old now new i before after result between.ran entered;
      begun = begun_entered now before after result between entered;
      inside = (can_step now new result entered is).inside;
    }

last_step : (ms ns : List Move) → ends_in_arrive ns ≡ false → ns ≢ [] → ends_in_arrive (ms ++ ns) ≡ false
last_step ms [] inner some = absurd (some refl)
last_step ms (n ∷ ns) inner some = last_on ms ns n ∙ inner

-- behind the step, where its line went out
pub between_on : (old now new : Machine) (i : ℕ) (line : Option Line) (before after later : Option (List ℕ)) → IsIn old now i before after → HasStepped now new line
    → Appends after later (lines_text (line_before line [])) → new.end ≡ None → IsBetween old new (i + 1) before later
unfolding ran_step
between_on old now new i line before after later now' step put going =
    let on = goes_on_by now new line step.way going in
    record {
      ran = ran_step new line now'.ran now'.inside step on.steps on.next put;
      last = last_step now'.ran.moves step.moves step.last step.some;
      steps = steps_on new line now'.begun step;
      ready = on.ready;
      quiet = on.quiet;
    }

-- the program stopped
pub advanced_stop : (old now new : Machine) (i n : ℕ) (line : Option Line) (end : End) (before after later : Option (List ℕ)) → old.end ≡ None
    → old.broken ≡ false → i < n → IsIn old now i before after → (step : HasStepped now new line) → StepWay now new line
    → Appends after later (lines_text (line_before line [])) → new.end ≡ Some end → HasAdvanced old new n before later (Ok end)
unfolding ran_still
advanced_stop old now new i n line end before after later going whole below now' step (StepWay.On ready quiet steps is) put ended' = absurd (no_end new end ended' ready.going)
advanced_stop old now new i n line end before after later going whole below now' step (StepWay.Stopped stop over kept none steps is left) put ended' =
    let ran = now'.ran in
    let e : ends.Stopped stop ≡ end = (let f : Some (ends.Stopped stop) ≡ Some end = sym kept ∙ ended' in cc) in
    let d = difference (suc i) n (omega arith) in
    let same : suc d.0 + i ≡ n = omega (arith, d.1) in
    let S : ℕ → Type 0 = λ k. original_from old k ≡ run_of (end_of stop) ran.lines (flat_of now) in
    let all : S n = rw same at (stop_at old now i d.0 before after (end_of stop) ran now'.inside is) in
    let nothing : ran.lines ++ line_before line [] ≡ ran.lines = ap (λ l. ran.lines ++ line_before l []) none ∙ append-nil ran.lines in
    let sent : Appends before later (lines_text ran.lines) = subst (λ l. Appends before later (lines_text l)) nothing
    (subst (Appends before later) (sym (lines_text_on ran.lines (line_before line [])))
    (appends-both before after later (lines_text ran.lines) (lines_text (line_before line [])) ran.put put)) in
    let at = ran_still old i after ran (rw none at step.goes) step.stays step.broken steps left sent in
    subst (λ x. HasAdvanced old new n before later (Ok x)) e (answered before later flat_ends.Spent going whole (omega arith) at (λ f. absurd (no_end new (ends.Stopped stop) kept f))
    (by_step_stopped new line now'.begun step)
    (spent_at old now i before after ran now'.inside ∙ ap (run_of flat_ends.Spent ran.lines) (sym left))
    (record { ran = all ∙ ap (run_of (end_of stop) ran.lines) (sym left); kept = kept; ended = over }) (λ few unshut. kept_ended few unshut over))

bound_by : {old now new : Machine} {n : ℕ} {before after : Option (List ℕ)} {result : Option End} → old.end ≡ None → old.broken ≡ false
    → IsBetween old now n before after → HasEntered now new result → is_own now.kernel.part now.at ≡ false → Entering now new result
    → result ≡ Some (ends.Wild now.at) → HasAdvanced old new n before after (Ok (ends.Wild now.at))
bound_by going whole between entered outside (Entering.In ready free inside untaken) is = absurd (cc)
bound_by {old} {now} {new} {n} going whole between entered outside (Entering.Out over kept out) is = by_wild n now.at going whole (omega arith) refl between outside entered kept over
bound_by going whole between entered outside (Entering.Failed op over kept inside fault) is = absurd (cc)

-- all steps are done
pub advanced_bound : (old now new : Machine) (n : ℕ) (before after : Option (List ℕ)) (end : End) → old.end ≡ None → old.broken ≡ false → IsBetween old now n before after → HasBound now new end
    → HasAdvanced old new n before after (Ok end)
advanced_bound old now new n before after end going whole between (HasBound.Waits same inside) =
    let ran = between.ran in
    let part = spent_at old now n before after ran inside in
    subst (λ m. HasAdvanced old m n before after (Ok ends.Spent)) (sym same) (answered before after flat_ends.Spent going whole (omega arith) ran (λ f. between.last)
    (by_step_begun (begun_between before after between)) part
    (record { all = refl; ran = part; ready = between.ready; quiet = between.quiet }) (λ few unshut. kept_ready few unshut between.ready between.quiet))
advanced_bound old now new n before after end going whole between (HasBound.Leaves entered outside) = bound_by going whole between entered outside entered.way refl

-- a kept end
pub advanced_kept : {m : Machine} {n : ℕ} {known : Option (List ℕ)} {end : End} → m.broken ≡ false → m.end ≡ Some end → HasAdvanced m m n known known (Ok end)
unfolding lines_of
advanced_kept {m} {n} {known} {end} whole kept = record {
  lines = [];
  leads = record { moves = []; goes = record { walk = refl; told = refl; numbers = refl }; last = λ e. refl };
  put = appends-nothing known;
  stays = stays_self m;
  broken = whole;
  ran = λ going. absurd (no_end m end kept going);
  keeps = λ few before'. before';
  kept = λ other is. (let e : Some end ≡ Some other = sym kept ∙ is in cc, refl, refl);
}

-- a machine that is marked as broken
kept_broken : {m : Machine} → IsKept m → IsKept (record m { broken = true })
kept_broken kept = record { sound = record { order = kept.sound.order; bounded = kept.sound.bounded; steps = kept.sound.steps }; unshut = kept.unshut; ready = λ e. absurd (cc) }

-- Between two steps the lines so far could not be put.
pub advanced_cut : {old now : Machine} {i : ℕ} (n : ℕ) (e : Failed) {text : List ℕ} {before after : Option (List ℕ)} → old.end ≡ None → old.broken ≡ false → i ≤ n
    → IsBetween old now i (Some []) (Some text) → CutShort before after text
    → HasAdvanced old (record now { broken = true }) n before after (Err e)
advanced_cut {old} {now} {i} n e {text} going whole below between cut =
    let ran = between.ran in
    let none = none_ran (program_of old.kernel) (flat_of now) in
    record {
      lines = ran.lines;
      leads = record { moves = ran.moves; goes = ran.goes; last = λ f. between.last };
      put = rw ran.put at cut;
      stays = record { program = ran.stays.program; layout = ran.stays.layout; quantum = ran.stays.quantum; failing = ran.stays.failing };
      broken = refl;
      ran = λ f. record {
        done = i;
        within = below;
        steps = ran.steps;
        written = ap (λ k. (original_from old k).lines) (sym (nothing i)) ∙ ap (λ (r : Run). r.lines) (ran.run 0) ∙ ap (λ l. ran.lines ++ l) none.0 ∙ append-nil ran.lines;
        left = ap (λ k. (original_from old k).state) (sym (nothing i)) ∙ ap (λ (r : Run). r.state) (ran.run 0) ∙ none.1;
        by_step = by_step_marked old now i ran.moves (by_step_begun (begun_between (Some []) (Some text) between));
        answers = record { broken = refl; over = λ end is other. absurd (no_end now end is between.ready.going); order = between.ready.order; bounded = bounds_ready now between.ready };
      };
      keeps = λ few before'. kept_broken (kept_ready (omega (arith, ran.steps, few, below)) (unshut_on ran.stays before'.unshut) between.ready between.quiet);
      kept = λ end is. absurd (no_end old end is going);
    }

-- The line of a step could not be put, or those that were gathered before.
pub advanced_failed : {old now new : Machine} {i : ℕ} (n : ℕ) {line : Option Line} (e : Failed) {text : List ℕ} {before after : Option (List ℕ)} → old.end ≡ None → old.broken ≡ false → i < n
    → IsIn old now i (Some []) (Some text) → (step : HasStepped now new line) → StepWay now new line → line ≢ None
    → CutShort before after (text ++ lines_text (line_before line [])) → HasAdvanced old (record new { broken = true }) n before after (Err e)
advanced_failed {old} {now} {new} {i} n {line} e {text} {before} {after} going whole below now' step (StepWay.On ready quiet steps is) some cut =
    let behind : List ℕ = text ++ lines_text (line_before line []) in
    advanced_cut n e going whole (omega arith) (between_on old now new i line (Some []) (Some text) (Some behind) now' step refl ready.going) cut
advanced_failed n e going whole below now' step (StepWay.Stopped stop over kept none steps is left) some cut = absurd (some none)

-- All steps were done, and then the whole text was put.
pub advanced_whole : (old new : Machine) (n : ℕ) (end : End) (text : List ℕ) (before after : Option (List ℕ)) → HasAdvanced old new n (Some []) (Some text) (Ok end) → Appends before after text
    → HasAdvanced old new n before after (Ok end)
advanced_whole old new n end text before after advanced put = record {
  lines = advanced.lines;
  leads = advanced.leads;
  put = rw advanced.put at put;
  stays = advanced.stays;
  broken = advanced.broken;
  ran = advanced.ran;
  keeps = advanced.keeps;
  kept = advanced.kept;
}

-- the end that is kept is the original program's
over_as : {old new : Machine} {n : ℕ} {lines : List Line} {own : End} (end : End) → IsOver old new n lines own → new.end ≡ Some end → (original_from old n).end ≡ flat_end end
over_as {old} {new} {n} {lines} {own} end over is =
    let same : Some own ≡ Some end = sym over.kept ∙ is in
    let e : own ≡ end = cc in
    ap (λ (r : Run). r.end) over.ran ∙ ap flat_end e

broken_by : {old : Machine} (new : Machine) {n : ℕ} (done : ℕ) (lines : List Line) (end : End) → Answers old new n done lines (Ok end) → IsBroken old (record new { broken = true }) n
broken_by new done lines ends.Spent spent =
    record { broken = refl; over = λ end is other. absurd (no_end new end is spent.ready.going); order = spent.ready.order; bounded = bounds_ready new spent.ready }
broken_by new done lines (ends.Flash op) failed =
    record {
      broken = refl;
      over = λ end is other. absurd (let e : Some end ≡ Some (ends.Flash op) = sym is ∙ failed.kept in other op (cc));
      order = failed.ended.order;
      bounded = failed.ended.bounded;
    }
broken_by new done lines (ends.Wild t) over = record { broken = refl; over = λ end is other. over_as end over is; order = over.ended.order; bounded = over.ended.bounded }
broken_by new done lines (ends.Stopped stop) over = record { broken = refl; over = λ end is other. over_as end over is; order = over.ended.order; bounded = over.ended.bounded }

-- All steps were done, and then the text could not be put.
pub advanced_unput : {old new : Machine} {n : ℕ} {end : End} (e : Failed) {text : List ℕ} {before after : Option (List ℕ)} → old.end ≡ None → old.broken ≡ false
    → HasAdvanced old new n (Some []) (Some text) (Ok end) → CutShort before after text
    → HasAdvanced old (record new { broken = true }) n before after (Err e)
advanced_unput {old} {new} {n} {end} e going whole advanced cut =
    let leads = advanced.leads in
    let ran = advanced.ran going in
    record {
      lines = advanced.lines;
      leads = record { moves = leads.moves; goes = leads.goes; last = leads.last };
      put = rw advanced.put at cut;
      stays = record { program = advanced.stays.program; layout = advanced.stays.layout; quantum = advanced.stays.quantum; failing = advanced.stays.failing };
      broken = refl;
      ran = λ f. record {
        done = ran.done;
        within = ran.within;
        steps = ran.steps;
        written = ran.written;
        left = ran.left;
        by_step = by_step_marked old new ran.done leads.moves ran.by_step;
        answers = broken_by new ran.done advanced.lines end ran.answers;
      };
      keeps = λ few before'. kept_broken (advanced.keeps few before');
      kept = λ other is. absurd (no_end old other is going);
    }

-- no move changes how many arrivals others may have made
pub others_led : {start m : Machine} {lines : List Line} → Leads start lines m → m.others ≡ start.others
others_led {start} leads = ap (λ (k : Numbers). k.others) leads.goes.numbers ∙ (unmoved leads.moves (numbers_of start)).1

pub others_kept : {old new : Machine} {n : ℕ} {before after : Option (List ℕ)} {result : Result End Failed} → HasAdvanced old new n before after result → new.others ≡ old.others
others_kept advanced = others_led advanced.leads
