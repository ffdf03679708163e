-- The run so far, beside the original program.
use Rattle.std.proofs.Common.{◌≡◌, ℕ, suc, ◌+◌, Bool, true, false, List, [], ◌∷◌, ◌++◌, inl, inr, refl, sym, ap, ◌∙◌, arith, subst, append_assoc, add-zero}
use Rattle.std.specs.Prelude.{Option, Some, None}
use Rattle.std.proofs.lemmas.List.{append-nil}
use Rattle.std.proofs.lemmas.Grind.{flat_map-append}
use Rattle.std.specs.Io.KnownBytes.{Appends}
use Rattle.byte_streams.proofs.KnownBytes.{appends-both, appends-nothing}
use Rattle.mote_devices.specs.declared.line.Line.{Line}
use Rattle.flat_machine.specs.FlatMachine.{Program, is_own, is_inside, Moment, End as FlatEnd, Run, run, with_line, ended, next_of}
use Rattle.flat_machine.specs.FlatMachine as flat_ends
use Rattle.flat_machine.proofs.MachineLaws.{run_wild, run_spent, run_stops, run_goes}
use Rattle.kernel_entry.specs.declared.kernel.End.{End}
use Rattle.step_laws.specs.Moves.{Move, lines_of, line_before}
use Rattle.kernel_entry.specs.Seen.{program as program_of}
use Rattle.program_steps.specs.Machines.{Machine, flat_of}
use Rattle.program_steps.specs.Ready.{IsGoing, IsQuiet}
use Rattle.printed_text.specs.DeviceLines.{device_line_text, lines_text}
use Rattle.program_steps.specs.Stepping.{Goes, Stays, IsArrival, ends_in_arrive, HasStepped, HasEntered}
use Rattle.tk_run.specs.Running.{original_from, run_of, states_of, StandsAfter, StepsTo, IsByStep}
use Rattle.program_steps.proofs.Leading.{goes_on, stays_on, stays_self}

-- a run behind lines that were written before
abbrev pub behind : List Line → Run → Run
behind lines r = record r { lines = lines ++ r.lines }

-- the run so far, over i steps: behind its lines the original's runs on from where the machine is now
pub record Ran (old now : Machine) (i : ℕ) (before after : Option (List ℕ)) : Type 0 where
  pub lines : List Line
  pub moves : List Move
  pub goes : Goes old now moves lines
  pub stays : Stays old now
  pub broken : now.broken ≡ old.broken
  pub steps : now.steps ≡ old.steps + i
  pub put : Appends before after (lines_text lines)
  pub run : (k : ℕ) → original_from old (k + i) ≡ behind lines (run (program_of old.kernel) (flat_of now) k)

-- between two steps
pub record IsBetween (old now : Machine) (i : ℕ) (before after : Option (List ℕ)) : Type 0 where
  pub ran : Ran old now i before after
  pub last : ends_in_arrive ran.moves ≡ false
  pub steps : StepsTo (states_of (original_from old)) old i ran.moves now
  pub ready : IsGoing now
  pub quiet : IsQuiet now

pub behind_line : (lines : List Line) (line : Option Line) (r : Run) → behind lines (with_line line r) ≡ behind (lines ++ line_before line []) r
behind_line lines None r = ap (λ l. record r { lines = l ++ r.lines }) (sym (append-nil lines))
behind_line lines (Some l) r = ap (λ k. record r { lines = k }) (sym (append_assoc lines (l ∷ []) r.lines))

pub behind_ended : (lines : List Line) (end : FlatEnd) (s : Moment) → behind lines (ended end s) ≡ run_of end lines s
behind_ended lines end s = ap (λ l. run_of end l s) (append-nil lines)

none_by : (program : Program) (s : Moment) (b : Bool) → is_inside program s.now.cpu.pc ≡ b → ((run program s 0).lines ≡ []) × ((run program s 0).state ≡ s)
none_by program s true inside = let is = run_spent program s inside in (ap (λ (r : Run). r.lines) is, ap (λ (r : Run). r.state) is)
none_by program s false outside = let is = run_wild program s 0 outside in (ap (λ (r : Run). r.lines) is, ap (λ (r : Run). r.state) is)

pub none_ran : (program : Program) (s : Moment) → ((run program s 0).lines ≡ []) × ((run program s 0).state ≡ s)
none_ran program s = none_by program s (is_inside program s.now.cpu.pc) refl

pub nothing : (i : ℕ) → 0 + i ≡ i
nothing i = omega arith

-- its moves, step by step
stands_after : {old now : Machine} {i : ℕ} {before after : Option (List ℕ)} → IsBetween old now i before after → StandsAfter (states_of (original_from old)) i now
stands_after {old} {now} {i} between = record {
  ready = between.ready;
  quiet = between.quiet;
  stands = sym (ap (states_of (original_from old)) (sym (nothing i)) ∙ ap (λ (r : Run). r.state) (between.ran.run 0) ∙ (none_ran (program_of old.kernel) (flat_of now)).1);
}

-- behind an arrival, a step is to come
pub record HasBegun (old now : Machine) (i : ℕ) (moves : List Move) : Type 0 where
  pub boundary : Machine
  pub before : List Move
  pub arrival : List Move
  pub lines : List Line
  pub all : moves ≡ before ++ arrival
  pub steps : StepsTo (states_of (original_from old)) old i before boundary
  pub stands : StandsAfter (states_of (original_from old)) i boundary
  pub arrives : IsArrival boundary.at arrival
  pub goes : Goes boundary now arrival lines

pub begun_between : {old now : Machine} {i : ℕ} (before after : Option (List ℕ)) → (between : IsBetween old now i before after) → HasBegun old now i between.ran.moves
unfolding lines_of
begun_between {old} {now} before after between = record {
  boundary = now;
  before = between.ran.moves;
  arrival = [];
  lines = [];
  all = sym (append-nil between.ran.moves);
  steps = between.steps;
  stands = stands_after between;
  arrives = IsArrival.NoArrival refl;
  goes = record { walk = refl; told = refl; numbers = refl };
}

pub begun_entered : {old : Machine} (now : Machine) {new : Machine} {i : ℕ} (before after : Option (List ℕ)) (result : Option End) → (between : IsBetween old now i before after)
    → (entered : HasEntered now new result) → HasBegun old new i (between.ran.moves ++ entered.moves)
begun_entered now before after result between entered = record {
  boundary = now;
  before = between.ran.moves;
  arrival = entered.moves;
  lines = [];
  all = refl;
  steps = between.steps;
  stands = stands_after between;
  arrives = entered.arrives;
  goes = entered.goes;
}

-- nothing more of it is made
pub by_step_begun : {old now : Machine} {i : ℕ} {moves : List Move} → HasBegun old now i moves → IsByStep (states_of (original_from old)) old now i moves
by_step_begun begun = record {
  last = begun.boundary;
  before = begun.before;
  behind = begun.arrival;
  lines = begun.lines;
  all = begun.all;
  steps = begun.steps;
  stands = begun.stands;
  of_step = record { arrival = begun.arrival; own = []; parts = sym (append-nil begun.arrival); arrives = begun.arrives; makes = inl refl };
  goes = begun.goes;
}

-- its moves were made, and lead to the next, or to an end
behind_all : (moves before arrival own : List Move) → moves ≡ before ++ arrival → moves ++ own ≡ before ++ (arrival ++ own)
behind_all moves before arrival own all = ap (λ m. m ++ own) all ∙ append_assoc before arrival own

goes_behind : (old now new : Machine) (i : ℕ) (moves : List Move) (line : Option Line) → (begun : HasBegun old now i moves) → (step : HasStepped now new line)
    → Goes begun.boundary new (begun.arrival ++ step.moves) (begun.lines ++ line_before line [])
goes_behind old now new i moves line begun step = goes_on begun.boundary now new begun.arrival step.moves begun.lines (line_before line []) begun.goes step.goes

pub steps_on : {old now : Machine} (new : Machine) {i : ℕ} {moves : List Move} (line : Option Line) → HasBegun old now i moves → (step : HasStepped now new line)
    → StepsTo (states_of (original_from old)) old (i + 1) (moves ++ step.moves) new
steps_on {old} {now} new {i} {moves} line begun step =
    let next : suc i ≡ i + 1 = omega arith in
    subst (λ n. StepsTo (states_of (original_from old)) old n (moves ++ step.moves) new) next (
      begun.boundary,
      begun.before,
      begun.arrival,
      step.moves,
      begun.lines ++ line_before line [],
      behind_all moves begun.before begun.arrival step.moves begun.all,
      begun.steps,
      begun.stands,
      begun.arrives,
      step.own,
      goes_behind old now new i moves line begun step,
    )

pub by_step_stopped : {old now : Machine} (new : Machine) {i : ℕ} {moves : List Move} (line : Option Line) → HasBegun old now i moves → (step : HasStepped now new line)
    → IsByStep (states_of (original_from old)) old new i (moves ++ step.moves)
by_step_stopped {old} {now} new {i} {moves} line begun step = record {
  last = begun.boundary;
  before = begun.before;
  behind = begun.arrival ++ step.moves;
  lines = begun.lines ++ line_before line [];
  all = behind_all moves begun.before begun.arrival step.moves begun.all;
  steps = begun.steps;
  stands = begun.stands;
  of_step = record { arrival = begun.arrival; own = step.moves; parts = refl; arrives = begun.arrives; makes = inr step.own };
  goes = goes_behind old now new i moves line begun step;
}

-- a machine that is marked as broken behind them
pub by_step_marked : (old new : Machine) (i : ℕ) (moves : List Move) → IsByStep (states_of (original_from old)) old new i moves
    → IsByStep (states_of (original_from old)) old (record new { broken = true }) i moves
by_step_marked old new i moves led = record {
  last = led.last;
  before = led.before;
  behind = led.behind;
  lines = led.lines;
  all = led.all;
  steps = led.steps;
  stands = led.stands;
  of_step = led.of_step;
  goes = record { walk = led.goes.walk; told = led.goes.told; numbers = led.goes.numbers };
}

-- the run so far
unfoldable pub ran_start : (m : Machine) (known : Option (List ℕ)) → Ran m m 0 known known
unfolding lines_of
ran_start m known = record {
  lines = [];
  moves = [];
  goes = record { walk = refl; told = refl; numbers = refl };
  stays = stays_self m;
  broken = refl;
  steps = omega arith;
  put = appends-nothing known;
  run = λ k. ap (original_from m) (add-zero k);
}

pub between_start : (m : Machine) (known : Option (List ℕ)) → IsGoing m → IsQuiet m → IsBetween m m 0 known known
unfolding ran_start
between_start m known ready quiet = record { ran = ran_start m known; last = refl; steps = (refl, refl); ready = ready; quiet = quiet }

-- on by moves that write no line, and of which the original program makes no step
unfoldable pub ran_still : (old : Machine) {now new : Machine} (i : ℕ) {before : Option (List ℕ)} (after : Option (List ℕ)) {later : Option (List ℕ)} {moves : List Move}
    → (ran : Ran old now i before after) → Goes now new moves [] → Stays now new → new.broken ≡ now.broken → new.steps ≡ now.steps → flat_of new ≡ flat_of now
    → Appends before later (lines_text ran.lines) → Ran old new i before later
ran_still old {now} {new} i {before} after {later} {moves} ran goes stays broken steps flat put = record {
  lines = ran.lines;
  moves = ran.moves ++ moves;
  goes = rw (append-nil ran.lines) at (goes_on old now new ran.moves moves ran.lines [] ran.goes goes);
  stays = stays_on old now new ran.stays stays;
  broken = broken ∙ ran.broken;
  steps = steps ∙ ran.steps;
  put = put;
  run = λ k. ran.run k ∙ ap (λ s. behind ran.lines (run (program_of old.kernel) s k)) (sym flat);
}

abbrev pub ran_enter : (old now new : Machine) (i : ℕ) (before after : Option (List ℕ)) (result : Option End) → Ran old now i before after → HasEntered now new result → Ran old new i before after
ran_enter old now new i before after result ran entered = ran_still old i after ran entered.goes entered.stays entered.broken entered.steps entered.flat ran.put

pub lines_text_on : (a b : List Line) → lines_text (a ++ b) ≡ lines_text a ++ lines_text b
lines_text_on a b = flat_map-append device_line_text a b

pub tried_same : (old now : Machine) (t : flat_ends.Next) → Stays old now → next_of (program_of now.kernel) (flat_of now) ≡ t → next_of (program_of old.kernel) (flat_of now) ≡ t
tried_same old now t stays is = ap (λ p. next_of p (flat_of now)) (sym stays.program) ∙ is

pub inside_same : (old now : Machine) → Stays old now → is_own now.kernel.part now.at ≡ true → is_own old.kernel.part now.at ≡ true
inside_same old now stays is = ap (λ (p : Program). is_inside p now.at) (sym stays.program) ∙ is

-- the program has the whole image still
pub unshut_on : {old new : Machine} → Stays old new → old.kernel.part.shut ≡ false → new.kernel.part.shut ≡ false
unshut_on stays is = ap (λ (p : Program). p.part.shut) stays.program ∙ is

unfoldable pub ran_step : {old now : Machine} (new : Machine) {i : ℕ} (line : Option Line) {before after later : Option (List ℕ)} → Ran old now i before after → is_own now.kernel.part now.at ≡ true
    → (step : HasStepped now new line) → new.steps ≡ now.steps + 1
    → next_of (program_of now.kernel) (flat_of now) ≡ flat_ends.On line (flat_of new) → Appends after later (lines_text (line_before line [])) → Ran old new (i + 1) before later
ran_step {old} {now} new {i} line {before} {after} {later} ran inside step steps is put =
    let program = program_of old.kernel in
    let on : (k : ℕ) → run program (flat_of now) (suc k) ≡ with_line line (run program (flat_of new) k) =
    λ k. run_goes program (flat_of now) (flat_of new) k line (inside_same old now ran.stays inside) (tried_same old now _ ran.stays is) in
    record {
      lines = ran.lines ++ line_before line [];
      moves = ran.moves ++ step.moves;
      goes = goes_on old now new ran.moves step.moves ran.lines (line_before line []) ran.goes step.goes;
      stays = stays_on old now new ran.stays step.stays;
      broken = step.broken ∙ ran.broken;
      steps = omega (arith, steps, ran.steps);
      put = rw (lines_text_on ran.lines (line_before line [])) (appends-both before after later (lines_text ran.lines) (lines_text (line_before line [])) ran.put put);
      run = λ k.
          let same : k + (i + 1) ≡ suc k + i = omega arith in
          ap (original_from old) same ∙ ran.run (suc k) ∙ ap (behind ran.lines) (on k) ∙ behind_line ran.lines line (run program (flat_of new) k);
    }

-- what the run is where it ends
pub spent_at : (old now : Machine) (i : ℕ) (before after : Option (List ℕ)) → (ran : Ran old now i before after) → is_own now.kernel.part now.at ≡ true
    → original_from old i ≡ run_of flat_ends.Spent ran.lines (flat_of now)
spent_at old now i before after ran inside =
    ap (original_from old) (sym (nothing i)) ∙ ran.run 0 ∙ ap (behind ran.lines) (run_spent (program_of old.kernel) (flat_of now) (inside_same old now ran.stays inside))
    ∙ behind_ended ran.lines flat_ends.Spent (flat_of now)

-- with any bound that isn't less
pub wild_at : (old now : Machine) (i k : ℕ) (before after : Option (List ℕ)) → (ran : Ran old now i before after) → is_own now.kernel.part now.at ≡ false
    → original_from old (k + i) ≡ run_of (flat_ends.Wild now.at) ran.lines (flat_of now)
wild_at old now i k before after ran outside =
    ran.run k ∙ ap (behind ran.lines) (run_wild (program_of old.kernel) (flat_of now) k (ap (λ (p : Program). is_inside p now.at) (sym ran.stays.program) ∙ outside))
    ∙ behind_ended ran.lines (flat_ends.Wild now.at) (flat_of now)

pub stop_at : (old now : Machine) (i k : ℕ) (before after : Option (List ℕ)) (end : FlatEnd) → (ran : Ran old now i before after)
    → is_own now.kernel.part now.at ≡ true → next_of (program_of now.kernel) (flat_of now) ≡ flat_ends.Ends end → original_from old (suc k + i) ≡ run_of end ran.lines (flat_of now)
stop_at old now i k before after end ran inside is =
    ran.run (suc k) ∙ ap (behind ran.lines) (run_stops (program_of old.kernel) (flat_of now) k end (inside_same old now ran.stays inside) (tried_same old now _ ran.stays is))
    ∙ behind_ended ran.lines end (flat_of now)
