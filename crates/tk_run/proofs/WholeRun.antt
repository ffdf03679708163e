-- A whole run, from a start to its answer.
use Rattle.std.proofs.Common.{◌≡◌, ℕ, zero, suc, ◌+◌, ◌≤◌, List, [], length, refl, sym, ap, ◌∙◌, arith, subst}
use Rattle.std.specs.Prelude.{◌^◌, Option, Some, None, Result, Ok, Err}
use Rattle.std.proofs.lemmas.Bool.{false_from_ne_true}
use Rattle.hex_image.specs.Image.{IsImage}
use Rattle.flash_words.specs.Memory.{Memory}
use Rattle.flash_words.specs.Layouts.{layout_of}
use Rattle.flash_words.specs.Operations.{is_listed}
use Rattle.nat_page.specs.Faithful.{IsFaithful}
use Rattle.input_script.specs.Script.{Schedule}
use Rattle.mote_devices.specs.declared.line.Line.{Line}
use Rattle.flat_machine.specs.FlatMachine.{Program, Run, original}
use Rattle.flat_machine.specs.FlatMachine as flat_ends
use Rattle.kernel_entry.specs.declared.kernel.Stop.{Stop}
use Rattle.kernel_entry.specs.declared.kernel.Stop.TheVariants as stops
use Rattle.kernel_entry.specs.declared.kernel.End.{End}
use Rattle.kernel_entry.specs.declared.kernel.End.TheVariants as ends
use Rattle.kernel_entry.specs.Seen.{end_of, program as program_of}
use Rattle.byte_streams.specs.declared.failure.Failed.{Failed}
use Rattle.step_laws.specs.Numbers.{Numbers}
use Rattle.step_laws.proofs.NumberLaws.{unmoved}
use Rattle.tk_run.proofs.Advancing.{no_end, others_led}
use Rattle.program_steps.specs.Machines.{Machine, numbers_of, flat_of}
use Rattle.program_steps.specs.Ready.{AreTried, IsKept}
use Rattle.program_steps.specs.Stepping.{Stays}
use Rattle.step_laws.specs.Moves.{Move}
use Rattle.tk_run.specs.Running.{Leads, states_of, StandsAfter, StepsTo, IsByStep, HasAdvanced, HasRun, original_from, run_of, flat_end}
use Rattle.tk_run.specs.Booted.{booted, started, started_over}
use Rattle.tk_run.specs.WholeRuns.{program_at, IsAt, IsExactRun, IsFailedRun, IsCutRun, HasWhole, HasWholeFrom, HasWholeOver, IsKeptEnd}
use Rattle.program_steps.proofs.Beginning.{IsBegun}
use Rattle.tk_run.proofs.Booting.{begun_boot, begun_over, program_start, run_start}

-- a machine that has done nothing yet, and stands for the original program at reset
pub record IsStart (start : Machine) (own : Program) (run : ℕ → Run) (failing : List ℕ) : Type 0 where
  pub steps : start.steps ≡ 0
  pub going : start.end ≡ None
  pub failing_is : start.kernel.mote.flash.failing ≡ failing
  pub program : program_of start.kernel ≡ own
  pub run_is : (n : ℕ) → original_from start n ≡ run n

-- moves that lead, and write these lines
leads_as : (x y : Machine) (lines lines' : List Line) → (leads : Leads x lines y) → lines ≡ lines' → (path : Leads x lines' y) × (path.moves ≡ leads.moves)
leads_as x y lines lines' leads same =
    (record { moves = leads.moves; goes = record { walk = leads.goes.walk; told = leads.goes.told ∙ same; numbers = leads.goes.numbers }; last = leads.last }, refl)

-- its moves, step by step, beside another run that has the same steps
stands_as : (run run' : ℕ → Run) → ((k : ℕ) → run k ≡ run' k) → (n : ℕ) (m : Machine) → StandsAfter (states_of run) n m → StandsAfter (states_of run') n m
stands_as run run' same n m stands = record { ready = stands.ready; quiet = stands.quiet; stands = stands.stands ∙ ap (λ (r : Run). r.state) (same n) }

steps_as : (run run' : ℕ → Run) → ((k : ℕ) → run k ≡ run' k) → (first z : Machine) (n : ℕ) (moves : List Move) → StepsTo (states_of run) first n moves z → StepsTo (states_of run') first n moves z
steps_as run run' same first z zero moves steps = steps
steps_as run run' same first z (suc n) moves (y, before, arrival, own, lines, all, steps, stands, arrives, makes, goes) =
    (y, before, arrival, own, lines, all, steps_as run run' same first y n before steps, stands_as run run' same n y stands, arrives, makes, goes)

by_step_as : (run run' : ℕ → Run) → ((k : ℕ) → run k ≡ run' k) → (start m : Machine) (n : ℕ) (moves : List Move) → IsByStep (states_of run) start m n moves → IsByStep (states_of run') start m n moves
by_step_as run run' same start m n moves led = record {
  last = led.last;
  before = led.before;
  behind = led.behind;
  lines = led.lines;
  all = led.all;
  steps = steps_as run run' same start led.last n led.before led.steps;
  stands = stands_as run run' same n led.last led.stands;
  of_step = led.of_step;
  goes = led.goes;
}

-- where a machine stands that a start has led to
at_of : {start : Machine} {own : Program} {run : ℕ → Run} {failing : List ℕ} (k done : ℕ) (lines : List Line) {m : Machine} → IsStart start own run failing → Stays start m
    → (leads : Leads start lines m) → m.steps ≡ start.steps + done
    → IsByStep (states_of (original_from start)) start m done leads.moves → lines ≡ (run k).lines → flat_of m ≡ (run k).state → IsAt start own run k m
at_of {start} {own} {run} k done lines {m} is stays leads steps by_step same state =
    let path = leads_as start m lines _ leads same in
    let program = stays.program ∙ is.program in
    let done_is : done ≡ m.steps = omega (arith, steps, is.steps) in
    record {
      state = state;
      program = program;
      quantum = ap (λ (p : Program). p.quantum) program;
      path = path.0;
      by_step = rw path.1 (rw done_is at (by_step_as (original_from start) run is.run_is start m done leads.moves by_step));
      began = ap (λ (k : Numbers). k.began) leads.goes.numbers ∙ (unmoved leads.moves (numbers_of start)).0;
      others = others_led leads;
    }

-- what is listed, as flash does
listed_as : {start : Machine} {own : Program} {run : ℕ → Run} {failing : List ℕ} (op : ℕ) {m : Machine} → IsStart start own run failing → Stays start m
    → is_listed failing op ≡ is_listed m.kernel.mote.flash.failing op
listed_as {start} {own} {run} {failing} op is stays = ap (λ failing. is_listed failing op) (sym (stays.failing ∙ is.failing_is))

-- none is refused where the end isn't flash's
none_refused : (m : Machine) → AreTried m.kernel.layout m.kernel.mote.flash m.end m.torn → ((op : ℕ) → m.end ≡ Some (ends.Flash op) → ⊥) → (refused : Option ℕ) → m.kernel.mote.flash.refused ≡ refused
    → refused ≡ None
none_refused m tried unfailed None is = refl
none_refused m tried unfailed (Some page) is = absurd (let fault = tried.refused (λ none. let e : Some page ≡ None = sym is ∙ none in absurd (cc)) in unfailed fault.0 fault.1)

-- a whole run
exact_by : {start : Machine} {own : Program} {run : ℕ → Run} {failing : List ℕ} (n : ℕ) (before after : Option (List ℕ)) {end : End} {m : Machine} → IsStart start own run failing → IsKept m
    → (advanced : HasAdvanced start m n before after (Ok end))
    → (ran : HasRun start m n advanced.leads.moves advanced.lines (Ok end))
    → original_from start n ≡ run_of (flat_end end) advanced.lines (flat_of m) → IsKeptEnd (flat_end end) end m.end → (m.end ≡ None → ran.done ≡ n) → ((op : ℕ) → m.end ≡ Some (ends.Flash op) → ⊥)
    → IsExactRun start own run failing n before after end m
exact_by {start} {own} {run} {failing} n before after {end} {m} is kept advanced ran whole ends all unfailed =
    let same : run n ≡ run_of (flat_end end) advanced.lines (flat_of m) = sym (is.run_is n) ∙ whole in
    let lines : advanced.lines ≡ (run n).lines = sym (ap (λ (r : Run). r.lines) same) in
    let tried = kept.sound.order.tried in
    record {
      within = omega (arith, ran.steps, is.steps, ran.within);
      all = λ spent. omega (arith, ran.steps, is.steps, all (subst (λ e. IsKeptEnd e end m.end) (sym (ap (λ (r : Run). r.end) same) ∙ spent) ends));
      put = rw lines at advanced.put;
      same = sym (ap (λ (r : Run). r.end) same);
      at = at_of n ran.done advanced.lines is advanced.stays advanced.leads ran.steps ran.by_step lines (sym (ap (λ (r : Run). r.state) same));
      unbroken = advanced.broken;
      ready = kept.ready advanced.broken;
      kept = ends;
      unlisted = λ op from to. false_from_ne_true (is_listed failing op) (λ there. unfailed op (tried.listed op from to (sym (listed_as op is advanced.stays) ∙ there)));
      unrefused = none_refused m tried unfailed m.kernel.mote.flash.refused refl;
    }

failed_by : {start : Machine} {own : Program} {run : ℕ → Run} {failing : List ℕ} {n : ℕ} (before after : Option (List ℕ)) (op : ℕ) {m : Machine} → IsStart start own run failing → IsKept m
    → (advanced : HasAdvanced start m n before after (Ok (ends.Flash op)))
    → HasRun start m n advanced.leads.moves advanced.lines (Ok (ends.Flash op)) → IsFailedRun start own run failing n before after op m
failed_by {start} {own} {run} {failing} before after op {m} is kept advanced ran =
    let failed = ran.answers in
    let done : ran.done ≡ m.steps = omega (arith, ran.steps, is.steps) in
    let same : run m.steps ≡ run_of flat_ends.Spent advanced.lines (flat_of m) = ap run (sym done) ∙ sym (is.run_is ran.done) ∙ failed.ran in
    let lines : advanced.lines ≡ (run m.steps).lines = sym (ap (λ (r : Run). r.lines) same) in
    record {
      fewer = omega (arith, done, failed.fewer);
      put = rw lines at advanced.put;
      same = ap (λ (r : Run). r.end) same;
      at = at_of m.steps ran.done advanced.lines is advanced.stays advanced.leads ran.steps ran.by_step lines (sym (ap (λ (r : Run). r.state) same));
      unbroken = advanced.broken;
      ready = kept.ready advanced.broken;
      kept = failed.kept;
      last = failed.fault.last;
      listed = listed_as op is advanced.stays ∙ failed.fault.listed;
      first = λ earlier from below. false_from_ne_true (is_listed failing earlier) (λ there.
          let e : Some (ends.Flash earlier) ≡ Some (ends.Flash op) =
          sym (kept.sound.order.tried.listed earlier from (omega (arith, below, failed.fault.last)) (sym (listed_as earlier is advanced.stays) ∙ there)) ∙ failed.kept in
          let f : earlier ≡ op = cc in
          absurd (omega (arith, below, f)));
      refused = failed.fault.refused;
    }

cut_by : {start : Machine} {own : Program} {run : ℕ → Run} {failing : List ℕ} {n : ℕ} (before after : Option (List ℕ)) {e : Failed} {m : Machine} → IsStart start own run failing → IsKept m
    → (advanced : HasAdvanced start m n before after (Err e))
    → HasRun start m n advanced.leads.moves advanced.lines (Err e) → IsCutRun start own run n before after m
cut_by {start} {own} {run} {failing} {n} before after {e} {m} is kept advanced ran =
    let done : ran.done ≡ m.steps = omega (arith, ran.steps, is.steps) in
    let same : original_from start ran.done ≡ run m.steps = is.run_is ran.done ∙ ap run done in
    let lines : advanced.lines ≡ (run m.steps).lines = sym ran.written ∙ ap (λ (r : Run). r.lines) same in
    record {
      within = omega (arith, done, ran.within);
      at = at_of m.steps ran.done advanced.lines is advanced.stays advanced.leads ran.steps ran.by_step lines (sym ran.left ∙ ap (λ (r : Run). r.state) same);
      over = λ end kept' other. ap (λ (r : Run). r.end) (sym (is.run_is n)) ∙ ran.answers.over end kept' other;
      broken = advanced.broken;
      put = rw lines at advanced.put;
      sound = kept.sound;
    }

stop_kept : (stop : Stop) (m : Machine) → m.end ≡ Some (ends.Stopped stop) → IsKeptEnd (end_of stop) (ends.Stopped stop) m.end
stop_kept (stops.Halted pc) m is = is
stop_kept _ m is = is

whole_by : {start : Machine} {own : Program} {run : ℕ → Run} {failing : List ℕ} {n : ℕ} (before after : Option (List ℕ)) (result : Result End Failed) {m : Machine} → IsStart start own run failing
    → IsKept m → (advanced : HasAdvanced start m n before after result)
    → HasRun start m n advanced.leads.moves advanced.lines result → HasWholeFrom start own run failing n before after result m
whole_by {start} {own} {run} {failing} {n} before after (Ok ends.Spent) is kept advanced ran =
    exact_by n before after is kept advanced ran ran.answers.ran ran.answers.ready.going (λ e. ran.answers.all)
    (λ op failed. let e : Some (ends.Flash op) ≡ None = sym failed ∙ ran.answers.ready.going in absurd (cc))
whole_by {start} {own} {run} {failing} {n} before after (Ok (ends.Wild t)) {m} is kept advanced ran =
    exact_by n before after is kept advanced ran ran.answers.ran ran.answers.kept (λ going. absurd (no_end m (ends.Wild t) ran.answers.kept going))
    (λ op failed. let e : Some (ends.Flash op) ≡ Some (ends.Wild t) = sym failed ∙ ran.answers.kept in absurd (cc))
whole_by before after (Ok (ends.Flash op)) is kept advanced ran = failed_by before after op is kept advanced ran
whole_by {start} {own} {run} {failing} {n} before after (Ok (ends.Stopped stop)) {m} is kept advanced ran =
    exact_by n before after is kept advanced ran ran.answers.ran (stop_kept stop m ran.answers.kept) (λ going. absurd (no_end m (ends.Stopped stop) ran.answers.kept going))
    (λ op failed. let e : Some (ends.Flash op) ≡ Some (ends.Stopped stop) = sym failed ∙ ran.answers.kept in absurd (cc))
whole_by before after (Err e) is kept advanced ran = cut_by before after is kept advanced ran

-- what `advance` leaves of a machine that has done nothing yet
pub run_from_start : {start : Machine} {own : Program} {run : ℕ → Run} {failing : List ℕ} {n : ℕ} {before after : Option (List ℕ)} {result : Result End Failed}
    (m : Machine) → IsStart start own run failing → IsKept start → n ≤ 10 ^ 12
    → HasAdvanced start m n before after result → HasWholeFrom start own run failing n before after result m
run_from_start {start} {own} {run} {failing} {n} {before} {after} {result} m is kept bound advanced =
    whole_by before after result is (advanced.keeps (omega (arith, is.steps)) kept) advanced (advanced.ran is.going)

started_is : {image : List ℕ} {flash : Memory} (script : Schedule) (quantum slots : ℕ) {pages : ℕ} → IsBegun image flash pages
    → IsStart (started image flash script quantum slots pages) (program_at image quantum slots) (original (program_at image quantum slots) script.events) flash.failing
started_is {image} {flash} script quantum slots {pages} begun = record {
  steps = refl;
  going = refl;
  failing_is = refl;
  program = program_start script quantum slots begun;
  run_is = λ n. run_start image flash script quantum slots pages n begun;
}

-- one that has just been booted is such a start
pub booted_is : (image : List ℕ) (script : Schedule) (quantum slots : ℕ) → IsImage image → IsKept (booted image script quantum slots)
    → IsStart (booted image script quantum slots) (program_at image quantum slots) (original (program_at image quantum slots) script.events) script.failing
booted_is image script quantum slots is kept = started_is script quantum slots (begun_boot image script is kept.sound.order.whole)

pub whole_run : (image : List ℕ) (script : Schedule) (quantum slots n : ℕ) (before after : Option (List ℕ)) (result : Result End Failed)
    (m : Machine) → IsImage image → IsKept (booted image script quantum slots) → n ≤ 10 ^ 12
    → HasAdvanced (booted image script quantum slots) m n before after result → HasWhole image script quantum slots n before after result m
whole_run image script quantum slots n before after result m is kept bound advanced = run_from_start m (booted_is image script quantum slots is kept) kept bound advanced

-- .. and one over a flash with a faithful pool
pub over_is : (image : List ℕ) (flash : Memory) (script : Schedule) (quantum slots : ℕ) → IsFaithful (layout_of (length image)) image flash.words
    → IsKept (started_over image flash script quantum slots)
    → IsStart (started_over image flash script quantum slots) (program_at image quantum slots) (original (program_at image quantum slots) script.events) []
over_is image flash script quantum slots faithful kept = started_is script quantum slots (begun_over flash kept.sound.order.whole faithful)

pub run_over : (image : List ℕ) (flash : Memory) (script : Schedule) (quantum slots n : ℕ) (before after : Option (List ℕ)) (result : Result End Failed)
    (m : Machine) → IsFaithful (layout_of (length image)) image flash.words → IsKept (started_over image flash script quantum slots) → n ≤ 10 ^ 12
    → HasAdvanced (started_over image flash script quantum slots) m n before after result → HasWholeOver image flash script quantum slots n before after result m
run_over image flash script quantum slots n before after result m faithful kept bound advanced =
    run_from_start m (over_is image flash script quantum slots faithful kept) kept bound advanced
