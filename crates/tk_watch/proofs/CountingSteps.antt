-- The steps counted so far.
use Rattle.std.proofs.Common.{◌≡◌, ℕ, zero, suc, ◌+◌, ◌<◌, ◌≤◌, Bool, true, false, cond, List, [], length, refl, sym, ap, ◌∙◌, arith}
use Rattle.std.specs.Prelude.{◌==◌, ◌&&◌, nat_lt, slice_index, slice_set, Option, Some, None}
use Rattle.std.proofs.lemmas.Bool.{eq-eqb, eqb-true, lt-ltb}
use Rattle.std.proofs.lemmas.List.{get_or-set_same, get_or-set_other}
use Rattle.mote_devices.specs.declared.line.Line.{Line}
use Rattle.flat_machine.specs.FlatMachine.{Run, Moment}
use Rattle.kernel_entry.specs.declared.kernel.End.{End}
use Rattle.program_steps.specs.Machines.{Machine}
use Rattle.program_steps.specs.Ready.{IsGoing, IsQuiet}
use Rattle.program_steps.specs.Stepping.{HasBound}
use Rattle.tk_run.specs.Running.{original_from}
use Rattle.tk_run.proofs.RunSoFar.{IsBetween, between_start}
use Rattle.tk_watch.specs.Turning.{HasTurned}
use Rattle.tk_watch.specs.ProfileText.{begins_at, times_at}
use Rattle.tk_watch.specs.Watching.{HasCounted}
use Rattle.tk_watch.specs.declared.view.View.TheVariants.{Profile}
use Rattle.tk_watch.proofs.Turns.{AreUntold, HasEnded, gone, ended, bound, left, some_steps}

profile_untold : (i count : ℕ) → AreUntold Profile i count
profile_untold i count step from to = tt

-- one step more, which begins at an address
times_by : (runs : ℕ → Run) (a k : ℕ) (done : Bool) → nat_lt (runs k).state.now.steps (runs (suc k)).state.now.steps ≡ done → done ≡ true
    → times_at runs a (suc k) ≡ cond ((runs k).state.now.cpu.pc == a) (times_at runs a k + 1) (times_at runs a k)
times_by runs a k done is all = ap (λ b. cond (b && ((runs k).state.now.cpu.pc == a)) (times_at runs a k + 1) (times_at runs a k)) (is ∙ all)

pub times_on : (runs : ℕ → Run) (a k m : ℕ) → m ≡ suc k → nat_lt (runs k).state.now.steps (runs m).state.now.steps ≡ true
    → times_at runs a m ≡ cond ((runs k).state.now.cpu.pc == a) (times_at runs a k + 1) (times_at runs a k)
times_on runs a k m is more = rw is (times_by runs a k true (rw is at more) refl)

pub record IsCountedSoFar (old now : Machine) (i : ℕ) (counts : List ℕ) : Type 0 where
  pub text : List ℕ
  pub between : IsBetween old now i (Some []) (Some text)
  pub counted : (a : ℕ) → a < 65536 → slice_index counts a ≡ times_at (original_from old) a i

pub counted_start : (m : Machine) (counts : List ℕ) → IsGoing m → IsQuiet m → ((a : ℕ) → a < 65536 → slice_index counts a ≡ 0) → IsCountedSoFar m m 0 counts
counted_start m counts ready quiet none = record { text = []; between = between_start m (Some []) ready quiet; counted = none }

-- no count is above the number of steps
most_by : (b : Bool) (t k : ℕ) → t ≤ k → cond b (t + 1) t ≤ suc k
most_by true t k few = omega (arith, few)
most_by false t k few = omega (arith, few)

pub times_most : (runs : ℕ → Run) (a n : ℕ) → times_at runs a n ≤ n
times_most runs a zero = omega arith
times_most runs a (suc k) = most_by (begins_at runs a k) (times_at runs a k) k (times_most runs a k)

-- one count is raised
raised_by : (same : Bool) (counts : List ℕ) (at a now : ℕ) → (at == a) ≡ same → at < length counts → slice_index counts a ≡ now
    → slice_index (slice_set counts at (slice_index counts at + 1)) a ≡ cond (at == a) (now + 1) now
raised_by true counts at a now is inside was =
    let here : at ≡ a = eqb-true at a is in
    rw (← here) (get_or-set_same counts at (slice_index counts at + 1) 0 inside ∙ ap (λ n. n + 1) (ap (slice_index counts) here ∙ was)
    ∙ sym (ap (λ b. cond b (now + 1) now) (ap (λ k. at == k) here ∙ is)))
raised_by false counts at a now is inside was =
    get_or-set_other counts at a (slice_index counts at + 1) 0 (λ same. let e : true ≡ false = sym (eq-eqb at a (sym same)) ∙ is in absurd (cc)) ∙ was ∙ sym (ap (λ b. cond b (now + 1) now) is)

counted_end : {old new : Machine} {i count n : ℕ} {end : End} {counts : List ℕ} → old.steps ≡ 0 → count ≤ 1 → HasEnded Profile old new i count n end
    → ((a : ℕ) → a < 65536 → slice_index counts a ≡ times_at (original_from old) a i) → HasCounted old new n counts end
counted_end {old} {new} {i} begins few over counted =
    let all : i ≡ new.steps = omega (arith, over.steps, over.one few, begins) in
    record { text = over.text; advanced = over.advanced; counted = λ a low. counted a low ∙ ap (times_at (original_from old) a) all }

module _ {old now new : Machine} {i count : ℕ} {line : Option Line} {counts : List ℕ} (few : count ≤ 1) (way : IsCountedSoFar old now i counts) (turned : HasTurned now new count line) where
  -- behind a turn of one step
  pub counted_turned : length counts ≡ 65536 → now.at < 65536 → new.end ≡ None → IsCountedSoFar old new (i + count) (slice_set counts now.at (slice_index counts now.at + 1))
  counted_turned size inside going =
      let runs = original_from old in
      let on = gone {view = Profile} (profile_untold i count) way.between turned going in
      let before = left way.between.ran in
      let after = left on.between.ran in
      let some = some_steps turned going in
      let steps : (runs i).state.now.steps < (runs (i + count)).state.now.steps =
      omega (arith, some, ap (λ (s : Moment). s.now.steps) before, ap (λ (s : Moment). s.now.steps) after, way.between.ran.steps, on.between.ran.steps) in
      record {
        text = on.text;
        between = on.between;
        counted = λ a low.
            raised_by (now.at == a) counts now.at a (times_at runs a i) refl (omega (arith, size, inside)) (way.counted a low)
            ∙ sym (times_on runs a i (i + count) (omega (arith, few, some)) (lt-ltb (runs i).state.now.steps (runs (i + count)).state.now.steps steps)
            ∙ ap (λ pc. cond (pc == a) (times_at runs a i + 1) (times_at runs a i)) (ap (λ (s : Moment). s.now.cpu.pc) before));
      }

  -- at an end
  pub counted_ended : {n : ℕ} {end : End} → old.steps ≡ 0 → old.end ≡ None → old.broken ≡ false → i < n → new.end ≡ Some end → HasCounted old new n counts end
  counted_ended begins going whole below over = counted_end begins few (ended (profile_untold i count) going whole below (omega (arith, below, few)) way.between turned over) way.counted

pub counted_bound : {old now new : Machine} {n : ℕ} {end : End} {counts : List ℕ} → old.steps ≡ 0 → old.end ≡ None → old.broken ≡ false → IsCountedSoFar old now n counts → HasBound now new end
    → HasCounted old new n counts end
counted_bound {n = n} begins going whole way is = counted_end {count = 0} begins (omega arith) (bound going whole way.between is) way.counted
