-- The next task that has not ended.
use Rattle.std.proofs.Common.{◌≡◌, ℕ, suc, ◌+◌, ◌-◌, ◌<◌, ◌≤◌, Bool, true, false, cond, not, List, ◌∷◌, length, refl, sym, ap, ◌∙◌, arith}
use Rattle.std.specs.Prelude.{◌≢◌, All, map, is_some, slice_index_or, Option, Some, None}
use Rattle.std.specs.List.{range_with_len, find}
use Rattle.std.proofs.lemmas.List.{get_or-map}
use Rattle.std.proofs.lemmas.List.Elements.{All-append}
use Rattle.std.proofs.lemmas.List.FromFn.{get_or-range_with_len, length-range_with_len}
use Rattle.parked_tasks.specs.declared.task.Task.{Task}
use Rattle.parked_tasks.specs.declared.task.TaskEnd.{TaskEnd}
use Rattle.task_turns.specs.Turns.{has_ended, next_in, others}
use Rattle.task_turns.proofs.Ending.{found_holds}
use Rattle.parked_tasks.specs.Ends.{flat_end_of}

-- one of them has ended or not
some_end : (end : Option TaskEnd) → is_some (flat_end_of end) ≡ is_some end
some_end None = refl
some_end (Some end) = refl

abbrev pub goes_in : List Task → ℕ → Bool
goes_in tasks i = not (has_ended (map (λ (x : Task). flat_end_of x.end) tasks) i)

goes_by : (tasks : List Task) (i : ℕ) (x : Task) → i < length tasks → x ≡ slice_index_or tasks i x → goes_in tasks i ≡ not (is_some x.end)
goes_by tasks i x below is = (ap (λ e. not (is_some e)) (get_or-map (λ (y : Task). flat_end_of y.end) tasks i x None below ∙ ap (λ (y : Task). flat_end_of y.end) (sym is))) ∙ ap not (some_end x.end)

range_step : (a n : ℕ) → a < n → range_with_len a (n - a) ≡ a ∷ range_with_len (a + 1) (n - (a + 1))
range_step a n less = let more : n - a ≡ suc (n - (a + 1)) = omega arith in ap (range_with_len a) more

cond_true : (test : Bool) (x : ℕ) (rest : Option ℕ) → test ≡ true → cond test (Some x) rest ≡ Some x
cond_true true x rest is = refl
cond_true false x rest is = absurd (cc)

cond_false : (test : Bool) (x : ℕ) (rest : Option ℕ) → test ≡ false → cond test (Some x) rest ≡ rest
cond_false true x rest is = absurd (cc)
cond_false false x rest is = refl

-- the first that goes on, from this one or from the next
pub first_here : (tasks : List Task) (i n : ℕ) (x : Task) → i < n → n ≤ length tasks → x ≡ slice_index_or tasks i x → is_some x.end ≡ false → find (goes_in tasks) (range_with_len i (n - i)) ≡ Some i
first_here tasks i n x less inside is going =
    ap (find (goes_in tasks)) (range_step i n less) ∙ cond_true (goes_in tasks i) i (find (goes_in tasks) (range_with_len (i + 1) (n - (i + 1)))) (goes_by tasks i x (omega arith) is ∙ ap not going)

pub first_later : (tasks : List Task) (i n : ℕ) (x : Task) → i < n → n ≤ length tasks → x ≡ slice_index_or tasks i x → is_some x.end ≡ true
    → find (goes_in tasks) (range_with_len i (n - i)) ≡ find (goes_in tasks) (range_with_len (i + 1) (n - (i + 1)))
first_later tasks i n x less inside is over =
    ap (find (goes_in tasks)) (range_step i n less) ∙ cond_false (goes_in tasks i) i (find (goes_in tasks) (range_with_len (i + 1) (n - (i + 1)))) (goes_by tasks i x (omega arith) is ∙ ap not over)

pub first_none : (tasks : List Task) (i n : ℕ) → n ≤ i → find (goes_in tasks) (range_with_len i (n - i)) ≡ None
first_none tasks i n less = ap (find (goes_in tasks)) (let none : n - i ≡ 0 = omega arith in ap (range_with_len i) none)

-- one of the others, which has not ended
pub record IsNext (running : ℕ) (tasks : List Task) (next : ℕ) : Type 0 where
  pub below : next < length tasks
  pub apart : next ≢ running
  pub going : goes_in tasks next ≡ true

pub is_next : (r : ℕ) (tasks : List Task) (next : ℕ) → r < length tasks → next_in r (length tasks) (map (λ (x : Task). flat_end_of x.end) tasks) ≡ Some next → IsNext r tasks next
is_next r tasks next one is =
    let n = length tasks in
    let P : ℕ → Type 0 = λ j. (j < n) × (j ≢ r) in
    let behind : All P (range_with_len (r + 1) (n - (r + 1))) = λ k d below.
    let inside : k < n - (r + 1) = omega (arith, length-range_with_len (r + 1) (n - (r + 1))) in
    let at = get_or-range_with_len (r + 1) (n - (r + 1)) k d inside in
    (omega arith, λ e. omega arith) in
    let before : All P (range_with_len 0 r) = λ k d below.
    let inside : k < r = omega (arith, length-range_with_len 0 r) in
    let at = get_or-range_with_len 0 r k d inside in
    (omega arith, λ e. omega arith) in
    let holds = found_holds P (goes_in tasks) (others r n) next (All-append P (range_with_len (r + 1) (n - (r + 1))) (range_with_len 0 r) behind before) is in
    record { below = holds.0.0; apart = holds.0.1; going = holds.1 }
