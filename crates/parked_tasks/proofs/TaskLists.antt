-- What is parked of one of the tasks.
use Rattle.std.proofs.Common.{◌≡◌, ℕ, zero, suc, ◌<◌, List, [], ◌∷◌, length, refl, sym, ap, ◌∙◌, arith}
use Rattle.std.specs.Prelude.{◌≢◌, slice_get, slice_set, slice_index_or, sum_by, Option, Some, None}
use Rattle.std.proofs.lemmas.Option.{get_or_from_slice_get, slice_get-get_or}
use Rattle.parked_tasks.specs.declared.parked.Parked.{Parked}
use Rattle.parked_tasks.specs.declared.task.Task.{Task}
use Rattle.mote_core.specs.declared.mote.Mote.{Mote}
use Rattle.parked_tasks.specs.Parking.{parked_of}
use Rattle.parked_tasks.specs.Handing.{parking, with_parked, parked_by, handed_over}
use Rattle.parked_tasks.proofs.Sums.{sum_set}

pub is_at : (tasks : List Task) (i : ℕ) (x task : Task) → x ≡ slice_index_or tasks i x → slice_get tasks i ≡ Some task → x ≡ task
is_at tasks i x task is there = is ∙ get_or_from_slice_get tasks i task x there

pub get_at : (tasks : List Task) (i : ℕ) (x : Task) → i < length tasks → x ≡ slice_index_or tasks i x → slice_get tasks i ≡ Some x
get_at tasks i x below is = slice_get-get_or tasks i x below ∙ ap (λ z. Some z) (sym is)

pub parking_here : (tasks : List Task) (i : ℕ) (parked : Option Parked) (task : Task) → slice_get tasks i ≡ Some task
    → slice_get (parking tasks i parked (slice_get tasks i)) i ≡ Some (record task { parked = parked })
parking_here [] i parked task is = absurd (cc)
parking_here (t ∷ tasks) zero parked task is = let e : t ≡ task = cc in ap (λ (x : Task). Some (record x { parked = parked })) e
parking_here (t ∷ tasks) (suc i) parked task is =
    ap (λ o. slice_get (parking (t ∷ tasks) (suc i) parked o) (suc i)) is ∙ ap (λ o. slice_get (parking tasks i parked o) i) (sym is) ∙ parking_here tasks i parked task is

pub elsewhere_by : {T : Type 0} → (tasks : List T) (i k : ℕ) (x : T) → k ≢ i → slice_get (slice_set tasks i x) k ≡ slice_get tasks k
elsewhere_by [] i k x apart = refl
elsewhere_by (t ∷ tasks) zero zero x apart = absurd (apart refl)
elsewhere_by (t ∷ tasks) zero (suc k) x apart = refl
elsewhere_by (t ∷ tasks) (suc i) zero x apart = refl
elsewhere_by (t ∷ tasks) (suc i) (suc k) x apart = elsewhere_by tasks i k x (λ e. apart (ap suc e))

pub parking_elsewhere : (tasks : List Task) (i k : ℕ) (parked : Option Parked) (o : Option Task) → k ≢ i → slice_get (parking tasks i parked o) k ≡ slice_get tasks k
parking_elsewhere tasks i k parked None apart = refl
parking_elsewhere tasks i k parked (Some task) apart = elsewhere_by tasks i k (record task { parked = parked }) apart

pub length_by : (tasks : List Task) (i : ℕ) (x : Task) → length (slice_set tasks i x) ≡ length tasks
length_by [] i x = refl
length_by (t ∷ tasks) zero x = refl
length_by (t ∷ tasks) (suc i) x = ap (λ n. suc n) (length_by tasks i x)

pub parking_length : (tasks : List Task) (i : ℕ) (parked : Option Parked) (o : Option Task) → length (parking tasks i parked o) ≡ length tasks
parking_length tasks i parked None = refl
parking_length tasks i parked (Some task) = length_by tasks i (record task { parked = parked })

-- nothing is counted with it
abbrev pub IsUnparked : (Task → ℕ) → Type 0
IsUnparked f = (task : Task) (parked : Option Parked) → f (record task { parked = parked }) ≡ f task

pub parking_sum : (f : Task → ℕ) (tasks : List Task) (i : ℕ) (parked : Option Parked) (o : Option Task) → IsUnparked f → slice_get tasks i ≡ o → sum_by f (parking tasks i parked o) ≡ sum_by f tasks
parking_sum f tasks i parked None same is = refl
parking_sum f tasks i parked (Some task) same is = omega (arith, sum_set f tasks i task (record task { parked = parked }) is, same task parked)

-- a task that gets something else parked in its place
abbrev pub put : List Task → ℕ → Option Parked → Task → List Task
put tasks i parked x = slice_set tasks i (record (slice_index_or tasks i x) { parked = parked })

put_at : (tasks : List Task) (i : ℕ) (parked : Option Parked) (x : Task) → i < length tasks → put tasks i parked x ≡ with_parked tasks i parked
put_at tasks i parked x below = sym (ap (λ o. parking tasks i parked o) (slice_get-get_or tasks i x below))

-- what is parked of the next task goes, and the mote is parked of the running one
pub handed : (tasks : List Task) (running next : ℕ) (x y : Task) (left : Option Parked) (back : Parked) (mote : Mote) → next < length tasks → running < length tasks
    → left ≡ None → back ≡ parked_of mote → put (put tasks next left x) running (Some back) y ≡ handed_over tasks running next mote
handed tasks running next x y left back mote below runs is_left is_back =
    let given = with_parked tasks next None in
    ap (λ l. put l running (Some back) y) (ap (λ o. put tasks next o x) is_left ∙ put_at tasks next None x below)
    ∙ ap (λ p. put given running (Some p) y) is_back
    ∙ put_at given running (Some (parked_of mote)) y (omega (arith, runs, parking_length tasks next None (slice_get tasks next)))

-- what was parked of the next task
pub was_parked : (tasks : List Task) (next : ℕ) (x : Task) {parked : Parked} → next < length tasks → Some parked ≡ (slice_index_or tasks next x).parked → parked_by (slice_get tasks next) ≡ Some parked
was_parked tasks next x below value = ap parked_by (slice_get-get_or tasks next x below) ∙ sym value

pub same_parked : (o : Option Parked) (p q : Parked) → o ≡ Some p → o ≡ Some q → p ≡ q
same_parked o p q is is' = cc
