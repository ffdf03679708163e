-- Tasks in turn all end.
use Rattle.std.proofs.Common.{◌≡◌, ℕ, zero, suc, ◌+◌, ◌-◌, ◌<◌, ◌≤◌, Bool, true, false, cond, not, List, [], ◌∷◌, ◌++◌, length, get_or, arith, ap, ◌∙◌, sym, refl, Option, Some, None, inl, inr}
use Rattle.std.specs.Prelude.{All, slice_get, slice_set, is_some, sum_by}
use Rattle.std.specs.List.{range_with_len, find}
use Rattle.std.proofs.lemmas.List.{get_or-map}
use Rattle.std.proofs.lemmas.List.Elements.{All-append, All-head, All-tail}
use Rattle.std.proofs.lemmas.List.FromFn.{get_or-range_with_len, length-range_with_len}
use Rattle.std.proofs.lemmas.List.Sums.{sum_by-cons}
use Rattle.std.proofs.lemmas.Option.{get_or_from_slice_get, slice_get-get_or, slice_get_within}
use Rattle.std.proofs.lemmas.Bool.{cases_eq, cases_lt, not-true}
use Rattle.flat_machine.specs.FlatMachine.{End}
use Rattle.task_turns.specs.Turns.{Player, Turns, After, changed_to, others, has_ended, ends_of, with_player, once, with_told, go_on, tries, turns, HaveEnded}
use Rattle.task_turns.proofs.Isolation.{weight, weight_going, weight_ended, IsOnce, once_follows, set_here}
use Rattle.base.proofs.Searches.{found_first}

-- ---- the next task

pub found_holds : (P : ℕ → Type 0) (f : ℕ → Bool) (xs : List ℕ) (k : ℕ) → All P xs → find f xs ≡ Some k → P k × (f k ≡ true)
found_holds P f [] k all is = absurd (cc)
found_holds P f (x ∷ xs) k all is = elim (found_first (f x) x k (find f xs) is) [
  | inl both ↦ (rw both.1 at (All-head P x xs all), ap f (sym both.1) ∙ both.0)
  | inr later ↦ found_holds P f xs k (All-tail P x xs all) later
]

none_by : (test : Bool) (x : ℕ) {rest : Option ℕ} → cond test (Some x) rest ≡ None → (test ≡ false) × (rest ≡ None)
none_by true x is = absurd (cc)
none_by false x is = (refl, is)

none_passes : (f : ℕ → Bool) (xs ys : List ℕ) (k : ℕ) → find f (xs ++ ys) ≡ None → k < length xs → f (get_or xs k 0) ≡ false
none_passes f [] ys k is below = absurd (omega arith)
none_passes f (x ∷ xs) ys zero is below = (none_by (f x) x is).0
none_passes f (x ∷ xs) ys (suc k) is below = none_passes f xs ys k (none_by (f x) x is).1 (omega arith)

none_behind : (f : ℕ → Bool) (xs ys : List ℕ) (k : ℕ) → find f (xs ++ ys) ≡ None → k < length ys → f (get_or ys k 0) ≡ false
none_behind f [] [] k is below = absurd (omega arith)
none_behind f [] (y ∷ ys) zero is below = (none_by (f y) y is).0
none_behind f [] (y ∷ ys) (suc k) is below = none_behind f [] ys k (none_by (f y) y is).1 (omega arith)
none_behind f (x ∷ xs) ys k is below = none_behind f xs ys k (none_by (f x) x is).1 below

pub in_range : (a n m : ℕ) → a + n ≤ m → All (λ k. k < m) (range_with_len a n)
in_range a n m fits = λ k d below.
    let inside : k < n = omega (arith, length-range_with_len a n) in
    let at : get_or (range_with_len a n) k d ≡ a + k = get_or-range_with_len a n k d inside in
    omega arith

not_false : (b : Bool) → not b ≡ false → b ≡ true
not_false true is = refl
not_false false is = absurd (cc)

pub ended_at : (t : Turns) (k : ℕ) (p : Player) → slice_get t.players k ≡ Some p → has_ended (ends_of t) k ≡ is_some p.end
ended_at t k p there =
    ap is_some (get_or-map (λ (q : Player). q.end) t.players k p None (slice_get_within t.players k p there) ∙ ap (λ (q : Player). q.end) (get_or_from_slice_get t.players k p p there))

-- the task that is stepped is one of them, and has ended only where all have
pub record Ready (t : Turns) : Type 0 where
  pub p : Player
  pub there : slice_get t.players t.running ≡ Some p
  pub over : is_some p.end ≡ true → HaveEnded t

all_by : (t : Turns) (p : Player) → slice_get t.players t.running ≡ Some p → find (λ task. not (has_ended (ends_of t) task)) (others t.running (length t.players)) ≡ None → is_some p.end ≡ true
    → HaveEnded t
all_by t p there none over = λ k q here.
    let f : ℕ → Bool = λ task. not (has_ended (ends_of t) task) in
    let n = length t.players in
    let behind = range_with_len (t.running + 1) (n - (t.running + 1)) in
    let before = range_with_len 0 t.running in
    let below = slice_get_within t.players k q here in
    sym (ended_at t k q here) ∙ elim (cases_lt k t.running) [
      | inl less ↦
          let k_is : 0 + k ≡ k = omega arith in
          let at : get_or before k 0 ≡ k = get_or-range_with_len 0 t.running k 0 less ∙ k_is in
          let long : k < length before = omega (arith, length-range_with_len 0 t.running) in
          not_false (has_ended (ends_of t) k) (ap f (sym at) ∙ none_behind f behind before k none long)
      | inr ge ↦ elim (cases_eq k t.running) [
        | inl same ↦
            let its : Some q ≡ Some p = sym here ∙ ap (slice_get t.players) same ∙ there in
            let one : q ≡ p = cc in
            ended_at t k q here ∙ ap (λ (z : Player). is_some z.end) one ∙ over
        | inr apart ↦
            let more : t.running < k = omega arith in
            let inside : k - (t.running + 1) < n - (t.running + 1) = omega arith in
            let at : get_or behind (k - (t.running + 1)) 0 ≡ t.running + 1 + (k - (t.running + 1)) = get_or-range_with_len (t.running + 1) (n - (t.running + 1)) (k - (t.running + 1)) 0 inside in
            let k_is : t.running + 1 + (k - (t.running + 1)) ≡ k = omega arith in
            let long : k - (t.running + 1) < length behind = omega (arith, length-range_with_len (t.running + 1) (n - (t.running + 1))) in
            not_false (has_ended (ends_of t) k) (ap f (sym (at ∙ k_is)) ∙ none_passes f behind before (k - (t.running + 1)) none long)
      ]
    ]

ready_by : (t : Turns) (p : Player) (found : Option ℕ) → slice_get t.players t.running ≡ Some p → find (λ task. not (has_ended (ends_of t) task)) (others t.running (length t.players)) ≡ found
    → Ready (changed_to t found)
ready_by t p None there is = record { p = p; there = there; over = λ ended. all_by t p there is ended }
ready_by t p (Some k) there is =
    let n = length t.players in
    let inside = slice_get_within t.players t.running p there in
    let all : All (λ j. j < n) (others t.running (length t.players)) =
    All-append (λ j. j < n) (range_with_len (t.running + 1) (n - (t.running + 1))) (range_with_len 0 t.running) (in_range (t.running + 1) (n - (t.running + 1)) n (omega arith))
    (in_range 0 t.running n (omega arith)) in
    let holds = found_holds (λ j. j < n) (λ task. not (has_ended (ends_of t) task)) (others t.running (length t.players)) k all is in
    let q = get_or t.players k p in
    let here : slice_get t.players k ≡ Some q = slice_get-get_or t.players k p holds.0 in
    record {
      p = q;
      there = here;
      over = λ ended.
          let not_yet : is_some q.end ≡ false = sym (ended_at t k q here) ∙ not-true (has_ended (ends_of t) k) holds.1 in
          absurd (let both : ◌≡◌ {A = Bool} true false = sym ended ∙ not_yet in absurd (cc));
    }

none_ended : (e : Option End) → e ≡ None → is_some e ≡ true → ⊥
none_ended None is ended = cc
none_ended (Some end) is ended = cc

pub ready_once : (t : Turns) (p : Player) (a : After) → slice_get t.players t.running ≡ Some p → (one : IsOnce t p a) → Ready a.turns
ready_once t p a there one =
    let here : slice_get (with_player t one.q).players t.running ≡ Some one.q = set_here t.players t.running p one.q there in
    elim one.next [
      | inl is ↦ rw is (ready_by (with_player t one.q) one.q (find (λ task. not (has_ended (ends_of (with_player t one.q)) task))
          (others (with_player t one.q).running (length (with_player t one.q).players))) here refl)
      | inr both ↦ rw both.0 (record { p = one.q; there = here; over = λ ended. absurd (none_ended one.q.end both.1 ended) })
    ]

-- ---- how many tries there may be

unfoldable pub still : List Player → ℕ
still [] = 0
still (p ∷ players) = weight p + still players

pub still_set : (players : List Player) (r : ℕ) (p q : Player) → slice_get players r ≡ Some p → weight q + 1 ≤ weight p → still (slice_set players r q) + 1 ≤ still players
unfolding still
still_set [] r p q is less = absurd (cc)
still_set (y ∷ players) zero p q is less =
    let its : y ≡ p = cc in
    let same : weight y ≡ weight p = ap weight its in
    omega arith
still_set (y ∷ players) (suc r) p q is less = omega (arith, still_set players r p q is less)

weight_none : (p : Player) (end : Option End) → p.end ≡ end → weight p ≤ 0 → is_some end ≡ true
weight_none p None is none = absurd (omega (arith, weight_going p is))
weight_none p (Some end) is none = refl

pub still_none : (players : List Player) (k : ℕ) (p : Player) → still players ≤ 0 → slice_get players k ≡ Some p → is_some p.end ≡ true
unfolding still
still_none [] k p none is = absurd (cc)
still_none (y ∷ players) zero p none is =
    let its : y ≡ p = cc in
    ap (λ (z : Player). is_some z.end) (sym its) ∙ weight_none y y.end refl (omega arith)
still_none (y ∷ players) (suc k) p none is = still_none players k p (omega arith) is

ends_by : (t : Turns) (r : Player) (n : ℕ) (end : Option End) → r.end ≡ end → slice_get t.players t.running ≡ Some r → still t.players ≤ suc n → (is_some end ≡ true → HaveEnded t)
    → ((next : Turns) → still next.players ≤ n → Ready next → HaveEnded (tries n next).turns)
    → HaveEnded (cond (is_some end) (record { told = []; turns = t }) (with_told (once t r).told (tries n (once t r).turns))).turns
ends_by t r n (Some end) going there most over rest = over refl
ends_by t r n None going there most over rest =
    let one = once_follows t r going in
    let fewer : still (once t r).turns.players ≤ n = omega (arith, ap still one.players, still_set t.players t.running r one.q there one.less) in
    rest (once t r).turns fewer (ready_once t r (once t r) there one)

ends_found : (t : Turns) (r : Player) (n : ℕ) (found : Option Player) → slice_get t.players t.running ≡ found → found ≡ Some r → still t.players ≤ suc n → (is_some r.end ≡ true → HaveEnded t)
    → ((next : Turns) → still next.players ≤ n → Ready next → HaveEnded (tries n next).turns) → HaveEnded (go_on t found (tries n)).turns
ends_found t r n None there is most over rest = absurd (cc)
ends_found t r n (Some s) there is most over rest =
    let its : s ≡ r = cc in
    let over_s : is_some s.end ≡ true → HaveEnded t = λ ended. over (ap (λ (z : Player). is_some z.end) (sym its) ∙ ended) in
    ends_by t s n s.end refl there most over_s rest

all_end : (n : ℕ) (t : Turns) → still t.players ≤ n → Ready t → HaveEnded (tries n t).turns
unfolding tries
all_end zero t none ready = λ task p there. still_none t.players task p none there
all_end (suc n) t most ready = ends_found t ready.p n (slice_get t.players t.running) refl ready.there most ready.over (λ next fewer its. all_end n next fewer its)

weight_most : (p : Player) (end : Option End) → p.end ≡ end → weight p ≤ p.left + 1
weight_most p None is = omega (arith, weight_going p is)
weight_most p (Some end) is = omega (arith, weight_ended p end is)

pub still_sum : (players : List Player) → still players ≤ sum_by (λ p. p.left + 1) players
unfolding still
still_sum [] = omega arith
still_sum (p ∷ players) = omega (arith, still_sum players, weight_most p p.end refl, sum_by-cons (λ (q : Player). q.left + 1) p players)

-- each task ends, where the one that is stepped first has not ended
pub turns_end : (t : Turns) (p : Player) → slice_get t.players t.running ≡ Some p → p.end ≡ None → HaveEnded (turns t).turns
turns_end t p there going =
    all_end (sum_by (λ p. p.left + 1) t.players) t (still_sum t.players) (record { p = p; there = there; over = λ ended. absurd (none_ended p.end going ended) })
