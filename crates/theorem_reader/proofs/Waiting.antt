-- A program of several waits for at most one turn of each other.
use Rattle.std.proofs.Common.{◌≡◌, ◌≢◌, ℕ, zero, suc, ◌+◌, ◌-◌, ◌%◌, ◌<◌, ◌≤◌, ◌⊎◌, Bool, true, false, cond, not, List, [], ◌∷◌, ◌++◌, map, length, get_or, Option, Some, None, refl, sym, ap, ◌∙◌}
use Rattle.std.proofs.Common.{subst, arith, inl, inr}
use Rattle.std.specs.Prelude.{◌==◌, ◌&&◌, nat_lt, slice_get, slice_set, is_some}
use Rattle.std.specs.List.{range_with_len, find}
use Rattle.std.proofs.Math.Nat.{div-add-mod', mod-lt, mod-eq_of_lt, mod_self, suc-mod}
use Rattle.std.proofs.Math.Numerals.{suc-eq-add-one}
use Rattle.std.proofs.lemmas.List.{append-nil, length-set}
use Rattle.std.proofs.lemmas.Option.{slice_get_within}
use Rattle.std.proofs.lemmas.Bool.{cases_eq, cases_lt}
use Rattle.std.proofs.lemmas.Bool.Decides.{nat_tests}
use Rattle.input_script.specs.Script.{Schedule}
use Rattle.flat_machine.specs.FlatMachine.{End, FlatState, Moment, Next, Ends, On, next_of}
use Rattle.task_turns.specs.Turns.{Player, Turns, is_checkpoint, rests, played_by, tried_by, others, has_ended, next_in, ends_of, changed_to, changed, with_player, stopped, at_checkpoint, stepped}
use Rattle.task_turns.specs.Turns.{once_by, once, with_told, go_on, tries}
use Rattle.task_turns.proofs.Crossings.{Counts, next_counts}
use Rattle.task_turns.specs.Reset.{players_at_reset}
use Rattle.task_input.specs.Images.{task_words}
use Rattle.task_turns.proofs.Ending.{ended_at}
use Rattle.task_turns.proofs.Isolation.{by_change, set_here, set_elsewhere}
use Rattle.task_turns.proofs.OwnPrograms.{some_player}
use Rattle.theorem_reader.specs.Tasks.{reset_of}
use Rattle.theorem_reader.specs.Waiting.{turns_after, crossings_of, WaitsForATurnOfEach}

-- The next in turn. --------------------------------------------------------------------------------------

-- one was found, and this holds of it
abbrev Found : (P : ℕ → Type 0) → Option ℕ → Type 0
Found P found = (k : ℕ) × (found ≡ Some k) × P k

found_by : (P : ℕ → Type 0) (x : ℕ) (rest : Option ℕ) (test : Bool) → P x → (test ≡ false → Found P rest) → Found P (cond test (Some x) rest)
found_by P x rest true here behind = (x, refl, here)
found_by P x rest false here behind = behind refl

-- all of these would do, and so does what is found behind them
found_in : (P : ℕ → Type 0) (f : ℕ → Bool) (a n : ℕ) (xs : List ℕ) → ((k : ℕ) → a ≤ k → k < a + n → P k) → Found P (find f xs) → Found P (find f (range_with_len a n ++ xs))
found_in P f a zero xs all behind = behind
found_in P f a (suc n) xs all behind =
    found_by P a (find f (range_with_len (a + 1) n ++ xs)) (f a) (all a (omega arith) (omega arith))
    (λ fails. found_in P f (a + 1) n xs (λ k from to. all k (omega (arith, from)) (omega (arith, to))) behind)

past_it : (f : ℕ → Bool) (a x : ℕ) → f x ≡ true → f a ≡ false → a ≤ x → a + 1 ≤ x
past_it f a x passes fails from = elim (cases_eq a x) [
  | inl same ↦ let both : ◌≡◌ {A = Bool} true false = sym passes ∙ ap f (sym same) ∙ fails in absurd (cc)
  | inr apart ↦ omega (arith, from, apart)
]

-- one is found, at the latest the one that passes
found_upto : (P : ℕ → Type 0) (f : ℕ → Bool) (a n x : ℕ) (xs : List ℕ) → f x ≡ true → a ≤ x → x < a + n → ((k : ℕ) → a ≤ k → k ≤ x → P k) → Found P (find f (range_with_len a n ++ xs))
found_upto P f a zero x xs passes from to all = absurd (omega (arith, from, to))
found_upto P f a (suc n) x xs passes from to all =
    found_by P a (find f (range_with_len (a + 1) n ++ xs)) (f a) (all a (omega arith) from)
    (λ fails. found_upto P f (a + 1) n x xs passes (past_it f a x passes fails from) (omega (arith, to)) (λ k low high. all k (omega (arith, low)) high))

-- how far it is, in turn, from one program to the one that waits
abbrev distance : (count task from : ℕ) → ℕ
distance count task from = cond (nat_lt task from) (task + count - from) (task - from)

far_behind : (count task from : ℕ) → task < from → distance count task from ≡ task + count - from
far_behind count task from less = let is : nat_lt task from ≡ true = grind (arith, nat_tests) in ap (λ b. cond b (task + count - from) (task - from)) is

far_before : (count task from : ℕ) → from ≤ task → distance count task from ≡ task - from
far_before count task from most = let is : nat_lt task from ≡ false = grind (arith, nat_tests) in ap (λ b. cond b (task + count - from) (task - from)) is

-- the next that passes is nearer to another that does
nearer : (f : ℕ → Bool) (count task r : ℕ) → f task ≡ true → task < count → r < count → task ≢ r → Found (λ k. distance count task k < distance count task r) (find f (others r count))
nearer f count task r passes below inside apart =
    let P : ℕ → Type 0 = λ k. distance count task k < distance count task r in
    elim (cases_lt task r) [
      | inl less ↦
          let behind : Found P (find f (range_with_len 0 r)) = rw (append-nil (range_with_len 0 r)) at
          (found_upto P f 0 r task [] passes (omega arith) (omega (arith, less)) (λ k low high. omega (arith, far_behind count task r less, far_before count task k high, high, less, inside))) in
          found_in P f (r + 1) (count - (r + 1)) (range_with_len 0 r)
          (λ k low high. let past : task < k = omega (arith, low, less) in omega (arith, far_behind count task r less, far_behind count task k past, low, high, inside)) behind
      | inr most ↦
          found_upto P f (r + 1) (count - (r + 1)) task (range_with_len 0 r) passes (omega (arith, most, apart)) (omega (arith, below, most, apart))
          (λ k low high. omega (arith, far_before count task r most, far_before count task k high, low, high))
    ]

-- One try. -----------------------------------------------------------------------------------------------

abbrev crossed : Player → ℕ
crossed p = p.moment.now.crossings

-- no crossing, or one that is no checkpoint
abbrev Short : (quantum before after : ℕ) → Type 0
Short quantum before after = (after ≡ before) ⊎ ((after ≡ before + 1) × ((after % quantum == 0) ≡ false))

-- The program that is stepped becomes another, with a crossing more at most; and short of a checkpoint it goes on, or else the
-- next is stepped.
record Made (t : Turns) (p : Player) (next : Turns) : Type 0 where
  q : Player
  program : q.program ≡ p.program
  most : crossed q ≤ crossed p + 1
  way : (next ≡ changed (with_player t q)) ⊎ ((next ≡ with_player t q) × Short p.program.quantum (crossed p) (crossed q))

made_stopped : (t : Turns) (p q : Player) (end : End) → q.program ≡ p.program → crossed q ≤ crossed p + 1 → Made t p (stopped t q end).turns
made_stopped t p q end same most = record { q = record q { end = Some end }; program = same; most = most; way = inl refl }

made_rests : (t : Turns) (p q : Player) (found : Option End) → q.program ≡ p.program → crossed q ≤ crossed p + 1 → Made t p (at_checkpoint t q found).turns
made_rests t p q (Some end) same most = made_stopped t p q end same most
made_rests t p q None same most = record { q = q; program = same; most = most; way = inl refl }

made_step : (t : Turns) (p q : Player) (checkpoint : Bool) → q.program ≡ p.program → crossed q ≤ crossed p + 1 → (checkpoint ≡ false → Short p.program.quantum (crossed p) (crossed q))
    → Made t p (stepped t q checkpoint).turns
made_step t p q true same most short = made_rests t p q (rests q) same most
made_step t p q false same most short = record { q = q; program = same; most = most; way = inr (refl, short refl) }

not_multiple : (b multiple : Bool) → b ≡ true → b && multiple ≡ false → multiple ≡ false
not_multiple true multiple is none = none
not_multiple false multiple is none = absurd (cc)

one_more : (before after : ℕ) → after ≡ before + 1 → nat_lt before after ≡ true
one_more before after is = grind (arith, nat_tests)

most_of : (quantum : ℕ) (s : FlatState) (m : Moment) → Counts quantum s m → m.now.crossings ≤ s.crossings + 1
most_of quantum s m (inl same) = omega (arith, same)
most_of quantum s m (inr both) = omega (arith, both.0)

short_of : (quantum : ℕ) (s : FlatState) (m : Moment) → Counts quantum s m → is_checkpoint quantum s m.now ≡ false → Short quantum s.crossings m.now.crossings
short_of quantum s m (inl same) none = inl same
short_of quantum s m (inr both) none = inr (both.0, not_multiple (nat_lt s.crossings m.now.crossings) (m.now.crossings % quantum == 0) (one_more s.crossings m.now.crossings both.0) none)

made_next : (t : Turns) (p : Player) (next : Next) → next_of p.program p.moment ≡ next → Made t p (once_by t p (played_by p next)).turns
made_next t p (Ends end) is = made_stopped t p p end refl (omega arith)
made_next t p (On line moment) is =
    let counts = next_counts p.program p.moment moment line is in
    made_step t p (record p { moment = moment; left = p.left - 1 }) (is_checkpoint p.program.quantum p.moment.now moment.now) refl
    (most_of p.program.quantum p.moment.now moment counts) (λ none. short_of p.program.quantum p.moment.now moment counts none)

made_tried : (t : Turns) (p : Player) (found : Option End) → Made t p (once_by t p (tried_by p found)).turns
made_tried t p (Some end) = made_stopped t p p end refl (omega arith)
made_tried t p None = made_next t p (next_of p.program p.moment) refl

made_once : (t : Turns) (p : Player) → Made t p (once t p).turns
made_once t p = made_tried t p (rests p)

players_made : (t : Turns) (p : Player) (next : Turns) → (made : Made t p next) → next.players ≡ slice_set t.players t.running made.q
players_made t p next made = elim made.way [
  | inl is ↦ ap (λ (z : Turns). z.players) is ∙ by_change (with_player t made.q) (next_in t.running (length (with_player t made.q).players) (ends_of (with_player t made.q)))
  | inr both ↦ ap (λ (z : Turns). z.players) both.0
]

-- Several tries. -----------------------------------------------------------------------------------------

-- no further try changes anything; or the program that is stepped has not ended, and is tried first
data TryWay (t : Turns) : Type 0 where
  Still : ((n : ℕ) → (tries n t).turns ≡ t) → TryWay t
  Goes : (p : Player) → slice_get t.players t.running ≡ Some p → ((n : ℕ) → (tries (suc n) t).turns ≡ (tries n (once t p).turns).turns) → TryWay t

abbrev tried_at : Turns → Player → ℕ → Option End → Turns
tried_at t p n end = (cond (is_some end) (record { told = []; turns = t }) (with_told (once t p).told (tries n (once t p).turns))).turns

still_none : (t : Turns) → slice_get t.players t.running ≡ None → (n : ℕ) → (tries n t).turns ≡ t
unfolding tries
still_none t none zero = refl
still_none t none (suc n) = ap (λ found. (go_on t found (tries n)).turns) none

still_ended : (t : Turns) (p : Player) (end : End) → slice_get t.players t.running ≡ Some p → p.end ≡ Some end → (n : ℕ) → (tries n t).turns ≡ t
unfolding tries
still_ended t p end there is zero = refl
still_ended t p end there is (suc n) = ap (λ found. (go_on t found (tries n)).turns) there ∙ ap (tried_at t p n) is

goes_first : (t : Turns) (p : Player) → slice_get t.players t.running ≡ Some p → p.end ≡ None → (n : ℕ) → (tries (suc n) t).turns ≡ (tries n (once t p).turns).turns
unfolding tries
goes_first t p there going n = ap (λ found. (go_on t found (tries n)).turns) there ∙ ap (tried_at t p n) going

way_at : (t : Turns) (p : Player) (end : Option End) → slice_get t.players t.running ≡ Some p → p.end ≡ end → TryWay t
way_at t p None there is = Goes p there (goes_first t p there is)
way_at t p (Some end) there is = Still (still_ended t p end there is)

way_by : (t : Turns) (found : Option Player) → slice_get t.players t.running ≡ found → TryWay t
way_by t None is = Still (still_none t is)
way_by t (Some p) is = way_at t p p.end is refl

way_of : (t : Turns) → TryWay t
way_of t = way_by t (slice_get t.players t.running) refl

no_tries : (t : Turns) → (tries 0 t).turns ≡ t
unfolding tries
no_tries t = refl

-- so many tries and more
more_tries : (n k : ℕ) (t : Turns) → (tries (n + k) t).turns ≡ (tries k (tries n t).turns).turns
more_tries zero k t =
    let none : zero + k ≡ k = omega arith in
    ap (λ j. (tries j t).turns) none ∙ ap (λ (z : Turns). (tries k z).turns) (sym (no_tries t))
more_tries (suc n) k t =
    let one : suc n + k ≡ suc (n + k) = omega arith in
    ap (λ j. (tries j t).turns) one ∙ elim (way_of t) [
      | Still same ↦ same (suc (n + k)) ∙ sym (same k) ∙ ap (λ (z : Turns). (tries k z).turns) (sym (same (suc n)))
      | Goes p there first ↦ first (n + k) ∙ more_tries n k (once t p).turns ∙ ap (λ (z : Turns). (tries k z).turns) (sym (first n))
    ]

-- The quantum of each. -----------------------------------------------------------------------------------

abbrev HaveQuantum : ℕ → Turns → Type 0
HaveQuantum quantum t = (i : ℕ) (p : Player) → slice_get t.players i ≡ Some p → p.program.quantum ≡ quantum

have_next : (quantum : ℕ) (t : Turns) (p : Player) (next : Turns) → slice_get t.players t.running ≡ Some p → Made t p next → HaveQuantum quantum t → HaveQuantum quantum next
have_next quantum t p next there made have = λ i x is. elim (cases_eq i t.running) [
  | inl same ↦
      let here : slice_get next.players i ≡ Some made.q = ap (λ l. slice_get l i) (players_made t p next made) ∙ ap (slice_get (slice_set t.players t.running made.q)) same
      ∙ set_here t.players t.running p made.q there in
      let its : x ≡ made.q = cc in
      ap (λ (z : Player). z.program.quantum) its ∙ ap (λ program. program.quantum) made.program ∙ have t.running p there
  | inr apart ↦ have i x (sym (ap (λ l. slice_get l i) (players_made t p next made) ∙ set_elsewhere t.players i t.running made.q apart) ∙ is)
]

have_tried : (quantum n : ℕ) (t : Turns) → HaveQuantum quantum t → HaveQuantum quantum (tries n t).turns
have_tried quantum zero t have = subst (HaveQuantum quantum) (sym (no_tries t)) have
have_tried quantum (suc n) t have = elim (way_of t) [
  | Still same ↦ subst (HaveQuantum quantum) (sym (same (suc n))) have
  | Goes p there first ↦ subst (HaveQuantum quantum) (sym (first n)) (have_tried quantum n (once t p).turns (have_next quantum t p (once t p).turns there (made_once t p) have))
]

-- The crossings while one waits. -------------------------------------------------------------------------

abbrev crossings_in : List Player → ℕ → ℕ
crossings_in players i = get_or (map crossed players) i 0

abbrev crossed_by : Option Player → ℕ
crossed_by None = 0
crossed_by (Some p) = crossed p

crossings_at : (players : List Player) (i : ℕ) → crossings_in players i ≡ crossed_by (slice_get players i)
crossings_at [] i = refl
crossings_at (p ∷ players) zero = refl
crossings_at (p ∷ players) (suc i) = crossings_at players i

-- the next checkpoint
abbrev top : (quantum crossings : ℕ) → ℕ
top quantum crossings = crossings + (quantum - crossings % quantum)

another : (quantum crossings : ℕ) → 1 ≤ quantum → ((crossings + 1) % quantum == 0) ≡ false → (crossings + 1) % quantum ≡ crossings % quantum + 1
another quantum crossings some short =
    let less : crossings % quantum < quantum = mod-lt crossings some in
    let turned : (crossings + 1) % quantum ≡ suc (crossings % quantum) % quantum = ap (λ k. k % quantum) (sym (suc-eq-add-one crossings)) ∙ suc-mod crossings quantum in
    elim (cases_lt (suc (crossings % quantum)) quantum) [
      | inl within ↦ turned ∙ mod-eq_of_lt within ∙ suc-eq-add-one (crossings % quantum)
      | inr full ↦
          let round : suc (crossings % quantum) ≡ quantum = omega (arith, less, full) in
          let none : (crossings + 1) % quantum ≡ 0 = turned ∙ ap (λ k. k % quantum) round ∙ mod_self quantum in
          absurd (grind (arith, nat_tests, none, short))
    ]

top_short : (quantum before after : ℕ) → 1 ≤ quantum → Short quantum before after → top quantum after ≤ top quantum before
top_short quantum before after some (inl same) = subst (λ c. top quantum c ≤ top quantum before) (sym same) (omega arith)
top_short quantum before after some (inr both) =
    let short : ((before + 1) % quantum == 0) ≡ false = ap (λ c. c % quantum == 0) (sym both.0) ∙ both.1 in
    subst (λ c. top quantum c ≤ top quantum before) (sym both.0) (omega (arith, another quantum before some short, mod-lt before some))

-- Another's crossings come to its next checkpoint at most, and it makes none where its turn comes behind that of the one that waits.
record AreFew (quantum count task other : ℕ) (t to : Turns) : Type 0 where
  most : crossings_in to.players other ≤ top quantum (crossings_in t.players other)
  beyond : distance count task t.running < distance count task other → crossings_in to.players other ≤ crossings_in t.players other

few_here : (quantum count task other : ℕ) (t : Turns) → AreFew quantum count task other t t
few_here quantum count task other t = record { most = omega arith; beyond = λ far. omega arith }

-- so many programs with one quantum, of which this one waits
record Among (quantum count task : ℕ) (w : Player) (t : Turns) : Type 0 where
  few : length t.players ≡ count
  have : HaveQuantum quantum t
  there : slice_get t.players task ≡ Some w

-- one try of another: it goes on short of a checkpoint, or one is stepped that is nearer to the one that waits
record Nearer (quantum count task : ℕ) (t : Turns) (p q : Player) (next : Turns) : Type 0 where
  players : next.players ≡ slice_set t.players t.running q
  way : ((next.running ≡ t.running) × Short quantum (crossed p) (crossed q)) ⊎ ((distance count task next.running < distance count task t.running) × (crossed q ≤ crossed p + 1))

changes : (quantum count task : ℕ) (w p q : Player) (t : Turns) → slice_get t.players t.running ≡ Some p → task ≢ t.running → w.end ≡ None → Among quantum count task w t
    → Found (λ k. distance count task k < distance count task t.running) (next_in t.running (length (with_player t q).players) (ends_of (with_player t q)))
changes quantum count task w p q t there apart going among =
    let long : length (with_player t q).players ≡ count = length-set t.players t.running q ∙ among.few in
    let f : ℕ → Bool = λ i. not (has_ended (ends_of (with_player t q)) i) in
    let still : slice_get (with_player t q).players task ≡ Some w = set_elsewhere t.players task t.running q apart ∙ among.there in
    rw long (nearer f count task t.running (ap not (ended_at (with_player t q) task w still ∙ ap is_some going)) (omega (arith, slice_get_within t.players task w among.there, among.few))
    (omega (arith, slice_get_within t.players t.running p there, among.few)) apart)

nearer_by : (quantum count task : ℕ) (w p : Player) (t next : Turns) → slice_get t.players t.running ≡ Some p → task ≢ t.running → w.end ≡ None → Among quantum count task w t → (made : Made t p next)
    → Nearer quantum count task t p made.q next
nearer_by quantum count task w p t next there apart going among made = record {
  players = players_made t p next made;
  way = elim made.way [
    | inl is ↦
        let found = changes quantum count task w p made.q t there apart going among in
        let runs : next.running ≡ found.0 = ap (λ (z : Turns). z.running) is ∙ ap (λ k. (changed_to (with_player t made.q) k).running) found.1 in
        inr (subst (λ k. distance count task k < distance count task t.running) (sym runs) found.2, made.most)
    | inr both ↦ inl (ap (λ (z : Turns). z.running) both.0, subst (λ n. Short n (crossed p) (crossed made.q)) (among.have t.running p there) both.1)
  ];
}

among_next : (quantum count task : ℕ) (w p : Player) (t next : Turns) → slice_get t.players t.running ≡ Some p → task ≢ t.running → (made : Made t p next) → Among quantum count task w t
    → Among quantum count task w next
among_next quantum count task w p t next there apart made among =
    let players = players_made t p next made in
    record {
      few = ap (λ (l : List Player). length l) players ∙ length-set t.players t.running made.q ∙ among.few;
      have = have_next quantum t p next there made among.have;
      there = ap (λ l. slice_get l task) players ∙ set_elsewhere t.players task t.running made.q apart ∙ among.there;
    }

-- the try, and those behind it
few_more : (quantum count task other : ℕ) (t next to : Turns) (p q : Player) → 1 ≤ quantum → slice_get t.players t.running ≡ Some p → Nearer quantum count task t p q next
    → AreFew quantum count task other next to → AreFew quantum count task other t to
few_more quantum count task other t next to p q some there one few = elim (cases_eq other t.running) [
  | inl same ↦
      let before : crossings_in t.players other ≡ crossed p = crossings_at t.players other ∙ ap crossed_by (ap (slice_get t.players) same ∙ there) in
      let after : crossings_in next.players other ≡ crossed q =
      crossings_at next.players other ∙ ap crossed_by (ap (λ l. slice_get l other) one.players ∙ ap (slice_get (slice_set t.players t.running q)) same ∙ set_here t.players t.running p q there) in
      let far : distance count task other ≡ distance count task t.running = ap (distance count task) same in
      record {
        most = elim one.way [
          | inl stays ↦
              let short : Short quantum (crossings_in t.players other) (crossings_in next.players other) = rw (before, after) stays.1 in
              omega (arith, few.most, top_short quantum (crossings_in t.players other) (crossings_in next.players other) some short)
          | inr changes ↦ omega (arith, few.beyond (omega (arith, changes.0, far)), before, after, changes.1, mod-lt (crossings_in t.players other) some)
        ];
        beyond = λ less. absurd (omega (arith, less, far));
      }
  | inr apart ↦
      let same : crossings_in next.players other ≡ crossings_in t.players other =
      crossings_at next.players other ∙ ap crossed_by (ap (λ l. slice_get l other) one.players ∙ set_elsewhere t.players other t.running q apart) ∙ sym (crossings_at t.players other) in
      let near : distance count task next.running ≤ distance count task t.running = elim one.way [
        | inl stays ↦ omega (arith, ap (distance count task) stays.0)
        | inr changes ↦ omega (arith, changes.0)
      ] in
      record {
        most = subst (λ c. crossings_in to.players other ≤ top quantum c) same few.most;
        beyond = λ less. omega (arith, same, few.beyond (omega (arith, near, less)));
      }
]

-- in so many tries this program isn't stepped
abbrev NotStepped : (task count : ℕ) → Turns → Type 0
NotStepped task count t = (k : ℕ) → k < count → (tries k t).turns.running ≢ task

few_tried : (quantum count task other n : ℕ) (w : Player) (t : Turns) → 1 ≤ quantum → w.end ≡ None → Among quantum count task w t → NotStepped task n t
    → AreFew quantum count task other t (tries n t).turns
few_tried quantum count task other zero w t some going among waits = subst (AreFew quantum count task other t) (sym (no_tries t)) (few_here quantum count task other t)
few_tried quantum count task other (suc n) w t some going among waits = elim (way_of t) [
  | Still same ↦ subst (AreFew quantum count task other t) (sym (same (suc n))) (few_here quantum count task other t)
  | Goes p there first ↦
      let made = made_once t p in
      let apart : task ≢ t.running = λ is. waits 0 (omega arith) (ap (λ (z : Turns). z.running) (no_tries t) ∙ sym is) in
      let later : NotStepped task n (once t p).turns = λ k less is. waits (suc k) (omega (arith, less)) (ap (λ (z : Turns). z.running) (first k) ∙ is) in
      subst (AreFew quantum count task other t) (sym (first n))
      (few_more quantum count task other t (once t p).turns (tries n (once t p).turns).turns p made.q some there (nearer_by quantum count task w p t (once t p).turns there apart going among made)
      (few_tried quantum count task other n w (once t p).turns some going (among_next quantum count task w p t (once t p).turns there apart made among) later))
]

-- From reset. --------------------------------------------------------------------------------------------

reset_quantum : (words : List ℕ) (k : ℕ) (scripts : List Schedule) (quantum slots n i : ℕ) (p : Player) → slice_get (players_at_reset words k scripts quantum slots n) i ≡ Some p
    → p.program.quantum ≡ quantum
reset_quantum words k [] quantum slots n i p is = absurd (cc)
reset_quantum words k (script ∷ scripts) quantum slots n zero p is = sym (ap (λ (q : Player). q.program.quantum) (some_player _ p is))
reset_quantum words k (script ∷ scripts) quantum slots n (suc i) p is = reset_quantum words (k + 1) scripts quantum slots n i p is

pub waits_for_a_turn_of_each : WaitsForATurnOfEach
waits_for_a_turn_of_each asked some task from count waits other =
    let t = turns_after asked from in
    let more : (k : ℕ) → turns_after asked (from + k) ≡ (tries k t).turns = λ k. more_tries from k (reset_of asked) in
    let kept : NotStepped task count t = λ k less is. waits.waits k less (ap (λ (z : Turns). z.running) (more k) ∙ is) in
    let at_reset : HaveQuantum asked.quantum (reset_of asked) =
    λ i p is. reset_quantum (task_words (length asked.scripts) asked.image) 0 asked.scripts asked.quantum asked.slots asked.steps i p is in
    let among : Among asked.quantum (length t.players) task waits.player t = record { few = refl; have = have_tried asked.quantum from (reset_of asked) at_reset; there = waits.is } in
    let few = few_tried asked.quantum (length t.players) task other count waits.player t some waits.going among kept in
    omega (arith, few.most, ap (λ (z : Turns). crossings_of z other) (more count), div-add-mod' (crossings_of t other) asked.quantum, mod-lt (crossings_of t other) some)
