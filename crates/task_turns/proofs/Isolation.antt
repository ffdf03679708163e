-- Tasks in turn have nothing to do with one another.
use Rattle.std.proofs.Common.{◌≡◌, ℕ, zero, suc, ◌+◌, ◌-◌, ◌<◌, ◌≤◌, ◌⊎◌, eqb, Bool, true, false, cond, List, [], ◌∷◌, ◌++◌, arith, ap, ap₂, ◌∙◌, sym, refl, Option, Some, None, inl, inr}
use Rattle.std.specs.Prelude.{◌≢◌, slice_get, slice_set, is_some}
use Rattle.std.proofs.lemmas.List.{append_assoc, append-nil}
use Rattle.std.proofs.lemmas.Bool.{cases_eq}
use Rattle.std.proofs.lemmas.Bool.Decides.{nat_tests}
use Rattle.mote_devices.specs.declared.line.Line.{Line}
use Rattle.flat_machine.specs.FlatMachine.{Program, is_inside, Moment, End, Spent, Wild, Next, Ends, On, next_of, Run, run, ended, with_line}
use Rattle.flat_machine.proofs.MachineLaws.{run_wild, run_spent, run_stops, run_goes}
use Rattle.task_turns.specs.Turns.{Player, Turns, Told, Shown, Wrote, Stops, is_checkpoint, rests_by, rests, played_by, tried_by, changed_to, changed, with_player, told as told_by, told_line, After}
use Rattle.task_turns.specs.Turns.{stopped, at_checkpoint, stepped, with_told, once_by, once, go_on, tries, alone, shown_by, own_told, Follows, Ended, Going, Over, IsApartFromOthers}

-- a task at rest, or one that has a step left and stands inside its image
data RestWay (program : Program) (m : Moment) (left : ℕ) : Option End → Type 0 where
  Rests : (end : End) → run program m left ≡ ended end m → RestWay program m left (Some end)
  Steps : (n : ℕ) → left ≡ suc n → is_inside program m.now.cpu.pc ≡ true → RestWay program m left None

some_left : (n : ℕ) → eqb (suc n) 0 ≡ false
some_left n = grind (arith, nat_tests)

rest_way : (program : Program) (m : Moment) (left : ℕ) (inside : Bool) → is_inside program m.now.cpu.pc ≡ inside → RestWay program m left (rests_by (run program m 0).end left)
rest_way program m left false is = rw (run_wild program m 0 is) (Rests (Wild m.now.cpu.pc) (run_wild program m left is))
rest_way program m zero true is = rw (run_spent program m is) (Rests Spent (run_spent program m is))
rest_way program m (suc n) true is = rw ((run_spent program m is), (some_left n)) (Steps n refl is)

way_of : (p : Player) → RestWay p.program p.moment p.left (rests p)
way_of p = rest_way p.program p.moment p.left (is_inside p.program p.moment.now.cpu.pc) refl

-- ---- what is told, task by task

same_number : (n : ℕ) → eqb n n ≡ true
same_number n = grind (arith, nat_tests)

other_number : (n m : ℕ) → m ≢ n → eqb n m ≡ false
other_number n m apart = grind (arith, nat_tests)

own_here : (r : ℕ) (shown : Shown) → own_told r (record { task = r; shown = shown } ∷ []) ≡ shown ∷ []
own_here r shown = rw (same_number r) refl

own_other : (r i : ℕ) (shown : Shown) → i ≢ r → own_told i (record { task = r; shown = shown } ∷ []) ≡ []
own_other r i shown apart = rw (other_number r i apart) refl

append_cond : (test : Bool) (one : Shown) (a b : List Shown) → cond test (one ∷ a ++ b) (a ++ b) ≡ cond test (one ∷ a) a ++ b
append_cond true one a b = refl
append_cond false one a b = refl

own_append : (i : ℕ) (a b : List Told) → own_told i (a ++ b) ≡ own_told i a ++ own_told i b
own_append i [] b = refl
own_append i (one ∷ a) b = ap (λ l. cond (eqb one.task i) (one.shown ∷ l) l) (own_append i a b) ∙ append_cond (eqb one.task i) one.shown (own_told i a) (own_told i b)

line_shown : Option Line → List Shown
line_shown None = []
line_shown (Some line) = Wrote line ∷ []

own_line_here : (t : Turns) (line : Option Line) → own_told t.running (told_line t line) ≡ line_shown line
unfolding line_shown
own_line_here t None = refl
own_line_here t (Some line) = own_here t.running (Wrote line)

own_line_other : (t : Turns) (line : Option Line) (i : ℕ) → i ≢ t.running → own_told i (told_line t line) ≡ []
own_line_other t None i apart = refl
own_line_other t (Some line) i apart = own_other t.running i (Wrote line) apart

shown_line : (line : Option Line) (r : Run) → shown_by (with_line line r) ≡ line_shown line ++ shown_by r
unfolding line_shown
shown_line None r = refl
shown_line (Some line) r = refl

end_line : (line : Option Line) (r : Run) → (with_line line r).end ≡ r.end
end_line None r = refl
end_line (Some line) r = refl

state_line : (line : Option Line) (r : Run) → (with_line line r).state ≡ r.state
state_line None r = refl
state_line (Some line) r = refl

-- ---- one try

pub by_change : (t : Turns) (found : Option ℕ) → (changed_to t found).players ≡ t.players
by_change t None = refl
by_change t (Some next) = refl

-- how many tries a task may still take
pub weight : Player → ℕ
weight p = cond (is_some p.end) 0 (p.left + 1)

pub weight_going : (p : Player) → p.end ≡ None → weight p ≡ p.left + 1
unfolding weight
weight_going p going = ap (λ e. cond (is_some e) 0 (p.left + 1)) going

pub weight_ended : (p : Player) (end : End) → p.end ≡ Some end → weight p ≡ 0
unfolding weight
weight_ended p end over = ap (λ e. cond (is_some e) 0 (p.left + 1)) over

-- the task that is stepped becomes another, and follows itself; of the others nothing is told
pub record IsOnce (t : Turns) (p : Player) (a : After) : Type 0 where
  pub q : Player
  pub players : a.turns.players ≡ slice_set t.players t.running q
  pub follows : Follows p q (own_told t.running a.told)
  pub others_told : (i : ℕ) → i ≢ t.running → own_told i a.told ≡ []
  pub less : weight q + 1 ≤ weight p
  pub next : (a.turns ≡ changed (with_player t q)) ⊎ ((a.turns ≡ with_player t q) × (q.end ≡ None))

-- the task ends, behind a line
over_now : (t : Turns) (p q : Player) (line : Option Line) (end : End) → p.end ≡ None → alone p ≡ with_line line (ended end q.moment) → IsOnce t p (with_told (told_line t line) (stopped t q end))
over_now t p q line end going is = record {
  q = record q { end = Some end };
  players = by_change (with_player t (record q { end = Some end })) _;
  follows = Over going (ap (λ e. Some e) (sym (ap (λ (r : Run). r.end) is ∙ end_line line (ended end q.moment)))) (sym (ap (λ (r : Run). r.state) is ∙ state_line line (ended end q.moment)))
      (ap shown_by is ∙ shown_line line (ended end q.moment)
      ∙ sym (own_append t.running (told_line t line) (told_by t (Stops end q.moment.now.steps q.moment.now.crossings))
      ∙ ap₂ (λ a b. a ++ b) (own_line_here t line) (own_here t.running (Stops end q.moment.now.steps q.moment.now.crossings))));
  others_told = λ i apart. own_append i (told_line t line) (told_by t (Stops end q.moment.now.steps q.moment.now.crossings))
      ∙ ap₂ (λ a b. a ++ b) (own_line_other t line i apart) (own_other t.running i (Stops end q.moment.now.steps q.moment.now.crossings) apart);
  less = omega (arith, weight_going p going, weight_ended (record q { end = Some end }) end refl);
  next = inl refl;
}

-- it goes on, behind a line
going_on : (t : Turns) (p q : Player) (line : Option Line) (next : Turns) → p.end ≡ None → q.end ≡ None → alone p ≡ with_line line (alone q) → next.players ≡ slice_set t.players t.running q
    → q.left < p.left
    → (next ≡ changed (with_player t q)) ⊎ ((next ≡ with_player t q) × (q.end ≡ None)) → IsOnce t p (record { told = told_line t line ++ []; turns = next })
going_on t p q line next going still is players fewer goes = record {
  q = q;
  players = players;
  follows = Going going still (ap shown_by is ∙ shown_line line (alone q) ∙ ap (λ l. l ++ shown_by (alone q)) (sym (ap (own_told t.running) (append-nil (told_line t line)) ∙ own_line_here t line)))
      (ap (λ (r : Run). r.end) is ∙ end_line line (alone q)) (ap (λ (r : Run). r.state) is ∙ state_line line (alone q));
  others_told = λ i apart. ap (own_told i) (append-nil (told_line t line)) ∙ own_line_other t line i apart;
  less = omega (arith, weight_going p going, weight_going q still, fewer);
  next = goes;
}

-- behind a checkpoint
checkpoint_by : (t : Turns) (p q : Player) (line : Option Line) (found : Option End) → RestWay q.program q.moment q.left found → p.end ≡ None → q.end ≡ None → alone p ≡ with_line line (alone q)
    → q.left < p.left → IsOnce t p (with_told (told_line t line) (at_checkpoint t q found))
checkpoint_by t p q line _ (Rests end rests) going still is fewer = over_now t p q line end going (is ∙ ap (with_line line) rests)
checkpoint_by t p q line _ (Steps n left inside) going still is fewer = going_on t p q line (changed (with_player t q)) going still is (by_change (with_player t q) _) fewer (inl refl)

stepped_by : (t : Turns) (p q : Player) (line : Option Line) (checkpoint : Bool) → p.end ≡ None → q.end ≡ None → alone p ≡ with_line line (alone q) → q.left < p.left
    → IsOnce t p (with_told (told_line t line) (stepped t q checkpoint))
stepped_by t p q line true going still is fewer = checkpoint_by t p q line (rests q) (way_of q) going still is fewer
stepped_by t p q line false going still is fewer = going_on t p q line (with_player t q) going still is refl fewer (inr (refl, still))

next_by : (t : Turns) (p : Player) (n : ℕ) (next : Next) → p.end ≡ None → p.left ≡ suc n → is_inside p.program p.moment.now.cpu.pc ≡ true → next_of p.program p.moment ≡ next
    → IsOnce t p (once_by t p (played_by p next))
next_by t p n (Ends end) going left inside is =
    let alone_is : alone p ≡ ended end p.moment = ap (run p.program p.moment) left ∙ run_stops p.program p.moment n end inside is in
    over_now t p p None end going alone_is
next_by t p n (On line moment) going left inside is =
    let q : Player = record p { moment = moment; left = p.left - 1 } in
    let one_less : n ≡ p.left - 1 = omega arith in
    let alone_is : alone p ≡ with_line line (alone q) = ap (run p.program p.moment) left ∙ run_goes p.program p.moment moment n line inside is
    ∙ ap (λ k. with_line line (run p.program moment k)) one_less in
    stepped_by t p q line (is_checkpoint p.program.quantum p.moment.now moment.now) going going alone_is (omega arith)

try_by : (t : Turns) (p : Player) {found : Option End} → RestWay p.program p.moment p.left found → p.end ≡ None → IsOnce t p (once_by t p (tried_by p found))
try_by t p (Rests end rests) going = over_now t p p None end going rests
try_by t p (Steps n left inside) going = next_by t p n (next_of p.program p.moment) going left inside refl

pub once_follows : (t : Turns) (p : Player) → p.end ≡ None → IsOnce t p (once t p)
once_follows t p going = try_by t p (way_of p) going

-- ---- any number of tries

follows_itself : (p : Player) (end : Option End) → p.end ≡ end → Follows p p []
follows_itself p None is = Going is is refl refl refl
follows_itself p (Some end) is = Ended end is refl refl

follows_on : {p q r : Player} {a b : List Shown} → Follows p q a → Follows q r b → Follows p r (a ++ b)
follows_on {p} {q} {r} {a} {b} (Ended end was same none) second =
    let from : Follows p r b = rw same at second in
    rw (ap (λ l. l ++ b) none) from
follows_on (Going was still told ends state) (Ended end was' same none) = absurd (cc)
follows_on {p} {q} {r} {a} {b} (Going was still told ends state) (Going was' still' told' ends' state') =
    Going was still' (told ∙ ap (λ l. a ++ l) told' ∙ sym (append_assoc a b (shown_by (alone r)))) (ends ∙ ends') (state ∙ state')
follows_on {p} {q} {r} {a} (Going was still told ends state) (Over was' over holds told') =
    Over was (over ∙ ap (λ e. Some e) (sym ends)) (holds ∙ sym state) (told ∙ ap (λ l. a ++ l) told')
follows_on {p} {q} {r} {a} (Over was over holds told) (Ended end was' same none) =
    Over was (ap (λ z. z.end) same ∙ over) (ap (λ z. z.moment) same ∙ holds) (told ∙ sym (ap (λ l. a ++ l) none ∙ append-nil a))
follows_on (Over was over holds told) (Going was' still' told' ends' state') = absurd (cc)
follows_on (Over was over holds told) (Over was' over' holds' told') = absurd (cc)

pub set_here : (players : List Player) (r : ℕ) (p x : Player) → slice_get players r ≡ Some p → slice_get (slice_set players r x) r ≡ Some x
set_here [] r p x is = absurd (cc)
set_here (y ∷ players) zero p x is = refl
set_here (y ∷ players) (suc r) p x is = set_here players r p x is

pub set_elsewhere : (players : List Player) (i r : ℕ) (x : Player) → i ≢ r → slice_get (slice_set players r x) i ≡ slice_get players i
set_elsewhere [] i r x apart = refl
set_elsewhere (y ∷ players) zero zero x apart = absurd (apart refl)
set_elsewhere (y ∷ players) (suc i) zero x apart = refl
set_elsewhere (y ∷ players) zero (suc r) x apart = refl
set_elsewhere (y ∷ players) (suc i) (suc r) x apart = set_elsewhere players i r x (λ e. apart (ap suc e))

-- what a task became
abbrev Became : ℕ → Player → After → Type 0
Became task p a = (q : Player) × (slice_get a.turns.players task ≡ Some q) × Follows p q (own_told task a.told)

became_same : (t : Turns) (task : ℕ) (p : Player) → slice_get t.players task ≡ Some p → Became task p (record { told = []; turns = t })
became_same t task p is = (p, is, follows_itself p p.end refl)

-- one try, and what comes behind it
became_more : {t : Turns} (task : ℕ) (p : Player) {r : Player} {a : After} (rest : After) → slice_get t.players t.running ≡ Some r → slice_get t.players task ≡ Some p → IsOnce t r a
    → ((q : Player) → slice_get a.turns.players task ≡ Some q → Became task q rest) → Became task p (with_told a.told rest)
became_more {t} task p {r} {a} rest runs is one behind = elim (cases_eq task t.running) [
  | inl same ↦
      let its : p ≡ r = cc in
      let here : slice_get a.turns.players task ≡ Some one.q = ap (λ l. slice_get l task) one.players ∙ ap (λ k. slice_get (slice_set t.players t.running one.q) k) same
      ∙ set_here t.players t.running r one.q runs in
      let more = behind one.q here in
      let first : Follows p one.q (own_told task a.told) = rw (its, same) one.follows in
      (more.0, more.1, rw (own_append task a.told rest.told) (follows_on first more.2))
  | inr apart ↦
      let here : slice_get a.turns.players task ≡ Some p = ap (λ l. slice_get l task) one.players ∙ set_elsewhere t.players task t.running one.q apart ∙ is in
      let more = behind p here in
      (more.0, more.1, rw (own_append task a.told rest.told ∙ ap (λ l. l ++ own_told task rest.told) (one.others_told task apart)) more.2)
]

became_by : (t : Turns) {task : ℕ} (p r : Player) (rest : Turns → After) (end : Option End) → r.end ≡ end → slice_get t.players t.running ≡ Some r → slice_get t.players task ≡ Some p
    → ((next : Turns) (q : Player) → slice_get next.players task ≡ Some q → Became task q (rest next))
    → Became task p (cond (is_some end) (record { told = []; turns = t }) (with_told (once t r).told (rest (once t r).turns)))
became_by t {task} p r rest (Some end) going runs is behind = became_same t task p is
became_by t {task} p r rest None going runs is behind = became_more task p (rest (once t r).turns) runs is (once_follows t r going) (behind (once t r).turns)

became_found : (t : Turns) {task : ℕ} (p : Player) (rest : Turns → After) (found : Option Player) → slice_get t.players t.running ≡ found → slice_get t.players task ≡ Some p
    → ((next : Turns) (q : Player) → slice_get next.players task ≡ Some q → Became task q (rest next)) → Became task p (go_on t found rest)
became_found t {task} p rest None runs is behind = became_same t task p is
became_found t p rest (Some r) runs is behind = became_by t p r rest r.end refl runs is behind

pub apart_from_others : (n : ℕ) (t : Turns) → IsApartFromOthers t n
unfolding tries
apart_from_others zero t = λ task p is. became_same t task p is
apart_from_others (suc n) t = λ task p is. became_found t p (tries n) (slice_get t.players t.running) refl is (λ next q there. apart_from_others n next task q there)
