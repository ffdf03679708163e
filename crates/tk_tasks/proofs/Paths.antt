-- Plays of the tasks on the mote, one after another, are the tasks in turn.
use Rattle.std.proofs.Common.{◌≡◌, ℕ, zero, suc, ◌+◌, ◌-◌, ◌≤◌, Bool, true, false, cond, List, [], ◌∷◌, ◌++◌, length, arith, ap, ap₂, ◌∙◌, sym, refl, Option, Some, None}
use Rattle.std.specs.Prelude.{slice_get, is_some, sum_by}
use Rattle.std.proofs.lemmas.List.{append_assoc, append-nil}
use Rattle.flat_machine.specs.FlatMachine.{End}
use Rattle.parked_tasks.specs.declared.task.Task.{Task}
use Rattle.task_turns.specs.Turns.{Player, Turns, Told, After, once, with_told, go_on, tries, turns, alone, own_told, Follows, Ended, Going, Over, HaveEnded}
use Rattle.tk_tasks.specs.States.{Tasks, player_of, players_from, turns_of}
use Rattle.parked_tasks.specs.Ends.{flat_end_of}
use Rattle.tk_tasks.specs.Plays.{Play, TaskPath, told_of, AreInTurn, EndsAsAlone, HaveRun}
use Rattle.task_turns.proofs.Isolation.{once_follows, apart_from_others}
use Rattle.task_turns.proofs.Ending.{Ready, ready_once, still, still_set, still_sum}

-- ---- the tasks as players

pub player_at : (n : ℕ) (t : Tasks) (k : ℕ) (tasks : List Task) (i : ℕ) (task : Task) → slice_get tasks i ≡ Some task → slice_get (players_from n t k tasks) i ≡ Some (player_of n t (k + i) task)
player_at n t k [] i task is = absurd (cc)
player_at n t k (first ∷ tasks) zero task is =
    let its : first ≡ task = cc in
    let here : k ≡ k + 0 = omega arith in
    ap (λ z. Some (player_of n t k z)) its ∙ ap (λ j. Some (player_of n t j task)) here
player_at n t k (first ∷ tasks) (suc i) task is =
    let there : k + 1 + i ≡ k + suc i = omega arith in
    player_at n t (k + 1) tasks i task is ∙ ap (λ j. Some (player_of n t j task)) there

pub player_here : (n : ℕ) (t : Tasks) (i : ℕ) (task : Task) → slice_get t.tasks i ≡ Some task → slice_get (turns_of n t).players i ≡ Some (player_of n t i task)
player_here n t i task is =
    let here : 0 + i ≡ i = omega arith in
    player_at n t 0 t.tasks i task is ∙ ap (λ j. Some (player_of n t j task)) here

-- ---- plays and tries

go_by : (t : Turns) (p : Player) (rest : Turns → After) (end : Option End) → p.end ≡ end → end ≡ None
    → cond (is_some p.end) (record { told = []; turns = t }) (with_told (once t p).told (rest (once t p).turns)) ≡ with_told (once t p).told (rest (once t p).turns)
go_by t p rest end is none = ap (λ e. cond (is_some e) (record { told = []; turns = t }) (with_told (once t p).told (rest (once t p).turns))) (is ∙ none)

pub go_now : (t : Turns) (p : Player) (rest : Turns → After) → slice_get t.players t.running ≡ Some p → p.end ≡ None
    → go_on t (slice_get t.players t.running) rest ≡ with_told (once t p).told (rest (once t p).turns)
go_now t p rest there going = ap (λ found. go_on t found rest) there ∙ go_by t p rest None going refl

after_told : (told : List Told) (t : Turns) (a follows : After) → told ≡ a.told → t ≡ a.turns → (rest : Turns → After) → rest t ≡ follows → with_told a.told (rest a.turns) ≡ with_told told follows
after_told told t a follows is stands rest same = ap (λ z. with_told a.told (rest z)) (sym stands) ∙ ap (with_told a.told) same ∙ ap (λ l. with_told l follows) (sym is)

-- plays, and any number of tries behind them
path_more : (n : ℕ) (t : Tasks) (plays : List Play) (new : Tasks) (m : ℕ) → TaskPath n t plays new → tries (length plays + m) (turns_of n t) ≡ with_told (told_of plays) (tries m (turns_of n new))
unfolding tries
path_more n t [] new m is =
    let none : 0 + m ≡ m = omega arith in
    ap₂ (λ j z. tries j (turns_of n z)) none is
path_more n t (play ∷ plays) new m (mid, one, rest) =
    let p = player_of n t t.running one.task in
    let later = tries m (turns_of n new) in
    let one_more : suc (length plays) + m ≡ suc (length plays + m) = omega arith in
    ap (λ j. tries j (turns_of n t)) one_more
    ∙ go_now (turns_of n t) p (tries (length plays + m)) (player_here n t t.running one.task one.here) (ap flat_end_of one.going)
    ∙ after_told play.told (turns_of n mid) (once (turns_of n t) p) (with_told (told_of plays) later) one.told one.in_turn (tries (length plays + m)) (path_more n mid plays new m rest)
    ∙ ap (λ l. record { told = l; turns = later.turns }) (sym (append_assoc play.told (told_of plays) later.told))

pub path_tries : (n : ℕ) (t : Tasks) (plays : List Play) (new : Tasks) → TaskPath n t plays new → tries (length plays) (turns_of n t) ≡ record { told = told_of plays; turns = turns_of n new }
unfolding tries
path_tries n t plays new path =
    let none : length plays ≡ length plays + 0 = omega arith in
    ap (λ j. tries j (turns_of n t)) none ∙ path_more n t plays new 0 path ∙ ap (λ l. record { told = l; turns = turns_of n new }) (append-nil (told_of plays))

-- each play is one of those that the tasks may take
pub path_still : (n : ℕ) (t : Tasks) (plays : List Play) (new : Tasks) → TaskPath n t plays new → still (turns_of n new).players + length plays ≤ still (turns_of n t).players
path_still n t [] new is = let same : still (turns_of n new).players ≡ still (turns_of n t).players = ap (λ z. still (turns_of n z).players) (sym is) in omega (arith, same)
path_still n t (play ∷ plays) new (mid, one, rest) =
    let p = player_of n t t.running one.task in
    let t0 = turns_of n t in
    let step = once_follows t0 p (ap flat_end_of one.going) in
    let less = still_set t0.players t0.running p step.q (player_here n t t.running one.task one.here) step.less in
    let same : still (turns_of n mid).players ≡ still (once t0 p).turns.players = ap (λ (z : Turns). still z.players) one.in_turn in
    let later = path_still n mid plays new rest in
    omega (arith, less, same, later, ap still step.players)

-- so there are no more than tries that lead as far
pub path_shortest : (n count : ℕ) (t : Tasks) (plays : List Play) (new : Tasks) → TaskPath n t plays new → (tries count (turns_of n t)).turns ≡ turns_of n new → length plays ≤ count
unfolding tries
path_shortest n count t [] new is same = omega arith
path_shortest n zero t (play ∷ plays) new path same =
    let stays : still (turns_of n t).players ≡ still (turns_of n new).players = ap (λ (z : Turns). still z.players) same in
    absurd (omega (arith, stays, path_still n t (play ∷ plays) new path))
path_shortest n (suc count) t (play ∷ plays) new (mid, one, rest) same =
    let p = player_of n t t.running one.task in
    let first = ap (λ (a : After). a.turns) (go_now (turns_of n t) p (tries count) (player_here n t t.running one.task one.here) (ap flat_end_of one.going)) in
    let later : (tries count (turns_of n mid)).turns ≡ turns_of n new = ap (λ z. (tries count z).turns) one.in_turn ∙ sym first ∙ same in
    omega (arith, path_shortest n count mid plays new rest later)

-- the running task has ended only where all have
pub path_ready : (n : ℕ) (t : Tasks) (plays : List Play) (new : Tasks) → TaskPath n t plays new → Ready (turns_of n t) → Ready (turns_of n new)
path_ready n t [] new is ready = rw is at ready
path_ready n t (play ∷ plays) new (mid, one, rest) ready =
    let p = player_of n t t.running one.task in
    let t0 = turns_of n t in
    let next = ready_once t0 p (once t0 p) (player_here n t t.running one.task one.here) (once_follows t0 p (ap flat_end_of one.going)) in
    path_ready n mid plays new rest (rw one.in_turn next)

-- what plays behind others tell
pub told_on : (plays more : List Play) → told_of (plays ++ more) ≡ told_of plays ++ told_of more
told_on [] more = refl
told_on (play ∷ plays) more = ap (λ l. play.told ++ l) (told_on plays more) ∙ sym (append_assoc play.told (told_of plays) (told_of more))

-- so plays are the first of the tasks' tries
pub path_in_turn : (n : ℕ) (t : Tasks) {plays : List Play} (new : Tasks) → TaskPath n t plays new → AreInTurn (turns_of n t) plays (turns_of n new)
path_in_turn n t {plays} new path =
    let t0 = turns_of n t in
    let k = length plays in
    let most = sum_by (λ (p : Player). p.left + 1) t0.players in
    let few : k ≤ most = omega (arith, path_still n t plays new path, still_sum t0.players) in
    let split : most ≡ k + (most - k) = omega arith in
    record {
      tried = path_tries n t plays new path;
      rest = (tries (most - k) (turns_of n new)).told;
      begins = ap (λ j. (tries j t0).told) split ∙ ap (λ (a : After). a.told) (path_more n t plays new (most - k) path);
    }

-- ---- where all tasks have ended

ended_by : {t : Turns} (found : Option Player) (rest : Turns → After) → slice_get t.players t.running ≡ found → HaveEnded t → go_on t found rest ≡ record { told = []; turns = t }
ended_by None rest is ended = refl
ended_by {t} (Some p) rest is ended = ap (λ b. cond b (record { told = []; turns = t }) (with_told (once t p).told (rest (once t p).turns))) (ended t.running p is)

ended_tries : (k : ℕ) {t : Turns} → HaveEnded t → tries k t ≡ record { told = []; turns = t }
unfolding tries
ended_tries zero ended = refl
ended_tries (suc k) {t} ended = ended_by (slice_get t.players t.running) (tries k) refl ended

more_by : (k m : ℕ) (t : Turns) (p : Player) (b : Bool) → ((next : Turns) → HaveEnded (tries k next).turns → tries (k + m) next ≡ tries k next)
    → HaveEnded (cond b (record { told = []; turns = t }) (with_told (once t p).told (tries k (once t p).turns))).turns
    → cond b (record { told = []; turns = t }) (with_told (once t p).told (tries (k + m) (once t p).turns))
    ≡ cond b (record { told = []; turns = t }) (with_told (once t p).told (tries k (once t p).turns))
more_by k m t p true rest ended = refl
more_by k m t p false rest ended = ap (with_told (once t p).told) (rest (once t p).turns ended)

more_found : (k m : ℕ) (t : Turns) (found : Option Player) → ((next : Turns) → HaveEnded (tries k next).turns → tries (k + m) next ≡ tries k next)
    → HaveEnded (go_on t found (tries k)).turns → go_on t found (tries (k + m)) ≡ go_on t found (tries k)
more_found k m t None rest ended = refl
more_found k m t (Some p) rest ended = more_by k m t p (is_some p.end) rest ended

-- further tries change nothing
pub more_tries : (k m : ℕ) (t : Turns) → HaveEnded (tries k t).turns → tries (k + m) t ≡ tries k t
unfolding tries
more_tries zero m t ended =
    let same : 0 + m ≡ m = omega arith in
    ap (λ j. tries j t) same ∙ ended_tries m ended
more_tries (suc k) m t ended =
    let same : suc k + m ≡ suc (k + m) = omega arith in
    ap (λ j. tries j t) same ∙ more_found k m t (slice_get t.players t.running) (λ next done. more_tries k m next done) ended

pub path_turns : (n : ℕ) (t : Tasks) (plays : List Play) (new : Tasks) → TaskPath n t plays new → HaveEnded (turns_of n new)
    → turns (turns_of n t) ≡ record { told = told_of plays; turns = turns_of n new }
path_turns n t plays new path ended =
    let t0 = turns_of n t in
    let k = length plays in
    let most = sum_by (λ (p : Player). p.left + 1) t0.players in
    let is = path_tries n t plays new path in
    let few : k ≤ most = omega (arith, path_still n t plays new path, still_sum t0.players) in
    let split : most ≡ k + (most - k) = omega arith in
    let done : HaveEnded (tries k t0).turns = rw is ended in
    ap (λ j. tries j t0) split ∙ more_tries k (most - k) t0 done ∙ is

-- ---- what each comes to

ends_by : {p q : Player} (i : ℕ) (told : List Told) → p.end ≡ None → is_some q.end ≡ true → Follows p q (own_told i told) → EndsAsAlone (alone p) i told q
ends_by i told going over (Ended end is same none) = absurd (let e : ◌≡◌ {A = Option End} None (Some end) = sym going ∙ is in cc)
ends_by i told going over (Going was still shown ends state) = absurd (let e : ◌≡◌ {A = Bool} false true = sym (ap is_some still) ∙ over in cc)
ends_by i told going over (Over was end state shown) = (sym shown, end, state)

pub path_alone : (n : ℕ) (t : Tasks) (plays : List Play) (new : Tasks) → TaskPath n t plays new → HaveEnded (turns_of n new) → (i : ℕ) → (was task : Task) → slice_get t.tasks i ≡ Some was
    → was.end ≡ None → slice_get new.tasks i ≡ Some task
    → EndsAsAlone (alone (player_of n t i was)) i (told_of plays) (player_of n new i task)
path_alone n t plays new path ended i was task here going there =
    let t0 = turns_of n t in
    let is = path_tries n t plays new path in
    let p = player_of n t i was in
    let q = player_of n new i task in
    let follows = apart_from_others (length plays) t0 i p (player_here n t i was here) in
    let stands : Some follows.0 ≡ Some q = sym follows.1 ∙ ap (λ (a : After). slice_get a.turns.players i) is ∙ player_here n new i task there in
    let its : follows.0 ≡ q = cc in
    let same : Follows p q (own_told i (told_of plays)) = rw (is, its) at follows.2 in
    ends_by i (told_of plays) (ap flat_end_of going) (ended i q (player_here n new i task there)) same

-- so the plays that end all tasks are a run of them
pub path_runs : (n : ℕ) (t : Tasks) (plays : List Play) (new : Tasks) → TaskPath n t plays new → HaveEnded (turns_of n new) → HaveRun n t (told_of plays) new
path_runs n t plays new path ended =
    let is = path_turns n t plays new path ended in
    record {
      ended = ended;
      in_turn = sym (ap (λ (a : After). a.turns) is);
      tells = sym (ap (λ (a : After). a.told) is);
      alone = path_alone n t plays new path ended;
    }
