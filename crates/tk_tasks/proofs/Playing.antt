-- Tries of the running task are plays of the tasks.
use Rattle.std.proofs.Common.{length, ◌≡◌, ℕ, zero, suc, ◌+◌, ◌-◌, ◌*◌, ◌<◌, ◌≤◌, Bool, true, false, cond, List, [], ◌∷◌, ◌++◌, refl, sym, ap, ap₂, ◌∙◌, arith, subst}
use Rattle.std.specs.Prelude.{◌≢◌, ◌^◌, ◌==◌, ◌&&◌, is_some, slice_get, slice_set, Option, Some, None}
use Rattle.std.proofs.lemmas.List.{append-nil}
use Rattle.std.proofs.lemmas.Bool.Decides.{nat_tests}
use Rattle.mote_devices.specs.declared.line.Line.{Line}
use Rattle.flat_machine.specs.declared.part.Part.{Part}
use Rattle.flat_machine.specs.FlatMachine.{Program, is_own, is_inside, Moment, End as FlatEnd, Spent as FlatSpent, Wild as FlatWild, Next, Ends, On, Run, run, next_of}
use Rattle.flat_machine.proofs.MachineLaws.{run_wild, run_spent}
use Rattle.kernel_entry.specs.declared.kernel.Stop.{Stop}
use Rattle.kernel_entry.specs.declared.kernel.Stop.TheVariants as stops
use Rattle.kernel_entry.specs.Seen.{program as program_of, end_of}
use Rattle.kernel_entry.specs.declared.kernel.Owed.{Owed}
use Rattle.kernel_entry.specs.declared.kernel.End.TheVariants as ends
use Rattle.step_laws.specs.Moves.{Move, lines_of, line_before}
use Rattle.step_laws.specs.Numbers.{Numbers}
use Rattle.step_laws.specs.States.{Awaited}
use Rattle.step_laws.specs.StepLaws.{Reaches}
use Rattle.step_laws.proofs.NumberLaws.{unmoved}
use Rattle.program_steps.specs.Machines.{Machine, awaited, awaits, state_of, numbers_of, flat_of}
use Rattle.program_steps.specs.Ready.{IsSound, IsGoing, IsQuiet, IsEnded}
use Rattle.program_steps.specs.Stepping.{Goes, StepWay, links_in}
use Rattle.program_steps.proofs.Bounds.{bounds_ready}
use Rattle.program_steps.proofs.Leading.{stays_self}
use Rattle.program_steps.proofs.OneBehindOther.{GoesOn as StepsOn, goes_on_by as steps_on_by}
use Rattle.program_steps.proofs.Waiting.{left_going}
use Rattle.parked_tasks.specs.declared.task.Task.{Task}
use Rattle.parked_tasks.specs.declared.task.TaskEnd.{TaskEnd}
use Rattle.parked_tasks.specs.declared.task.TaskEnd.TheVariants.{Spent, Wild}
use Rattle.tk_tasks.specs.declared.trying.Tried.{Tried}
use Rattle.task_turns.specs.Turns.{Turns, Player, After, Over, played as outcome, rests_by, rests, played_by, tried_by, once_by, once, changed, with_player, told_line, stopped, at_checkpoint, stepped}
use Rattle.task_turns.specs.Turns.{with_told}
use Rattle.tk_tasks.specs.States.{Tasks, machine_of, machine_end, AreSound, player_of, turns_of}
use Rattle.parked_tasks.specs.Ends.{flat_end, flat_end_of}
use Rattle.tk_tasks.specs.Changes.{IsFree}
use Rattle.tk_tasks.specs.Plays.{Play, AreStopped, AreOfTry, GoesOn, IsPlay, TaskPath, told_of, lines_told}
use Rattle.tk_tasks.specs.Trying.{rest_at, rest_if, ended_by, Went, checks, Quietly, IsBehind, HasTried, target_of, stub_in, kept_task, kept_tasks, finished, line_told, end_told, tried_told}
use Rattle.tk_tasks.specs.Trying.{HasPlayed}
use Rattle.task_turns.proofs.Crossings.{undue_unchecked}
use Rattle.tk_tasks.proofs.Trials.{unrested}
use Rattle.tk_tasks.proofs.Changing.{here_is, changed_turns}
use Rattle.tk_tasks.proofs.Keeping.{IsCome, IsBefore, set_same, machine_kept, sound_kept, player_by, turns_kept}
use Rattle.step_laws.proofs.Ways.{walks_on}
use Rattle.tk_tasks.proofs.Paths.{told_on}

-- the running task's machine, what comes next of it, how the task rests, and the player that it is
abbrev machine_in : Tasks → Task → Machine
machine_in u task = machine_of u u.running task

abbrev next_for : Tasks → Task → Next
next_for u task = next_of (program_of (machine_of u u.running task).kernel) (flat_of (machine_of u u.running task))

abbrev rest_in : ℕ → Tasks → Task → Option TaskEnd
rest_in n u task = rest_at (machine_of u u.running task).kernel.part task.at (n - task.steps)

abbrev player_in : ℕ → Tasks → Task → Player
player_in n u task = player_of n u u.running task

-- ---- where a task rests

spent_by : (b : Bool) → cond b (Some FlatSpent) None ≡ flat_end_of (cond b (Some Spent) None)
spent_by true = refl
spent_by false = refl

rests_inside : (part : Part) (program : Program) (m : Moment) {at : ℕ} (left : ℕ) (own : Bool) → part ≡ program.part → at ≡ m.now.cpu.pc → is_own part at ≡ own
    → rests_by (run program m 0).end left ≡ flat_end_of (cond own (cond (left == 0) (Some Spent) None) (Some (Wild at)))
rests_inside part program m left true same here is =
    let inside : is_inside program m.now.cpu.pc ≡ true = ap₂ is_own (sym same) (sym here) ∙ is in
    ap (λ (r : Run). rests_by r.end left) (run_spent program m inside) ∙ spent_by (left == 0)
rests_inside part program m left false same here is =
    let outside : is_inside program m.now.cpu.pc ≡ false = ap₂ is_own (sym same) (sym here) ∙ is in
    ap (λ (r : Run). rests_by r.end left) (run_wild program m 0 outside) ∙ ap (λ a. Some (FlatWild a)) (sym here)

rests_is : (program : Program) (m : Moment) (left : ℕ) → rests_by (run program m 0).end left ≡ flat_end_of (rest_at program.part m.now.cpu.pc left)
rests_is program m left = rests_inside program.part program m left (is_own program.part m.now.cpu.pc) refl refl refl

-- such an end is none of its machine
rest_ends : (own none : Bool) (at : ℕ) → machine_end (cond own (cond none (Some Spent) None) (Some (Wild at))) ≡ None
rest_ends true true at = refl
rest_ends true false at = refl
rest_ends false none at = refl

rest_if_ends : (c : Bool) (part : Part) (at left : ℕ) → machine_end (rest_if c part at left) ≡ None
rest_if_ends true part at left = rest_ends (is_own part at) (left == 0) at
rest_if_ends false part at left = refl

stop_ends : (stop : Stop) → machine_end (Some (ended_by stop)) ≡ Some (ends.Stopped stop)
stop_ends (stops.Read pc a) = refl
stop_ends _ = refl

stop_flat : (stop : Stop) → flat_end (ended_by stop) ≡ end_of stop
stop_flat (stops.Read pc a) = refl
stop_flat _ = refl

-- ---- what is told

line_is : (t : Turns) (line : Option Line) → told_line t line ≡ line_told t.running line
line_is t None = refl
line_is t (Some line) = refl

lines_one : (task : ℕ) (line : Option Line) (end : Option TaskEnd) (steps crossings : ℕ) → lines_told (tried_told task line end steps crossings) ≡ line_before line []
lines_one task None None steps crossings = refl
lines_one task None (Some end) steps crossings = refl
lines_one task (Some line) None steps crossings = refl
lines_one task (Some line) (Some end) steps crossings = refl

-- ---- one play

abbrev turned : Bool → Turns → Turns
turned true t = changed t
turned false t = t

-- what one play of tasks tells, and makes of them in turn, where the running one's machine comes to m
abbrev played_to : (n : ℕ) (u : Tasks) (m : Machine) (line : Option Line) (end : Option TaskEnd) (changes : Bool) → After
played_to n u m line end changes = record { told = tried_told u.running line end m.steps m.crossings; turns = turned changes (with_player (turns_of n u) (player_by n m end)) }

-- what one play takes: the machine that the running task's came to, how, and what the try in turn is
record CanPlay (n : ℕ) (u : Tasks) (task : Task) (m : Machine) (line : Option Line) (end : Option TaskEnd) (changes : Bool) : Type 0 where
  before : IsBefore u task
  going : task.end ≡ None
  come : IsCome u task m end
  moves : List Move
  goes : Goes (machine_in u task) m moves (line_before line [])
  of_try : AreOfTry task.at moves m (outcome (player_in n u task))
  once_is : once (turns_of n u) (player_in n u task) ≡ played_to n u m line end changes

turned_on : (n : ℕ) {u : Tasks} {task : Task} {m : Machine} {end : Option TaskEnd} (changes : Bool) → IsBefore u task → IsCome u task m end
    → turns_of n (finished changes (kept_tasks u task m end)) ≡ turned changes (with_player (turns_of n u) (player_by n m end))
turned_on n {u} {task} {m} {end} true before come = changed_turns n (sound_kept before come) ∙ ap changed (turns_kept n before come)
turned_on n {u} {task} {m} {end} false before come = turns_kept n before come

goes_on_by : (changes : Bool) (v : Tasks) → GoesOn changes v (finished changes v)
goes_on_by true v = refl
goes_on_by false v = refl

abbrev play_of : (n : ℕ) (u : Tasks) (task : Task) (m : Machine) (line : Option Line) (end : Option TaskEnd) (changes : Bool) → CanPlay n u task m line end changes → Play
play_of n u task m line end changes can = record { moves = can.moves; told = tried_told u.running line end m.steps m.crossings; changes = changes }

play_on : {n : ℕ} {u : Tasks} (task : Task) (m : Machine) (line : Option Line) (end : Option TaskEnd) (changes : Bool) → (can : CanPlay n u task m line end changes)
    → IsPlay n u (play_of n u task m line end changes can) (finished changes (kept_tasks u task m end))
play_on {n} {u} task m line end changes can =
    let v = kept_tasks u task m end in
    let before = can.before in
    let alone = (before.sound.each u.running task before.here).running refl in
    let same = machine_kept before.here alone before.sound.part can.come in
    let lines = lines_one u.running line end m.steps m.crossings in
    record {
      sound = before.sound;
      whole = before.whole;
      task = task;
      here = before.here;
      going = can.going;
      mid = v;
      next = kept_task task m end;
      tried = record {
        goes = subst (λ z. Goes (machine_in u task) z can.moves (lines_told (tried_told u.running line end m.steps m.crossings))) (sym same)
            (subst (Goes (machine_in u task) m can.moves) (sym lines) can.goes);
        tasks = refl;
        running = refl;
        switches = refl;
        sound = sound_kept before can.come;
      };
      of_try = rw same can.of_try;
      behind = goes_on_by changes v;
      in_turn = turned_on n changes before can.come ∙ sym (ap (λ (a : After). a.turns) can.once_is);
      told = sym (ap (λ (a : After). a.told) can.once_is);
    }

-- ---- what a try comes to

played_rests : (n : ℕ) (u : Tasks) (task : Task) (end : TaskEnd) → rest_in n u task ≡ Some end → outcome (player_in n u task) ≡ Over (flat_end end)
played_rests n u task end rest =
    let p = player_in n u task in
    ap (tried_by p) (rests_is p.program p.moment p.left ∙ ap flat_end_of rest)

played_tries : (n : ℕ) (u : Tasks) (task : Task) (next : Next) → rest_in n u task ≡ None
    → next_for u task ≡ next → outcome (player_in n u task) ≡ played_by (player_in n u task) next
played_tries n u task next rest is =
    let p = player_in n u task in
    ap (tried_by p) (rests_is p.program p.moment p.left ∙ ap flat_end_of rest) ∙ ap (played_by p) is

nothing_tried : (own none : Bool) (pc at : ℕ) (m : Machine) {end : TaskEnd} → cond own (cond none (Some Spent) None) (Some (Wild pc)) ≡ Some end → AreOfTry at [] m (Over (flat_end end))
nothing_tried true true pc at m {end} is = let e : Spent ≡ end = cc in subst (λ (z : TaskEnd). AreOfTry at [] m (Over (flat_end z))) e refl
nothing_tried true false pc at m is = absurd (cc)
nothing_tried false none pc at m {end} is = let e : Wild pc ≡ end = cc in subst (λ (z : TaskEnd). AreOfTry at [] m (Over (flat_end z))) e refl

stop_tried : (stop : Stop) {at : ℕ} {moves : List Move} (m : Machine) → AreStopped at moves m.end → AreOfTry at moves m (Over (end_of stop))
stop_tried (stops.Halted pc) m made = made
stop_tried (stops.Asleep pc) m made = made
stop_tried (stops.Illegal pc) m made = made
stop_tried (stops.SelfProgram pc) m made = made
stop_tried (stops.Read pc a) m made = made
stop_tried (stops.Io pc a) m made = made
stop_tried (stops.Stack pc a) m made = made
stop_tried (stops.SwapFull pc a) m made = made

-- ---- a task that rests

once_rests : (n : ℕ) (u : Tasks) (task : Task) (end : TaskEnd) → rest_in n u task ≡ Some end
    → once (turns_of n u) (player_in n u task) ≡ stopped (turns_of n u) (player_in n u task) (flat_end end)
once_rests n u task end rest =
    let p = player_in n u task in
    ap (λ o. once_by (turns_of n u) p (tried_by p o)) (rests_is p.program p.moment p.left ∙ ap flat_end_of rest)

can_rest : {n : ℕ} {u : Tasks} {task : Task} (end : TaskEnd) → IsBefore u task → task.end ≡ None → rest_in n u task ≡ Some end → CanPlay n u task (machine_in u task) None (Some end) true
unfolding lines_of
can_rest {n} {u} {task} end before going rest =
    let x = machine_in u task in
    let stands = before.sound.each u.running task before.here in
    let no_end : x.end ≡ None = ap machine_end going in
    record {
      before = before;
      going = going;
      come = record {
        left = left_going x (stands.going before.whole going);
        stays = stays_self x;
        sound = stands.sound;
        going = λ none. absurd (let e : Some end ≡ None = none in cc);
        quiet = λ none. absurd (let e : Some end ≡ None = none in cc);
        ended = (ap machine_end (sym rest) ∙ rest_ends (is_own x.kernel.part task.at) ((n - task.steps) == 0) task.at) ∙ sym no_end;
        whole = refl;
        began = refl;
        others = refl;
      };
      moves = [];
      goes = record { walk = refl; told = refl; numbers = refl };
      of_try = rw (played_rests n u task end rest) (nothing_tried (is_own x.kernel.part task.at) ((n - task.steps) == 0) task.at task.at x rest);
      once_is = once_rests n u task end rest;
    }

-- ---- a task that makes a step, or is stopped

once_tries : (n : ℕ) (u : Tasks) (task : Task) (next : Next) → task.end ≡ None → rest_in n u task ≡ None → next_for u task ≡ next
    → once (turns_of n u) (player_in n u task) ≡ once_by (turns_of n u) (player_in n u task) (played_by (player_in n u task) next)
once_tries n u task next going rest is =
    let p = player_in n u task in
    ap (λ o. once_by (turns_of n u) p (tried_by p o)) (rests_is p.program p.moment p.left ∙ ap flat_end_of rest) ∙ ap (λ z. once_by (turns_of n u) p (played_by p z)) is

-- the player behind the step
next_player : (n : ℕ) (u : Tasks) (task : Task) (m : Machine) → task.end ≡ None → program_of m.kernel ≡ program_of (machine_in u task).kernel → m.steps ≡ task.steps + 1
    → record (player_in n u task) { moment = flat_of m; left = n - task.steps - 1 } ≡ player_by n m None
next_player n u task m going program steps =
    let less : n - task.steps - 1 ≡ n - m.steps = omega arith in
    rw (going, program, less)

step_rests : (t : Turns) (n : ℕ) (m : Machine) (line : Option Line) (rest : Option TaskEnd) (found : Option FlatEnd) → found ≡ flat_end_of rest
    → with_told (told_line t line) (at_checkpoint t (player_by n m None) found)
    ≡ record { told = told_line t line ++ end_told t.running rest m.steps m.crossings; turns = changed (with_player t (player_by n m rest)) }
step_rests t n m line None found is = rw is
step_rests t n m line (Some end) found is = rw is

step_checks : (t : Turns) (n : ℕ) (m : Machine) (line : Option Line) (c : Bool) → with_told (told_line t line) (stepped t (player_by n m None) c)
    ≡ record {
      told = told_line t line
          ++ end_told t.running (rest_if c m.kernel.part m.at (n - m.steps)) m.steps m.crossings;
      turns = turned c (with_player t (player_by n m (rest_if c m.kernel.part m.at (n - m.steps))));
    }
step_checks t n m line false = refl
step_checks t n m line true =
    let p = player_by n m None in
    step_rests t n m line (rest_at m.kernel.part m.at (n - m.steps)) (rests p) (rests_is p.program p.moment p.left)

once_goes : (n : ℕ) (u : Tasks) (task : Task) (m : Machine) (line : Option Line) → task.end ≡ None → rest_in n u task ≡ None
    → program_of m.kernel ≡ program_of (machine_in u task).kernel → m.steps ≡ task.steps + 1 → next_for u task ≡ On line (flat_of m) → (c : Bool) → checks (machine_in u task) m ≡ c
    → once (turns_of n u) (player_in n u task) ≡ played_to n u m line (rest_if c m.kernel.part m.at (n - m.steps)) c
once_goes n u task m line going rest program steps is c checked =
    let t = turns_of n u in
    once_tries n u task (On line (flat_of m)) going rest is
    ∙ ap₂ (λ p b. with_told (told_line t line) (stepped t p b)) (next_player n u task m going program steps) checked
    ∙ step_checks t n m line c
    ∙ ap (λ l. record {
      told = l
          ++ end_told u.running (rest_if c m.kernel.part m.at (n - m.steps)) m.steps m.crossings;
      turns = turned c (with_player t (player_by n m (rest_if c m.kernel.part m.at (n - m.steps))));
    })
    (line_is t line)

-- what every try leaves
come_by : {u : Tasks} {task : Task} {m : Machine} (line : Option Line) {end : Option TaskEnd} → Went (machine_in u task) m line → IsSound m → (end ≡ None → IsGoing m × IsQuiet m)
    → machine_end end ≡ m.end → IsCome u task m end
come_by {u} {task} line went sound going ended =
    let x = machine_in u task in
    record {
      left = went.left;
      stays = went.stays;
      sound = sound;
      going = λ none. (going none).0;
      quiet = λ none. (going none).1;
      ended = ended;
      whole = went.broken;
      began = ap (λ (z : Numbers). z.began) went.goes.numbers ∙ (unmoved went.moves (numbers_of x)).0;
      others = ap (λ (z : Numbers). z.others) went.goes.numbers ∙ (unmoved went.moves (numbers_of x)).1;
    }

can_go : {n : ℕ} {u : Tasks} {task : Task} {m : Machine} (line : Option Line) → IsBefore u task → task.end ≡ None → n ≤ 10 ^ 12 → rest_in n u task ≡ None → Went (machine_in u task) m line
    → IsGoing m → IsQuiet m → m.steps ≡ task.steps + 1 → next_for u task ≡ On line (flat_of m)
    → CanPlay n u task m line (rest_if (checks (machine_in u task) m) m.kernel.part m.at (n - m.steps)) (checks (machine_in u task) m)
can_go {n} {u} {task} {m} line before going most rest went ready quiet steps is =
    let x = machine_in u task in
    let some = unrested x.kernel.part task.at (n - task.steps) rest in
    record {
      before = before;
      going = going;
      come = come_by line went (record { order = ready.order; bounded = bounds_ready m ready; steps = omega (arith, some.1) }) (λ e. (ready, quiet))
          (rest_if_ends (checks x m) m.kernel.part m.at (n - m.steps) ∙ sym ready.going);
      moves = went.moves;
      goes = went.goes;
      of_try = rw (played_tries n u task (On line (flat_of m)) rest is) (record { step = went.of_step; ready = ready });
      once_is = once_goes n u task m line going rest went.stays.program steps is (checks x m) refl;
    }

once_stops : (n : ℕ) (u : Tasks) (task : Task) (m : Machine) (stop : Stop) → task.end ≡ None → rest_in n u task ≡ None
    → program_of m.kernel ≡ program_of (machine_in u task).kernel → m.steps ≡ task.steps → next_for u task ≡ Ends (end_of stop) → flat_of m ≡ flat_of (machine_in u task)
    → once (turns_of n u) (player_in n u task) ≡ played_to n u m None (Some (ended_by stop)) true
once_stops n u task m stop going rest program steps is same =
    once_tries n u task (Ends (end_of stop)) going rest is ∙ rw (stop_flat stop, program, same, steps, ap (λ (f : Moment). f.now.crossings) same)

can_stop : {n : ℕ} {u : Tasks} {task : Task} {m : Machine} (line : Option Line) (stop : Stop) → IsBefore u task → task.end ≡ None → rest_in n u task ≡ None → Went (machine_in u task) m line
    → IsEnded m → m.end ≡ Some (ends.Stopped stop) → line ≡ None → m.steps ≡ task.steps → next_for u task ≡ Ends (end_of stop) → flat_of m ≡ flat_of (machine_in u task)
    → CanPlay n u task m None (Some (ended_by stop)) true
can_stop {n} {u} {task} {m} line stop before going rest went over kept none steps is same =
    record {
      before = before;
      going = going;
      come = come_by line went (record { order = over.order; bounded = over.bounded; steps = omega (arith, (before.sound.each u.running task before.here).sound.steps) })
          (λ e. absurd (let bad : Some (ended_by stop) ≡ None = e in cc)) (stop_ends stop ∙ sym kept);
      moves = went.moves;
      goes = rw none at went.goes;
      of_try = subst (AreOfTry task.at went.moves m) (sym (played_tries n u task (Ends (end_of stop)) rest is))
          (stop_tried stop m (record { step = went.of_step; stop = stop; stops = kept }));
      once_is = once_stops n u task m stop going rest went.stays.program steps is same;
    }

-- ---- several plays

-- plays that told nothing led to tasks whose running one's machine is m
record Stood (n : ℕ) (t : Tasks) (task : Task) (k : ℕ) (m : Machine) : Type 0 where
  u : Tasks
  its : Task
  before : IsBefore u its
  going : its.end ≡ None
  machine : machine_in u its ≡ m
  plays : List Play
  path : TaskPath n t plays u
  told : told_of plays ≡ []
  long : length plays ≡ k
  running : u.running ≡ t.running
  quantum : u.kernel.quantum ≡ t.kernel.quantum
  steps : m.steps ≡ task.steps + k
  same : (z : Machine) → (end : Option TaskEnd) → kept_tasks u its z end ≡ kept_tasks t task z end

stood_here : (n : ℕ) {t : Tasks} {task : Task} → IsBefore t task → task.end ≡ None → Stood n t task 0 (machine_in t task)
stood_here n {t} {task} before going = record {
  u = t;
  its = task;
  before = before;
  going = going;
  machine = refl;
  plays = [];
  path = refl;
  told = refl;
  long = refl;
  running = refl;
  quantum = refl;
  steps = omega arith;
  same = λ z end. refl;
}

set_twice : (tasks : List Task) (i : ℕ) (x y : Task) → slice_set (slice_set tasks i x) i y ≡ slice_set tasks i y
set_twice [] i x y = refl
set_twice (a ∷ tasks) zero x y = refl
set_twice (a ∷ tasks) (suc i) x y = ap (λ l. a ∷ l) (set_twice tasks i x y)

told_behind : (plays : List Play) (play : Play) → told_of plays ≡ [] → told_of (plays ++ play ∷ []) ≡ play.told
told_behind plays play none = told_on plays (play ∷ []) ∙ ap (λ l. l ++ (play.told ++ [])) none ∙ append-nil play.told

length_behind : (plays : List Play) (play : Play) → length (plays ++ play ∷ []) ≡ length plays + 1
length_behind [] play = refl
length_behind (p ∷ plays) play = omega (arith, length_behind plays play)

-- where one stands in its part with a step left, it rests not
unrests : (part : Part) (at left : ℕ) → is_own part at ≡ true → 1 ≤ left → rest_at part at left ≡ None
unrests part at left own some =
    let more : (left == 0) ≡ false = grind (arith, nat_tests) in
    rw (own, more)

-- one more
stood_on : {n : ℕ} {t : Tasks} {task : Task} {k : ℕ} {y m : Machine} → n ≤ 10 ^ 12 → Stood n t task k y → rest_at y.kernel.part y.at (n - y.steps) ≡ None → Went y m None → IsGoing m
    → checks y m ≡ false → Stood n t task (suc k) m
stood_on {n} {t} {task} {k} {y} {m} most stood rest went ready unchecked =
    let u = stood.u in
    let its = stood.its in
    let Ways : Machine → Type 0 = λ z. rest_at z.kernel.part z.at (n - z.steps) ≡ None × Went z m None × (checks z m ≡ false) in
    let facts : Ways (machine_in u its) = subst Ways (sym stood.machine) (rest, went, unchecked) in
    let x = machine_in u its in
    let gone = steps_on_by x m None facts.1.way ready.going in
    let can = can_go None stood.before stood.going most facts.0 facts.1 gone.ready gone.quiet gone.steps gone.next in
    let none : rest_if (checks x m) m.kernel.part m.at (n - m.steps) ≡ None = ap (λ c. rest_if c m.kernel.part m.at (n - m.steps)) facts.2 in
    let Can : Option TaskEnd → Bool → Type 0 = λ e c. CanPlay n u its m None e c in
    let can' : Can None false = subst (λ e. Can e false) none (subst (λ c. Can (rest_if (checks x m) m.kernel.part m.at (n - m.steps)) c) facts.2 can) in
    let v = kept_tasks u its m None in
    let one = play_on its m None None false can' in
    let play = play_of n u its m None None false can' in
    let here = set_same u.tasks u.running its (kept_task its m None) stood.before.here in
    record {
      u = v;
      its = kept_task its m None;
      before = record { sound = sound_kept stood.before can'.come; whole = stood.before.whole; here = here };
      going = refl;
      machine = machine_kept stood.before.here ((stood.before.sound.each u.running its stood.before.here).running refl) stood.before.sound.part can'.come;
      plays = stood.plays ++ play ∷ [];
      path = walks_on (IsPlay n) t u v stood.plays (play ∷ []) stood.path (v, one, refl);
      told = told_behind stood.plays play stood.told;
      long = omega (arith, length_behind stood.plays play, stood.long);
      running = stood.running;
      quantum = can'.come.stays.quantum ∙ stood.quantum;
      steps = (
          let at : y.steps ≡ its.steps = ap (λ (z : Machine). z.steps) (sym stood.machine) in
          omega (arith, stood.steps, gone.steps));
      same = λ z end. (ap (λ l. record u { kernel = z.kernel; stub = stub_in z.owed; tasks = l; pages = z.pages }) (set_twice u.tasks u.running (kept_task its m None) (kept_task its z end)))
          ∙ stood.same z end;
    }

quietly_stood : {n : ℕ} {t : Tasks} {task : Task} (k : ℕ) (m : Machine) → n ≤ 10 ^ 12 → IsBefore t task → task.end ≡ None → rest_in n t task ≡ None → k < n - task.steps
    → Quietly k (machine_in t task) m
    → Stood n t task k m × (rest_at m.kernel.part m.at (n - m.steps) ≡ None)
quietly_stood {n} {t} {task} zero m most before going rest few same =
    let Stands : Machine → Type 0 = λ z. Stood n t task 0 z × (rest_at z.kernel.part z.at (n - z.steps) ≡ None) in
    subst Stands same (stood_here n before going, rest)
quietly_stood {n} (suc k) m most before going rest few (y, earlier, went, ready, inside, unchecked) =
    let so_far = quietly_stood k y most before going rest (omega arith) earlier in
    let stood = stood_on most so_far.0 so_far.1 went ready unchecked in
    (stood, unrests m.kernel.part m.at (n - m.steps) inside (omega (arith, stood.steps)))

-- ---- the last

-- at a checkpoint an arrival is owed, and no stub asked for it
stub_at : Option Awaited → Option ℕ
stub_at None = None
stub_at (Some owed) = owed.stub

stub_same : (owed : Option Owed) (due : Bool) → stub_in owed ≡ stub_at (awaited owed due)
unfolding stub_at
stub_same None due = refl
stub_same (Some owed) due = refl

owed_stub : (m : Machine) (due : Bool) → Reaches (links_in m) m.at due (state_of m) → due ≡ true → stub_in m.owed ≡ None
unfolding stub_at
owed_stub m due (Reaches.Placed undue free entry) is = absurd (let e : ◌≡◌ {A = Bool} true false = sym is ∙ undue in cc)
owed_stub m due (Reaches.Owing stub alone owes of) is = stub_same m.owed m.due ∙ ap stub_at owes ∙ alone is

owes_by : (m : Machine) (owed : Option Owed) → m.owed ≡ owed → IsQuiet m → m.due ≡ true → (is_some owed ≡ true) × (target_of owed ≢ None)
owes_by m None is quiet due = absurd (let e : ◌≡◌ {A = Bool} true false = sym due ∙ quiet is in cc)
owes_by m (Some owed) is quiet due = (refl, λ none. let e : Some owed.target ≡ None = none in cc)

due_by : (y m : Machine) (line : Option Line) (due : Bool) → m.due ≡ due → next_of (program_of y.kernel) (flat_of y) ≡ On line (flat_of m) → checks y m ≡ true → m.due ≡ true
due_by y m line true is next checked = is
due_by y m line false is next checked = absurd (let e : ◌≡◌ {A = Bool} true false = sym checked ∙ undue_unchecked (program_of y.kernel) (flat_of y) (flat_of m) line next is in cc)

checkpoint_owes : {y m : Machine} {line : Option Line} → StepsOn y m line → checks y m ≡ true → (stub_in m.owed ≡ None) × (target_of m.owed ≢ None)
checkpoint_owes {y} {m} {line} gone checked =
    let due = due_by y m line m.due refl gone.next checked in
    let owes = owes_by m m.owed refl gone.quiet due in
    let awaits_is : awaits m ≡ true = ap₂ (λ a b. a && b) owes.0 due in
    (owed_stub m (awaits m) gone.ready.stands awaits_is, owes.1)

free_kept : (u : Tasks) (its : Task) (m : Machine) (end : Option TaskEnd) → slice_get u.tasks u.running ≡ Some its → (end ≡ None → (stub_in m.owed ≡ None) × (target_of m.owed ≢ None))
    → IsFree (kept_tasks u its m end)
free_kept u its m end here free = λ task there going.
    let v = kept_tasks u its m end in
    let same : kept_task its m end ≡ task = here_is v.tasks u.running (kept_task its m end) task (set_same u.tasks u.running its (kept_task its m end) here) there in
    let none = free (ap (λ (z : Task). z.end) same ∙ going) in
    (none.0, subst (λ (z : Task). z.owed ≢ None) same none.1)

-- what tries leave of the tasks
pub record IsPlayed (n : ℕ) (t : Tasks) (task : Task) (m : Machine) (tried : Tried) : Type 0 where
  pub sound : AreSound (kept_tasks t task m tried.end)
  pub free : tried.changes ≡ true → IsFree (kept_tasks t task m tried.end)
  pub quantum : m.kernel.quantum ≡ t.kernel.quantum
  pub natural : m.natural ≤ 40 * (10 ^ 12 + 1)
  pub played : HasPlayed n t (finished tried.changes (kept_tasks t task m tried.end)) (tried_told t.running tried.line tried.end m.steps m.crossings) tried.count

nothing_less : (plays : List Play) (play : Play) → plays ++ play ∷ [] ≢ []
nothing_less [] play none = cc
nothing_less (p ∷ plays) play none = cc

played_by_last : {n : ℕ} (t : Tasks) (task : Task) (k : ℕ) (y : Machine) {m : Machine} (tried : Tried) → tried.count ≡ k + 1 → (stood : Stood n t task k y)
    → CanPlay n stood.u stood.its m tried.line tried.end tried.changes
    → (tried.changes ≡ true → tried.end ≡ None → (stub_in m.owed ≡ None) × (target_of m.owed ≢ None)) → IsPlayed n t task m tried
played_by_last {n} t task k y {m} tried counted stood can free =
    let u = stood.u in
    let its = stood.its in
    let v = kept_tasks u its m tried.end in
    let same = stood.same m tried.end in
    let play = play_of n u its m tried.line tried.end tried.changes can in
    let one = play_on its m tried.line tried.end tried.changes can in
    let new = finished tried.changes v in
    record {
      sound = rw same at (sound_kept stood.before can.come);
      quantum = can.come.stays.quantum ∙ stood.quantum;
      natural = omega (arith, can.come.sound.bounded.moves.natural, can.come.sound.steps);
      free = λ changes. subst IsFree same (free_kept u its m tried.end stood.before.here (free changes));
      played = subst (λ z. HasPlayed n t (finished tried.changes z) (tried_told t.running tried.line tried.end m.steps m.crossings) tried.count) same (record {
        plays = stood.plays ++ play ∷ [];
        counted = omega (arith, length_behind stood.plays play, stood.long, counted);
        path = walks_on (IsPlay n) t u new stood.plays (play ∷ []) stood.path (new, one, refl);
        told = told_behind stood.plays play stood.told ∙ ap (λ r. tried_told r tried.line tried.end m.steps m.crossings) stood.running;
        some = nothing_less stood.plays play;
      });
    }

no_changes : (tried : Tried) (end : TaskEnd) → tried.end ≡ Some end → tried.changes ≡ true → tried.end ≡ None → ⊥
no_changes tried end is changes none = (let e : Some end ≡ None = sym is ∙ none in absurd (cc))

rests_played : {n : ℕ} {t : Tasks} {task : Task} {m : Machine} {tried : Tried} (end : TaskEnd) → IsBefore t task → task.end ≡ None → rest_in n t task ≡ Some end
    → m ≡ machine_in t task → tried ≡ record { line = None; end = Some end; changes = true; count = 1 } → IsPlayed n t task m tried
unfolding stood_here
rests_played {n} {t} {task} end before going rest same is =
    let x = machine_in t task in
    let all : IsPlayed n t task x (record { line = None; end = Some end; changes = true; count = 1 }) =
    played_by_last t task 0 x (record { line = None; end = Some end; changes = true; count = 1 }) refl (stood_here n before going) (can_rest end before going rest)
    (λ changes none. absurd (let e : Some end ≡ None = none in cc)) in
    rw (is, same) all

-- the machine where the last play begins is that of its tasks
can_behind : {n : ℕ} (t : Tasks) (task : Task) (k : ℕ) {left : ℕ} {y m : Machine} {tried : Tried} → n ≤ 10 ^ 12 → (stood : Stood n t task k y) → left ≡ n - (y.steps + 1)
    → rest_at y.kernel.part y.at (n - y.steps) ≡ None → Went y m tried.line → StepWay y m tried.line → IsBehind y m left tried
    → CanPlay n stood.u stood.its m tried.line tried.end tried.changes × (tried.changes ≡ true → tried.end ≡ None → (stub_in m.owed ≡ None) × (target_of m.owed ≢ None))
can_behind {n} t task k {left} {y} {m} {tried} most stood left_is rest went way (IsBehind.On ready changes end) =
    let u = stood.u in
    let its = stood.its in
    let x = machine_in u its in
    let gone_y = steps_on_by y m tried.line way ready.going in
    let Ways : Machine → Type 0 = λ z. rest_at z.kernel.part z.at (n - z.steps) ≡ None × Went z m tried.line × StepsOn z m tried.line × (checks z m ≡ checks y m) in
    let facts : Ways x = subst Ways (sym stood.machine) (rest, went, gone_y, refl) in
    let gone = facts.2 in
    let can = can_go tried.line stood.before stood.going most facts.0 facts.1 gone.ready gone.quiet gone.steps gone.next in
    let steps : left ≡ n - m.steps = left_is ∙ ap (λ s. n - s) (sym gone_y.steps) in
    let end_is : rest_if (checks x m) m.kernel.part m.at (n - m.steps) ≡ tried.end = ap (λ c. rest_if c m.kernel.part m.at (n - m.steps)) facts.3
    ∙ ap (rest_if (checks y m) m.kernel.part m.at) (sym steps) ∙ sym end in
    let changes_is : checks x m ≡ tried.changes = facts.3 ∙ sym changes in (
      rw (end_is, changes_is) at can,
      λ changed none. checkpoint_owes gone_y (sym changes ∙ changed),
    )
can_behind t task k most stood left_is rest went (StepWay.On ready quiet steps is) (IsBehind.Over stop kept changes end) =
    absurd (let e : Some (ends.Stopped stop) ≡ None = sym kept ∙ ready.going in cc)
can_behind {n} t task k {left} {y} {m} {tried} most stood left_is rest went (StepWay.Stopped stop over kept none steps is same) (IsBehind.Over stop' kept' changes end) =
    let u = stood.u in
    let its = stood.its in
    let x = machine_in u its in
    let one : stop' ≡ stop = (let e : Some (ends.Stopped stop') ≡ Some (ends.Stopped stop) = sym kept' ∙ kept in cc) in
    let Ways : Machine → Type 0 =
    λ z. rest_at z.kernel.part z.at (n - z.steps) ≡ None × Went z m tried.line × (m.steps ≡ z.steps) × (next_of (program_of z.kernel) (flat_of z) ≡ Ends (end_of stop)) × (flat_of m ≡ flat_of z) in
    let facts : Ways x = subst Ways (sym stood.machine) (rest, went, steps, is, same) in
    let can = can_stop tried.line stop stood.before stood.going facts.0 facts.1 over kept none facts.2 facts.3 facts.4 in
    let end_is : Some (ended_by stop) ≡ tried.end = ap (λ s. Some (ended_by s)) (sym one) ∙ sym end in (
      rw (none, changes) (rw end_is at can),
      λ changed gone. absurd (no_changes tried (ended_by stop') end changed gone),
    )

pub played : (n : ℕ) (t : Tasks) (task : Task) (m : Machine) (tried : Tried) → n ≤ 10 ^ 12 → IsBefore t task → task.end ≡ None → HasTried (machine_in t task) m (n - task.steps) tried
    → IsPlayed n t task m tried
played n t task m tried most before going (HasTried.Rests end rest same is) = rests_played end before going rest same is
played n t task m tried most before going (HasTried.Steps earlier last none few counted quietly went behind) =
    let stood = quietly_stood earlier last most before going none few quietly in
    let left_is : n - task.steps - (earlier + 1) ≡ n - (last.steps + 1) = omega (arith, stood.0.steps) in
    let can = can_behind t task earlier most stood.0 left_is stood.1 went went.way behind in
    played_by_last t task earlier last tried counted stood.0 can.0 can.1
