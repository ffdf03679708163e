-- The run of the tasks, from one play to the next.
use Rattle.std.proofs.Common.{◌≡◌, ℕ, ◌+◌, ◌-◌, ◌*◌, ◌<◌, ◌≤◌, Bool, true, false, List, [], ◌∷◌, ◌++◌, length, refl, sym, ap, ap₂, ◌∙◌, arith, subst, inl, inr}
use Rattle.std.specs.Prelude.{◌≢◌, ◌^◌, max, is_some, is_err, slice_get, slice_set, slice_index_or, sum_by, Option, Some, None, Result, Ok, Err}
use Rattle.std.proofs.lemmas.List.{append-nil}
use Rattle.page_cursor.specs.declared.cursor.Cursor.{Cursor}
use Rattle.page_cursor.specs.Cursors.{IsCursor}
use Rattle.flat_machine.specs.FlatMachine.{End as FlatEnd}
use Rattle.kernel_entry.specs.declared.kernel.Kernel.{Kernel}
use Rattle.kernel_entry.specs.declared.kernel.Owed.{Owed}
use Rattle.byte_streams.specs.declared.failure.Failed.{Failed}
use Rattle.byte_streams.specs.Streams.{CutShort, IsSent, Puts}
use Rattle.byte_streams.proofs.KnownBytes.{nothing_sent, appends-nothing}
use Rattle.printed_text.proofs.Gathered.{sent_on, cut_on, all_on, rest_cut}
use Rattle.program_steps.specs.declared.progress.Progress.{Progress}
use Rattle.program_steps.specs.Machines.{Machine}
use Rattle.program_steps.specs.Ready.{most_arrivals, IsGoing, IsQuiet}
use Rattle.parked_tasks.specs.Counting.{arrivals_by, arrivals_made}
use Rattle.std.proofs.lemmas.List.Sums.{sum_by-cons}
use Rattle.std.proofs.lemmas.Nat.{mul-le}
use Rattle.program_steps.specs.Wholes.{whole}
use Rattle.parked_tasks.specs.declared.parked.Parked.{Parked}
use Rattle.parked_tasks.specs.declared.task.Task.{Task}
use Rattle.parked_tasks.specs.declared.task.TaskEnd.{TaskEnd}
use Rattle.task_turns.specs.Quarters.{quarter_part}
use Rattle.task_turns.specs.Turns.{Player, Turns, Told, next_in, ends_of, changed, changed_to, with_player, once, After, HaveEnded}
use Rattle.tk_tasks.specs.States.{Tasks, arrivals_of, owed_of, others_of, machine_of, AreSound, player_of, players_from, turns_of}
use Rattle.parked_tasks.specs.Ends.{flat_end_of}
use Rattle.parked_tasks.specs.Handing.{parked_by}
use Rattle.tk_tasks.specs.Changes.{given_by, given_to, next_task, changed_tasks}
use Rattle.tk_tasks.specs.Plays.{Play, IsPlay, TaskPath, told_of, told_text, counted, HasRunTasks}
use Rattle.tk_tasks.specs.Trying.{HasTried, stub_in, kept_task, kept_tasks, HasPlayed}
use Rattle.tk_tasks.specs.Running.{IsUnderWay, IsCut, HavePut}
use Rattle.task_turns.proofs.Isolation.{IsOnce, once_follows, weight, weight_going, weight_ended}
use Rattle.task_turns.proofs.Ending.{Ready, still}
use Rattle.step_laws.proofs.Ways.{walks_on}
use Rattle.tk_tasks.proofs.Paths.{player_here, path_still, path_in_turn, path_ready, told_on, path_runs}
use Rattle.tk_tasks.proofs.Changing.{running_task}
use Rattle.tk_tasks.proofs.Keeping.{IsBefore}
use Rattle.tk_tasks.proofs.Playing.{IsPlayed, played}
use Rattle.tk_tasks.specs.declared.trying.Tried.{Tried}
use Rattle.tk_tasks.proofs.Telling.{told_text_on}
use Rattle.parked_tasks.proofs.TaskLists.{is_at}

-- ---- reading a task

-- ---- the machine of the running task

pub progress_is : {t : Tasks} (task x : Task) (owed : Option Owed) (others pages : ℕ) → AreSound t → slice_get t.tasks t.running ≡ Some task → task.end ≡ None → x ≡ task → pages ≡ t.pages
    → owed ≡ owed_of x.owed t.stub → others ≡ others_of t task
    → ◌≡◌ {A = Machine} (record {
      kernel = t.kernel;
      at = x.at;
      owed = owed;
      end = None;
      due = x.due;
      torn = None;
      broken = false;
      steps = x.steps;
      crossings = x.crossings;
      natural = x.natural - x.since + x.since;
      entries = x.entries;
      pages = pages;
      since = x.since;
      longest = max x.longest x.since;
      began = 0;
      others = others;
    }) (machine_of t t.running task)
progress_is {t} task x owed others pages sound here going same same_pages owes all =
    let stands = sound.each t.running task here in
    let moves = stands.sound.bounded.moves in
    let natural : task.natural - task.since + task.since ≡ task.natural = omega (arith, moves.since) in
    let longest : max task.longest task.since ≡ task.longest = omega (arith, moves.longest) in
    rw (owes, all, same_pages, same, going, stands.running refl, ← sound.part, natural, longest)

-- the arrivals of the others, as they are counted
same_arrivals : (owed : Option ℕ) (steps : ℕ) → arrivals_by owed steps ≡ most_arrivals (owed_of owed None) steps
same_arrivals None steps = refl
same_arrivals (Some target) steps = refl

same_sums : (tasks : List Task) → sum_by arrivals_made tasks ≡ sum_by arrivals_of tasks
same_sums [] = refl
same_sums (x ∷ xs) = sum_by-cons arrivals_made x xs ∙ ap₂ (λ a b. a + b) (same_arrivals x.owed x.steps) (same_sums xs) ∙ sym (sum_by-cons arrivals_of x xs)

pub others_are : (t : Tasks) (task : Task) (tasks : List Task) → tasks ≡ t.tasks → sum_by arrivals_made tasks - arrivals_made task ≡ others_of t task
others_are t task tasks same = ap₂ (λ a b. a - b) (same_sums tasks ∙ ap (sum_by arrivals_of) same) (same_arrivals task.owed task.steps)

-- the running task, where it has not ended
pub record Begins (t : Tasks) (k : Kernel) (p : Progress) : Type 0 where
  pub task : Task
  pub before : IsBefore t task
  pub going : task.end ≡ None
  pub machine : whole k p ≡ machine_of t t.running task
  pub ready : IsGoing (whole k p)
  pub quiet : IsQuiet (whole k p)
  pub steps : p.steps ≡ task.steps
  pub few : p.steps ≤ 10 ^ 12
  pub quantum : 1 ≤ t.kernel.quantum
  pub room : (machine_of t t.running task).kernel.part ≡ quarter_part t.running

pub begins : {t : Tasks} (k : Kernel) (p : Progress) → AreSound t → t.broken ≡ false → ((task : Task) → slice_get t.tasks t.running ≡ Some task → task.end ≡ None) → k ≡ t.kernel
    → ((task : Task) → slice_get t.tasks t.running ≡ Some task → task.end ≡ None → whole t.kernel p ≡ machine_of t t.running task) → Begins t k p
begins {t} k p sound unbroken going same progress =
    let one = running_task t (slice_get t.tasks t.running) sound.one_runs refl in
    let task = one.0 in
    let goes = going task one.1 in
    let stands = sound.each t.running task one.1 in
    let machine : whole k p ≡ machine_of t t.running task = ap (λ z. whole z p) same ∙ progress task one.1 goes in
    let steps : p.steps ≡ task.steps = ap (λ (m : Machine). m.steps) machine in
    let few = stands.sound.steps in
    let ready = stands.going unbroken goes in
    let some = ready.some in
    let most = ready.most in
    record {
      task = task;
      before = record { sound = sound; whole = unbroken; here = one.1 };
      going = goes;
      machine = machine;
      ready = rw machine ready;
      quiet = subst IsQuiet (sym machine) (stands.quiet unbroken goes);
      steps = steps;
      few = omega arith;
      quantum = omega arith;
      room = refl;
    }

-- what tries of it came to
pub record HasCome (n : ℕ) (t : Tasks) (m : Machine) (tried : Tried) : Type 0 where
  pub task : Task
  pub here : slice_get t.tasks t.running ≡ Some task
  pub all : IsPlayed n t task m tried

pub tried_on : (n : ℕ) {t : Tasks} (k : Kernel) (p : Progress) (left : ℕ) (m : Machine) (tried : Tried) → AreSound t → t.broken ≡ false
    → ((task : Task) → slice_get t.tasks t.running ≡ Some task → task.end ≡ None) → k ≡ t.kernel
    → ((task : Task) → slice_get t.tasks t.running ≡ Some task → task.end ≡ None → whole t.kernel p ≡ machine_of t t.running task) → n ≤ 10 ^ 12 → left ≡ n - p.steps
    → HasTried (whole k p) m left tried → HasCome n t m tried
tried_on n {t} k p left m tried sound unbroken going same progress most left_is has =
    let b = begins k p sound unbroken going same progress in
    let by : HasTried (machine_of t t.running b.task) m (n - b.task.steps) tried = rw (b.machine, (left_is ∙ ap (λ s. n - s) b.steps)) at has in
    record { task = b.task; here = b.before.here; all = played n t b.task m tried most b.before b.going by }

-- ---- the change of the task keeps flash, the layout and the quantum

record Keeps (k k' : Kernel) : Type 0 where
  layout : k'.layout ≡ k.layout
  flash : k'.mote.flash ≡ k.mote.flash
  quantum : k'.quantum ≡ k.quantum

keeps_given : (t : Tasks) (next : ℕ) (parked : Option Parked) → Keeps t.kernel (given_by t next parked).kernel
keeps_given t next None = record { layout = refl; flash = refl; quantum = refl }
keeps_given t next (Some parked) = record { layout = refl; flash = refl; quantum = refl }

keeps_to : (t : Tasks) (next : Option ℕ) → Keeps t.kernel (given_to t next).kernel
keeps_to t None = record { layout = refl; flash = refl; quantum = refl }
keeps_to t (Some next) = keeps_given t next (parked_by (slice_get t.tasks next))

pub changed_quantum : (t : Tasks) → (changed_tasks t).kernel.quantum ≡ t.kernel.quantum
changed_quantum t = (keeps_to t (next_task t)).quantum

-- so the cursor that was right is right
pub cursor_changed : (t s : Tasks) (new : Kernel) (cursor : Cursor) → s ≡ t → new ≡ (changed_tasks t).kernel → IsCursor s.kernel.layout s.kernel.mote.flash.words cursor
    → IsCursor new.layout new.mote.flash.words cursor
cursor_changed t s new cursor same is right =
    let keeps = keeps_to t (next_task t) in
    let layout : new.layout ≡ s.kernel.layout = ap (λ (k : Kernel). k.layout) is ∙ keeps.layout ∙ sym (ap (λ (u : Tasks). u.kernel.layout) same) in
    let flash : new.mote.flash ≡ s.kernel.mote.flash = ap (λ (k : Kernel). k.mote.flash) is ∙ keeps.flash ∙ sym (ap (λ (u : Tasks). u.kernel.mote.flash) same) in
    rw (layout, flash) right

-- ---- what was kept

pub kept_is : (t s : Tasks) (k : Kernel) (stub : Option ℕ) (i : ℕ) (task x y : Task) (m : Machine) (end : Option TaskEnd) (pages : ℕ) → s ≡ t → k ≡ m.kernel → stub ≡ stub_in m.owed → i ≡ s.running
    → x ≡ slice_index_or s.tasks i x → slice_get t.tasks t.running ≡ Some task → y ≡ kept_task x m end → pages ≡ m.pages
    → ◌≡◌ {A = Tasks} (record {
      kernel = k;
      running = s.running;
      stub = stub;
      tasks = slice_set s.tasks i y;
      broken = s.broken;
      natural = s.natural;
      entries = s.entries;
      pages = pages;
      switches = s.switches;
    }) (kept_tasks t task m end)
kept_is t s k stub i task x y m end pages same kernels stubs at index here kept paged =
    let its : x ≡ task = is_at t.tasks t.running x task (index ∙ ap (λ j. slice_index_or s.tasks j x) at ∙ ap (λ (u : Tasks). slice_index_or u.tasks u.running x) same) here in
    rw (at, kernels, stubs, kept, its, paged, same)

-- ---- plays one behind the other

abbrev pub way_start : (n : ℕ) (t : Tasks) (gathered : List ℕ) (known : Option (List ℕ)) → gathered ≡ [] → IsUnderWay n t t gathered known known
way_start n t gathered known empty = record {
  plays = [];
  path = refl;
  sent = rw empty (nothing_sent [] known);
}

pub way_cut_in_turn : {n : ℕ} {old now : Tasks} {gathered : List ℕ} {before after later : Option (List ℕ)} → IsUnderWay n old now gathered before after → CutShort after later (gathered ++ [])
    → IsCut n old now before later
way_cut_in_turn {n} {old} {now} {gathered} {before} {after} {later} way cut =
    let text = told_text old.kernel.quantum (told_of way.plays) in
    record { plays = way.plays; path = way.path; cut = rw (append-nil text) at (cut_on text gathered [] before after later way.sent cut) }

pub sent_in_turn : {text gathered : List ℕ} (mid : List ℕ) {before after : Option (List ℕ)} (later : Option (List ℕ)) → IsSent text gathered before after → IsSent (gathered ++ []) mid after later
    → IsSent text mid before later
sent_in_turn {text} {gathered} mid {before} {after} later first second = rw (append-nil text) at (sent_on text gathered [] mid before after later first second)

pub text_on : (quantum : ℕ) (plays more : List Play) (told : List Told) → told_of more ≡ told → told_text quantum (told_of (plays ++ more)) ≡ told_text quantum (told_of plays)
    ++ told_text quantum told
text_on quantum plays more told is = ap (told_text quantum) (told_on plays more) ∙ told_text_on quantum (told_of plays) (told_of more)
    ∙ ap (λ l. told_text quantum (told_of plays) ++ told_text quantum l) is

abbrev pub way_on : (n : ℕ) (old now new : Tasks) (gathered mid left : List ℕ) (before after later last : Option (List ℕ)) (told : List Told) (count quantum : ℕ)
    → IsUnderWay n old now gathered before after → IsSent (gathered ++ []) mid after later → HasPlayed n now new told count → quantum ≡ old.kernel.quantum
    → IsSent (mid ++ told_text quantum told) left later last → IsUnderWay n old new left before last
way_on n old now new gathered mid left before after later last told count quantum way turn played same sent =
    let q = old.kernel.quantum in
    let text = told_text q (told_of way.plays) in
    let more = rw same at sent in
    record {
      plays = way.plays ++ played.plays;
      path = walks_on (IsPlay n) old now new way.plays played.plays way.path played.path;
      sent = rw (text_on q way.plays played.plays told played.told) (sent_on text mid (told_text q told) left before later last (sent_in_turn mid later way.sent turn) more);
    }

pub way_cut : {n : ℕ} {old now new : Tasks} {gathered : List ℕ} (mid : List ℕ) {before after later last : Option (List ℕ)} {told : List Told} {count : ℕ} (quantum : ℕ)
    → IsUnderWay n old now gathered before after → IsSent (gathered ++ []) mid after later → HasPlayed n now new told count → quantum ≡ old.kernel.quantum
    → CutShort later last (mid ++ told_text quantum told) → IsCut n old new before last
way_cut {n} {old} {now} {new} mid {before} {after} {later} {last} {told} quantum way turn played same cut =
    let q = old.kernel.quantum in
    let text = told_text q (told_of way.plays) in
    let more = rw same at cut in
    record {
      plays = way.plays ++ played.plays;
      path = walks_on (IsPlay n) old now new way.plays played.plays way.path played.path;
      cut = rw (text_on q way.plays played.plays told played.told) (cut_on text mid (told_text q told) before later last (sent_in_turn mid later way.sent turn) more);
    }

-- ---- how many there may be

some_length : (plays : List Play) → plays ≢ [] → 1 ≤ length plays
some_length [] some = absurd (some refl)
some_length (play ∷ plays) some = omega arith

pub still_less : {n : ℕ} {now new : Tasks} {told : List Told} {count : ℕ} → HasPlayed n now new told count → still (turns_of n new).players < still (turns_of n now).players
still_less {n} {now} {new} played = omega (arith, path_still n now played.plays new played.path, some_length played.plays played.some)

switches_to : (t : Turns) (found : Option ℕ) → (changed_to t found).switches ≤ t.switches + 1
switches_to t None = omega arith
switches_to t (Some next) = omega arith

switches_once : {t : Turns} {p : Player} {a : After} → IsOnce t p a → a.turns.switches ≤ t.switches + 1
switches_once {t} {p} {a} one = elim one.next [
  | inl is ↦ (
      let u = with_player t one.q in
      let same : a.turns.switches ≡ (changed u).switches = ap (λ (z : Turns). z.switches) is in
      omega (arith, same, switches_to u (next_in u.running (length u.players) (ends_of u))))
  | inr both ↦ (let same : a.turns.switches ≡ t.switches = ap (λ (z : Turns). z.switches) both.0 in omega (arith, same))
]

path_switches : (n : ℕ) (t : Tasks) (plays : List Play) (new : Tasks) → TaskPath n t plays new → new.switches ≤ t.switches + length plays
path_switches n t [] new is = let same : new.switches ≡ t.switches = ap (λ (z : Tasks). z.switches) (sym is) in omega (arith, same)
path_switches n t (play ∷ plays) new (mid, one, rest) =
    let p = player_of n t t.running one.task in
    let t0 = turns_of n t in
    let once_is = once_follows t0 p (ap flat_end_of one.going) in
    let same : mid.switches ≡ (once t0 p).turns.switches = ap (λ (z : Turns). z.switches) one.in_turn in
    omega (arith, same, switches_once once_is, path_switches n mid plays new rest)

weight_most : (p : Player) (end : Option FlatEnd) → p.end ≡ end → weight p ≤ p.left + 1
weight_most p None is = omega (arith, weight_going p is)
weight_most p (Some end) is = omega (arith, weight_ended p end is)

still_most : (n : ℕ) (t : Tasks) (k : ℕ) (tasks : List Task) → still (players_from n t k tasks) ≤ (n + 1) * length tasks
unfolding still
still_most n t k [] = omega arith
still_most n t k (task ∷ tasks) =
    let p = player_of n t k task in
    let less : p.left ≤ n = omega arith in
    omega (arith, still_most n t (k + 1) tasks, weight_most p p.end refl, less)

pub room_of : {n : ℕ} {old now : Tasks} {gathered : List ℕ} {before after : Option (List ℕ)} → IsUnderWay n old now gathered before after → AreSound old → old.switches ≡ 0 → n ≤ 10 ^ 9
    → now.switches < 2 ^ 63
room_of {n} {old} {now} way sound none few =
    let four = sound.few in
    let most : (n + 1) * length old.tasks ≤ (n + 1) * 4 = mul-le (n + 1) (length old.tasks) (n + 1) 4 (omega arith) four in
    omega (arith, path_switches n old way.plays now way.path, path_still n old way.plays now way.path, still_most n old 0 old.tasks, most, none, few)

-- ---- where all have ended

pub starts : (n : ℕ) {t : Tasks} → AreSound t → ((i : ℕ) (task : Task) → slice_get t.tasks i ≡ Some task → task.end ≡ None) → Ready (turns_of n t)
starts n {t} sound going =
    let one = running_task t (slice_get t.tasks t.running) sound.one_runs refl in
    let p = player_of n t t.running one.0 in
    let none : p.end ≡ None = ap flat_end_of (going t.running one.0 one.1) in
    record { p = p; there = player_here n t t.running one.0 one.1; over = λ ended. absurd (let e : ◌≡◌ {A = Bool} false true = sym (ap is_some none) ∙ ended in cc) }

some_end : (end : Option TaskEnd) → end ≢ None → is_some (flat_end_of end) ≡ true
some_end None some = absurd (some refl)
some_end (Some end) some = refl

pub all_ended : {n : ℕ} {old now : Tasks} {gathered : List ℕ} {before after : Option (List ℕ)} → IsUnderWay n old now gathered before after → AreSound old → AreSound now
    → ((i : ℕ) (task : Task) → slice_get old.tasks i ≡ Some task → task.end ≡ None)
    → ((task : Task) → slice_get now.tasks now.running ≡ Some task → task.end ≢ None) → HaveEnded (turns_of n now)
all_ended {n} {old} {now} way sound still_sound going over =
    let ready = path_ready n old way.plays now way.path (starts n sound going) in
    let one = running_task now (slice_get now.tasks now.running) still_sound.one_runs refl in
    let here = player_here n now now.running one.0 one.1 in
    let same : Some ready.p ≡ Some (player_of n now now.running one.0) = sym ready.there ∙ here in
    let its : ready.p ≡ player_of n now now.running one.0 = cc in
    ready.over (ap (λ (p : Player). is_some p.end) its ∙ some_end one.0.end (over one.0 one.1))

-- ---- what was put

pub sent_all : (result : Result (Unit {0}) Failed) {n : ℕ} {old now : Tasks} {gathered : List ℕ} {before after : Option (List ℕ)} (later : Option (List ℕ))
    → IsUnderWay n old now gathered before after × HaveEnded (turns_of n now) → Puts after later result gathered → HavePut n old now before later result
sent_all (Ok done) {n} {old} {now} {gathered} {before} {after} later (way, ended) put =
    let text = told_text old.kernel.quantum (told_of way.plays) in
    ((record { plays = way.plays; path = way.path; sent = record { sent = text; parts = sym (append-nil text); appended = all_on text gathered before after later way.sent put } }), ended)
sent_all (Err e) {n} {old} {now} {gathered} {before} {after} later (way, ended) put =
    record { plays = way.plays; path = way.path; cut = rest_cut (told_text old.kernel.quantum (told_of way.plays)) gathered before after later way.sent put }

pub has_run : (result : Result (Unit {0}) Failed) {n : ℕ} {old : Tasks} (last new : Tasks) {before after : Option (List ℕ)} → HavePut n old last before after result
    → new ≡ counted last (is_err result)
    → HasRunTasks n old new before after result
has_run (Ok done) {n} {old} last new {before} {after} (way, ended) counts = record {
  plays = way.plays;
  last = last;
  path = way.path;
  counts = counts;
  in_turn = path_in_turn n old last way.path;
  put = all_on (told_text old.kernel.quantum (told_of way.plays)) [] before after after way.sent (appends-nothing after);
  run = path_runs n old way.plays last way.path ended;
}
has_run (Err e) {n} {old} last new cut counts = record {
  plays = cut.plays;
  last = last;
  path = cut.path;
  counts = counts;
  in_turn = path_in_turn n old last cut.path;
  put = cut.cut;
  run = tt;
}

-- ---- the counts of all tasks

-- of the tasks but for what is counted of all of them
pub sound_counts : {t : Tasks} (broken : Bool) (natural entries : ℕ) → t.broken ≡ false → AreSound t → AreSound (record t { broken = broken; natural = natural; entries = entries })
sound_counts broken natural entries unbroken sound = record {
  few = sound.few;
  one_runs = sound.one_runs;
  part = sound.part;
  layout = sound.layout;
  unfailing = sound.unfailing;
  each = λ i task there. (
      let stands = sound.each i task there in
      record {
        running = stands.running;
        waiting = stands.waiting;
        owes = stands.owes;
        sized = stands.sized;
        sound = stands.sound;
        going = λ whole going. stands.going unbroken going;
        quiet = λ whole going. stands.quiet unbroken going;
      });
}

pub natural_most : {t : Tasks} → AreSound t → (i : ℕ) (task : Task) → slice_get t.tasks i ≡ Some task → task.natural ≤ 10 ^ 14
natural_most sound i task there =
    let stands = (sound.each i task there).sound in
    omega (arith, stands.steps, stands.bounded.moves.natural)

pub entries_most : {t : Tasks} → AreSound t → (i : ℕ) (task : Task) → slice_get t.tasks i ≡ Some task → task.entries ≤ 10 ^ 14
entries_most sound i task there =
    let stands = (sound.each i task there).sound in
    omega (arith, stands.steps, stands.bounded.moves.entries)

-- ---- sums over tasks

pub quantum_some : {t : Tasks} → AreSound t → t.broken ≡ false → ((task : Task) → slice_get t.tasks t.running ≡ Some task → task.end ≡ None) → 1 ≤ t.kernel.quantum
quantum_some {t} sound unbroken going =
    let one = running_task t (slice_get t.tasks t.running) sound.one_runs refl in
    let ready = (sound.each t.running one.0 one.1).going unbroken (going one.0 one.1) in
    omega (arith, ready.some, ready.most)

-- the counts that are written down
pub counts_as : (t new : Tasks) (failed : Bool) (natural entries : ℕ) (result : Result (Unit {0}) Failed) → failed ≡ is_err result → natural ≡ sum_by (λ (task : Task). task.natural) t.tasks
    → entries ≡ sum_by (λ (task : Task). task.entries) t.tasks
    → record t { broken = failed; natural = natural; entries = entries } ≡ counted t (is_err result)
counts_as t new failed natural entries result is plain served =
    ap (λ b. record t { broken = b; natural = natural; entries = entries }) is ∙ ap₂ (λ n e. record t { broken = is_err result; natural = n; entries = e }) plain served
