-- Tasks in turn, each over a flat memory of its own: no mote is shared, and no task reads anything of another
-- (docs/TASKS.md, "In turn").
use Rattle.std.specs.Prelude.{◌≡◌, ℕ, zero, suc, ◌+◌, ◌-◌, ◌%◌, Bool, true, false, not, ◌&&◌, ◌==◌, nat_lt, is_some, if◌then◌else◌, List, [], ◌∷◌, ◌++◌, length, map, sum_by, slice_index_or, slice_get}
use Rattle.std.specs.Prelude.{slice_set, Option, Some, None}
use Rattle.std.specs.List.{range_with_len, find}
use Rattle.input_script.specs.declared.input.Event.{Event}
use Rattle.mote_devices.specs.declared.line.Line.{Line}
use Rattle.flat_machine.specs.FlatMachine.{Program, FlatState, Moment, End, Spent, Wild, Next, Ends, On, next_of, Run, run, at_front}

-- a task: its program, where it stands, how many steps it may still do, and how it ended, once it has
pub record Player : Type 0 where
  pub program : Program
  pub moment : Moment
  pub left : ℕ
  pub end : Option End

-- the tasks, the number of the one that is stepped, and how often it was changed
pub record Turns : Type 0 where
  pub players : List Player
  pub running : ℕ
  pub switches : ℕ

-- what a task shows: a device line, or its stop line
pub data Shown : Type 0 where
  Wrote : (line : Line) → Shown
  Stops : (end : End) → (steps crossings : ℕ) → Shown

-- with the number of its task
pub record Told : Type 0 where
  pub task : ℕ
  pub shown : Shown

-- A step is a checkpoint where it is a crossing, and the crossings are then a multiple of the quantum. An interrupt that is
-- taken is no crossing, and a SLEEP that one ends may be.
abbrev pub is_checkpoint : ℕ → FlatState → FlatState → Bool
is_checkpoint quantum old new = nat_lt old.crossings new.crossings && (new.crossings % quantum == 0)

-- the end of a task that makes no further step: it is outside its part of the image, or all its steps are done
abbrev pub rests_by : End → ℕ → Option End
rests_by (Wild pc) left = Some (Wild pc)
rests_by _ left = if left == 0 then Some Spent else None

abbrev pub rests : Player → Option End
rests p = rests_by (run p.program p.moment 0).end p.left

-- what one try of a task comes to: an end, or a step with its line, and the task as it then is
pub data Played : Type 0 where
  Over : (end : End) → Played
  Gone : (line : Option Line) → (checkpoint : Bool) → (next : Player) → Played

abbrev pub played_by : Player → Next → Played
played_by p (Ends end) = Over end
played_by p (On line moment) = Gone line (is_checkpoint p.program.quantum p.moment.now moment.now) (record p { moment = moment; left = p.left - 1 })

abbrev pub tried_by : Player → Option End → Played
tried_by p (Some end) = Over end
tried_by p None = played_by p (next_of p.program p.moment)

abbrev pub played : Player → Played
played p = tried_by p (rests p)

-- of so many tasks those behind this one, in turn, and then those before it
abbrev pub others : (running count : ℕ) → List ℕ
others running count = range_with_len (running + 1) (count - (running + 1)) ++ range_with_len 0 running

-- a task has ended, where these are their ends
abbrev pub has_ended : List (Option End) → ℕ → Bool
has_ended ends task = is_some (slice_index_or ends task None)

-- the next in turn that has not
abbrev pub next_in : (running count : ℕ) → List (Option End) → Option ℕ
next_in running count ends = find (λ task. not (has_ended ends task)) (others running count)

abbrev pub ends_of : Turns → List (Option End)
ends_of t = map (λ p. p.end) t.players

-- the next task that has not ended is stepped; where there is no other, the same goes on
abbrev pub changed_to : Turns → Option ℕ → Turns
changed_to t None = t
changed_to t (Some next) = record t { running = next; switches = t.switches + 1 }

abbrev pub changed : Turns → Turns
changed t = changed_to t (next_in t.running (length t.players) (ends_of t))

abbrev pub with_player : Turns → Player → Turns
with_player t p = record t { players = slice_set t.players t.running p }

-- what is told of the task that is stepped
abbrev pub told : Turns → Shown → List Told
told t shown = record { task = t.running; shown = shown } ∷ []

abbrev pub told_line : Turns → Option Line → List Told
told_line t None = []
told_line t (Some line) = told t (Wrote line)

-- the task ends, and another is stepped
pub record After : Type 0 where
  pub told : List Told
  pub turns : Turns

abbrev pub stopped : Turns → Player → End → After
stopped t p end = record {
  told = told t (Stops end p.moment.now.steps p.moment.now.crossings);
  turns = changed (with_player t (record p { end = Some end }));
}

-- behind a checkpoint a task that makes no further step ends at once; in any case another is stepped
abbrev pub at_checkpoint : Turns → Player → Option End → After
at_checkpoint t p (Some end) = stopped t p end
at_checkpoint t p None = record { told = []; turns = changed (with_player t p) }

abbrev pub stepped : Turns → Player → Bool → After
stepped t p true = at_checkpoint t p (rests p)
stepped t p false = record { told = []; turns = with_player t p }

-- with this told before
abbrev pub with_told : List Told → After → After
with_told front a = record a { told = front ++ a.told }

abbrev pub once_by : Turns → Player → Played → After
once_by t p (Over end) = stopped t p end
once_by t p (Gone line checkpoint next) = with_told (told_line t line) (stepped t next checkpoint)

-- one try of the task that is stepped
abbrev pub once : Turns → Player → After
once t p = once_by t p (played p)

-- The task that is stepped has ended only where all have, since another would have been chosen.
abbrev pub go_on : Turns → Option Player → (Turns → After) → After
go_on t None rest = record { told = []; turns = t }
go_on t (Some p) rest = if is_some p.end then record { told = []; turns = t } else (let a = once t p in with_told a.told (rest a.turns))

-- so many tries, or until every task has ended
unfoldable pub tries : ℕ → Turns → After
tries zero t = record { told = []; turns = t }
tries (suc n) t = go_on t (slice_get t.players t.running) (tries n)

-- each try is a step of a task or ends one, so this is until every task has ended
abbrev pub turns : Turns → After
turns t = tries (sum_by (λ p. p.left + 1) t.players) t

-- a task at reset, with the inputs that come and the steps that it may do
abbrev pub at_reset_in : Program → List Event → ℕ → Player
at_reset_in program events steps = record { program = program; moment = at_front program events; left = steps; end = None }

-- task 0 is the first
abbrev pub from_start : List Player → Turns
from_start players = record { players = players; running = 0; switches = 0 }

-- the same task alone: its run, and what it shows
abbrev pub alone : Player → Run
alone p = run p.program p.moment p.left

abbrev pub shown_by : Run → List Shown
shown_by r = map Wrote r.lines ++ Stops r.end r.state.now.steps r.state.now.crossings ∷ []

-- what one task tells
abbrev pub own_told : ℕ → List Told → List Shown
own_told task [] = []
own_told task (one ∷ more) = if one.task == task then one.shown ∷ own_told task more else own_told task more

-- A task p became q, and told this meanwhile, just as its own run has it: it had ended, or it goes on, or it has ended now.
pub data Follows (p q : Player) (told : List Shown) : Type 0 where
  Ended : (end : End) → p.end ≡ Some end → q ≡ p → told ≡ [] → Follows p q told
  Going : p.end ≡ None → q.end ≡ None → shown_by (alone p) ≡ told ++ shown_by (alone q) → (alone p).end ≡ (alone q).end → (alone p).state ≡ (alone q).state → Follows p q told
  Over : p.end ≡ None → q.end ≡ Some (alone p).end → q.moment ≡ (alone p).state → shown_by (alone p) ≡ told → Follows p q told

-- No other task has to do with what a task tells, when and how it ends, and what it holds.
abbrev pub IsApartFromOthers : Turns → ℕ → Type 0
IsApartFromOthers t n = (task : ℕ) → (p : Player) → slice_get t.players task ≡ Some p
    → (q : Player) × (slice_get (tries n t).turns.players task ≡ Some q) × Follows p q (own_told task (tries n t).told)

-- every task has ended
abbrev pub HaveEnded : Turns → Type 0
HaveEnded t = (task : ℕ) → (p : Player) → slice_get t.players task ≡ Some p → is_some p.end ≡ true
