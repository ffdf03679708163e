use Rattle.std.proofs.Common.{Bool, true, false, ◌≡◌, ℕ, List, refl, sym, ap, ◌∙◌, arith, subst}
use Rattle.std.specs.Prelude.{slice_set}
use Rattle.program_steps.specs.Machines.{Machine}
use Rattle.program_steps.specs.Wholes.{whole}
use Rattle.task_turns.specs.Turns.{Told}
use Rattle.tk_tasks.specs.States.{Tasks}
use Rattle.tk_tasks.specs.Held.{value_of}
use Rattle.tk_tasks.specs.Changes.{changed_tasks, IsFree}
use Rattle.tk_tasks.specs.Trying.{HasPlayed, finished, tried_told, kept_tasks}
use Rattle.tk_tasks.proofs.Runs.{Begins, begins, HasCome, tried_on, kept_is, changed_quantum}
use Rattle.tk_tasks.proofs.tasks.Tasks.play.Goals as goal
use Rattle.tk_tasks.proofs.tasks.Tasks.play.Goals.{After-progress-p, After-try_on-tried, After-keep}

-- the running task goes on
begun : (c : After-progress-p) → Begins c.args.self.now c.self.inside.kernel c.progress-p.result
begun c = begins c.self.inside.kernel c.progress-p.result c.requires.sound c.requires.whole c.requires.going (ap (λ (u : Tasks). u.kernel) c.self.view_is) c.progress-p.ensures.progress

-- the machine that it comes to
abbrev machine_in : After-try_on-tried → Machine
machine_in c = whole c.try_on-tried.new.k c.try_on-tried.new.p

come : (c : After-try_on-tried) → HasCome c.args.n c.args.self.now (machine_in c) c.try_on-tried.result
come c =
    tried_on c.args.n c.self.inside.kernel c.progress-p.result c.saturating_sub-left.result (machine_in c) c.try_on-tried.result c.requires.sound c.requires.whole c.requires.going
    (ap (λ (u : Tasks). u.kernel) c.self.view_is) c.progress-p.ensures.progress c.requires.steps c.saturating_sub-left.ensures c.try_on-tried.ensures.tried

-- the tasks with what the running one came to
abbrev behind : After-keep → Tasks
behind c = record (value_of c.self.inside) {
  kernel = c.try_on-tried.new.k;
  stub = c.stub_in-self-inside.result;
  tasks = slice_set c.self.inside.tasks.items c.from.result c.keep.new.task;
  pages = c.try_on-tried.new.p.pages;
}

-- what the plays tell of the task of this number
abbrev told_in : After-keep → ℕ → List Told
told_in c k = tried_told k c.try_on-tried.result.line c.try_on-tried.result.end c.try_on-tried.new.p.steps c.try_on-tried.new.p.crossings

abbrev came : (c : After-keep) → HasCome c.args.n c.args.self.now (whole c.try_on-tried.new.k c.try_on-tried.new.p) c.try_on-tried.result
came c = come (goal.at.After-keep c).After-try_on-tried

kept : (c : After-keep) → behind c ≡ kept_tasks c.args.self.now (came c).task (whole c.try_on-tried.new.k c.try_on-tried.new.p) c.try_on-tried.result.end
kept c =
    kept_is c.args.self.now (value_of c.self.inside) c.try_on-tried.new.k c.stub_in-self-inside.result c.from.result (came c).task c.index_mut.result.now c.keep.new.task
    (whole c.try_on-tried.new.k c.try_on-tried.new.p)
    c.try_on-tried.result.end c.try_on-tried.new.p.pages c.self.view_is refl c.stub_in-self-inside.ensures.value c.from.ensures c.index_mut.ensures.value (came c).here
    (c.keep.ensures.kept c.args.self.now) refl

-- so many plays were made, whether the task changes behind them or not
played : (c : After-keep) (changes : Bool) → c.try_on-tried.result.changes ≡ changes
    → HasPlayed c.args.n c.args.self.now (finished changes (behind c)) (told_in c c.self.inside.running) c.try_on-tried.result.count
played c changes is =
    let t = c.args.self.now in
    let r = c.try_on-tried.result in
    let v = kept_tasks t (came c).task (whole c.try_on-tried.new.k c.try_on-tried.new.p) r.end in
    subst (λ z. HasPlayed c.args.n t (finished changes z) (told_in c c.self.inside.running) r.count) (sym (kept c))
    (subst (λ k. HasPlayed c.args.n t (finished changes v) (told_in c k) r.count) (sym (ap (λ (u : Tasks). u.running) c.self.view_is))
    (subst (λ f. HasPlayed c.args.n t (finished f v) (told_in c t.running) r.count) is (came c).all.played))

pub try_on-tried-requires-clause-ready : goal.try_on-tried-requires-clause-ready
try_on-tried-requires-clause-ready c = (begun (goal.at.try_on-tried-requires-clause-ready c).After-progress-p).ready

pub try_on-tried-requires-clause-quiet : goal.try_on-tried-requires-clause-quiet
try_on-tried-requires-clause-quiet c = (begun (goal.at.try_on-tried-requires-clause-quiet c).After-progress-p).quiet

pub try_on-tried-requires-clause-steps : goal.try_on-tried-requires-clause-steps
try_on-tried-requires-clause-steps c = omega (arith, (begun (goal.at.try_on-tried-requires-clause-steps c).After-progress-p).few, c.saturating_sub-left.ensures, c.requires.steps)

pub keep-requires : goal.keep-requires
keep-requires c = record { room = omega (arith, (come (goal.at.keep-requires c).After-try_on-tried).all.natural) }

pub change-requires-clause-sound : goal.change-requires-clause-sound
change-requires-clause-sound c =
    let left = (goal.at.change-requires-clause-sound c).After-keep in
    rw (kept left) (came left).all.sound

pub change-requires-clause-free : goal.change-requires-clause-free
change-requires-clause-free c =
    let left = (goal.at.change-requires-clause-free c).After-keep in
    subst IsFree (sym (kept left)) ((came left).all.free c.if-tried.true)

pub returns-then-tried-clause-played : goal.returns-then-tried-clause-played
returns-then-tried-clause-played c = rw c.change.ensures.changed (played (goal.at.returns-then-tried-clause-played c).After-keep true c.if-tried.true)

pub returns-then-tried-clause-quantum : goal.returns-then-tried-clause-quantum
returns-then-tried-clause-quantum c =
    let left = (goal.at.returns-then-tried-clause-quantum c).After-keep in
    ap (λ (u : Tasks). u.kernel.quantum) (c.change.ensures.changed ∙ ap changed_tasks (kept left)) ∙ changed_quantum
    (kept_tasks c.args.self.now (came left).task (whole c.try_on-tried.new.k c.try_on-tried.new.p) c.try_on-tried.result.end) ∙ (came left).all.quantum

pub returns-else-tried-clause-sound : goal.returns-else-tried-clause-sound
returns-else-tried-clause-sound c =
    let left = (goal.at.returns-else-tried-clause-sound c).After-keep in
    rw (kept left) (came left).all.sound

pub returns-else-tried-clause-played : goal.returns-else-tried-clause-played
returns-else-tried-clause-played c = played (goal.at.returns-else-tried-clause-played c).After-keep false c.if-tried.false

pub returns-else-tried-clause-quantum : goal.returns-else-tried-clause-quantum
returns-else-tried-clause-quantum c = (came (goal.at.returns-else-tried-clause-quantum c).After-keep).all.quantum
