use Rattle.std.proofs.Common.{◌≡◌, ◌+◌, None, rules, ap, ◌∙◌}
use Rattle.std.proofs.lemmas.List.{with_items_is, places}
use Rattle.tk_tasks.specs.States.{Tasks, turns_of}
use Rattle.tk_tasks.specs.Changes.{changed_tasks}
use Rattle.tk_tasks.specs.Held.{value_of}
use Rattle.tk_tasks.proofs.Changing.{given_is, kept_is, changed_sound, changed_turns}
use Rattle.tk_tasks.proofs.Runs.{cursor_changed}
use Rattle.tk_tasks.proofs.tasks.Tasks.change.Goals as goal
use Rattle.tk_tasks.proofs.tasks.Tasks.change.Goals.{In-Some, In_default}

-- the mote is another's, ..
given : (c : In-Some) → record (value_of c.self.inside) { kernel = c.give_on.new.kernel; running = c.in-Some.next; stub = None; tasks = c.give_on.new.tasks; switches = c.self.inside.switches + 1 } ≡
    changed_tasks c.args.self.now
given c = given_is c.in-Some.next c.self.view_is c.deref_mut.ensures.value c.requires.sound (record { next = c.give_on.ensures.next; given = c.give_on.ensures.given }) c.in-Some.is

-- .. or the same task goes on
kept : (c : In_default) → record (value_of c.self.inside) { kernel = c.give_on.new.kernel; tasks = c.give_on.new.tasks } ≡ changed_tasks c.args.self.now
kept c =
    kept_is c.args.self.now c.self.view_is c.deref_mut.ensures.value
    (record { next = c.give_on.ensures.next; given = c.give_on.ensures.given }) c.in_default.is (c.give_on.ensures.none c.in_default.is)

pub invariant_of-self : goal.invariant_of-self
invariant_of-self c =
    cursor_changed c.args.self.now (value_of c.self.inside) c.give_on.new.kernel c.self.inside.cursor.value c.self.view_is (ap (λ (t : Tasks). t.kernel) (given (goal.at.invariant_of-self c).In-Some))
    c.self.invariant

pub invariant_of-self-in_default : goal.invariant_of-self-in_default
invariant_of-self-in_default c =
    cursor_changed c.args.self.now (value_of c.self.inside) c.give_on.new.kernel c.self.inside.cursor.value c.self.view_is
    (ap (λ (t : Tasks). t.kernel) (kept (goal.at.invariant_of-self-in_default c).In_default)) c.self.invariant

pub returns-in-Some-clause-changed : goal.returns-in-Some-clause-changed
returns-in-Some-clause-changed c = rw (with_items_is c.self.inside.tasks c.give_on.new.tasks (search (rules, places))) (given (goal.at.returns-in-Some-clause-changed c).In-Some)

pub returns-in-Some-clause-sound : goal.returns-in-Some-clause-sound
returns-in-Some-clause-sound c = rw (returns-in-Some-clause-changed c) (changed_sound c.requires.sound c.requires.free)

pub returns-in-Some-clause-turns : goal.returns-in-Some-clause-turns
returns-in-Some-clause-turns c = λ n. ap (turns_of n) (returns-in-Some-clause-changed c) ∙ changed_turns n c.requires.sound

pub returns-in_default-clause-changed : goal.returns-in_default-clause-changed
returns-in_default-clause-changed c = rw (with_items_is c.self.inside.tasks c.give_on.new.tasks (search (rules, places))) (kept (goal.at.returns-in_default-clause-changed c).In_default)

pub returns-in_default-clause-sound : goal.returns-in_default-clause-sound
returns-in_default-clause-sound c = rw (returns-in_default-clause-changed c) (changed_sound c.requires.sound c.requires.free)

pub returns-in_default-clause-turns : goal.returns-in_default-clause-turns
returns-in_default-clause-turns c = λ n. ap (turns_of n) (returns-in_default-clause-changed c) ∙ changed_turns n c.requires.sound
