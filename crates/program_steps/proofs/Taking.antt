-- From the law of a step to what the loop needs, and back.
use Rattle.program_steps.proofs.Awaiting.{free_of}
use Rattle.std.proofs.Common.{Bool, ◌≡◌, ℕ, ◌+◌, ◌<◌, ◌≤◌, true, false, List, [], ◌∷◌, length, refl, sym, ap, ◌∙◌, arith, map}
use Rattle.std.specs.Prelude.{◌≢◌, Option, Some, None}
use Rattle.std.specs.Option.{option_or}
use Rattle.mote_devices.specs.declared.line.Line.{Line}
use Rattle.page_index.specs.Entries.{IsMapped}
use Rattle.flash_words.specs.Layouts.{IsRight}
use Rattle.program_steps.specs.Machines.{Machine, state_of, numbers_of}
use Rattle.step_laws.specs.Moves.{Inner, Plain, Serve, Within, lines_of, line_before, line_within}
use Rattle.step_laws.proofs.NumberLaws.{length_is}
use Rattle.step_laws.specs.Numbers.{moved, numbered}
use Rattle.step_laws.specs.States.{State}
use Rattle.step_laws.specs.Walks.{WalkWithin, MakesOf}
use Rattle.step_laws.specs.StepLaws.{moves_of, Reaches, Outcome, Keeps, links_at}
use Rattle.program_steps.specs.Loop.{IsAsBegun, IsOver, CanMove, HasMoved, LawOf, moves_made, Rest, IsMidway, Took}
use Rattle.program_steps.proofs.Told.{none_left, moved_made}

some_none : {A : Type 0} (o : Option A) (a : A) → o ≡ Some a → o ≢ None
some_none o a is = λ none. let e : Some a ≡ None = sym is ∙ none in cc

-- where a step leads it is over
over_reached : {x z : State} (to : ℕ) (due : Bool) → Keeps x z → Reaches (links_at x) to due z → IsOver z
over_reached to due keeps (Reaches.Placed quiet free entry) = IsOver.Reached (to, rw (keeps.layout, keeps.flash) entry.0)
over_reached {x} {z} to due keeps (Reaches.Owing stub alone owes of) = IsOver.Owes (some_none z.owed _ owes)

over_by : {x z : State} (a : ℕ) (line : Option Line) (rest : List Inner) → Keeps x z → Outcome (links_at x) x a line rest z → IsOver z
over_by a line rest keeps (Outcome.Went to goes) = over_reached to _ keeps goes.reaches
over_by {x} {z} a line rest keeps (Outcome.Stopped stop stops) = IsOver.Ended (some_none z.end _ stops.ended)

over_law : (old : Machine) (law : LawOf old) → IsOver law.end
over_law old law = over_by old.at law.line law.rest law.keeps law.outcome

-- a line and a later one are not both written
same_line : (a b : Option Line) → line_before a [] ≡ line_before b [] → a ≡ b
same_line None None is = refl
same_line (Some l) None is = absurd (cc)
same_line None (Some k) is = absurd (cc)
same_line (Some l) (Some k) is = cc

line_kept : (before line one : Option Line) (rest : List Line) → line_before before (line_before line rest) ≡ line_before one [] → line_before (option_or line before) rest ≡ line_before one []
line_kept None None one rest is = is
line_kept None (Some l) one rest is = is
line_kept (Some b) None one rest is = is
line_kept (Some b) (Some l) None rest is = absurd (cc)
line_kept (Some b) (Some l) (Some o) rest is = absurd (cc)

-- behind a move: what is left, from what was left before it
lines_on : (before after one : Option Line) (m : Inner) (rest : List Line) → after ≡ option_or (line_within m) before → line_before before (line_before (line_within m) rest) ≡ line_before one []
    → line_before after rest ≡ line_before one []
lines_on before after one m rest written lines = ap (λ l. line_before l rest) written ∙ line_kept before (line_within m) one rest lines

-- a move in the midst of a step is made where nothing is owed
free_move : (x y : State) (m : Inner) → MakesOf false x m y → x.owed ≡ None
free_move x y (Plain line) makes = makes.free
free_move x y (Serve line stops) makes = makes.free

first_can : (old : Machine) (law : LawOf old) → CanMove (state_of old)
first_can old law = record { begins = true; inner = Plain law.first; next = law.walk.0; makes = law.walk.1 }

rest_first : {old : Machine} (new : Machine) (after : Option Line) (law : LawOf old) → HasMoved (record old { steps = old.steps + 1 }) new None after → Rest old new after law
unfolding moved
rest_first {old} new after law told =
    let t = told true (Plain law.first) law.walk.0 law.walk.1 in
    record {
      rest = law.rest;
      walk = rw t.state law.walk.2;
      short = omega (arith, law.few, law.serves, length_is law.rest, moved_made (first_can old law) told);
      numbers = ap (numbered (map Within law.rest)) t.numbers;
      begun = record { at = t.rest.at; broken = t.rest.broken; crossings = t.rest.crossings; due = t.rest.due };
      lines = lines_on None after law.line (Plain law.first) (lines_of (map Within law.rest)) t.written law.lines;
    }

rest_by : {old now new : Machine} {before after : Option Line} (law : LawOf old) (ms : List Inner) → WalkWithin (state_of now) ms law.end → length ms + moves_made now ≤ moves_made old + 65
    → numbered (map Within ms) (numbers_of now) ≡ numbered (moves_of law) (numbers_of old) → IsAsBegun old now → line_before before (lines_of (map Within ms)) ≡ line_before law.line []
    → ¬ IsOver (state_of now) → HasMoved now new before after → Rest old new after law
unfolding lines_of
rest_by {old} law [] walk short numbers begun lines on told = absurd (on (rw walk (over_law old law)))
rest_by {old} {now} {new} {before} {after} law (m ∷ ms) walk short numbers begun lines on told =
    let t = told false m walk.0 walk.1 in
    let made = moved_made (record { begins = false; inner = m; next = walk.0; makes = walk.1 }) told in
    record {
      rest = ms;
      walk = rw t.state walk.2;
      short = omega (arith, short, made);
      numbers = ap (numbered (map Within ms)) t.numbers ∙ numbers;
      begun = record {
        at = t.rest.at ∙ begun.at;
        broken = t.rest.broken ∙ begun.broken;
        crossings = t.rest.crossings ∙ begun.crossings;
        due = λ free. t.rest.due free
            ∙ begun.due (free_of now (free_move (state_of now) walk.0 m walk.1));
      };
      lines = lines_on before after law.line m (lines_of (map Within ms)) t.written lines;
    }

-- behind any move of the step
pub midway_on : {old now new : Machine} {before after : Option Line} → IsMidway old now before → HasMoved now new before after → (law : LawOf old) → Rest old new after law
midway_on {old} {now} {new} {before} {after} (IsMidway.Begun same silent) told law = rest_first new after law (rw (silent, same) at told)
midway_on (IsMidway.Going on left) told law =
    let r = left law in
    rest_by law r.rest r.walk r.short r.numbers r.begun r.lines on told

-- some move of the step may be made
next_by : {x z : State} (ms : List Inner) → WalkWithin x ms z → IsOver z → ¬ IsOver x → CanMove x
next_by [] walk over on = absurd (on (rw walk over))
next_by (m ∷ ms) walk over on = record { begins = false; inner = m; next = walk.0; makes = walk.1 }

pub midway_can : {old now : Machine} {line : Option Line} → LawOf old → IsMidway old now line → CanMove (state_of now)
midway_can {old} law (IsMidway.Begun same silent) = rw same (first_can old law)
midway_can {old} law (IsMidway.Going on left) =
    let r = left law in
    next_by r.rest r.walk (over_law old law) on

-- a step that isn't over has made fewer moves than it may
few_by : (old now : Machine) (law : LawOf old) (ms : List Inner) → WalkWithin (state_of now) ms law.end → length ms + moves_made now ≤ moves_made old + 65 → ¬ IsOver (state_of now)
    → moves_made now < moves_made old + 65
few_by old now law [] walk short on = absurd (on (rw walk (over_law old law)))
few_by old now law (m ∷ ms) walk short on = omega arith

pub midway_few : {old now : Machine} {line : Option Line} → LawOf old → IsMidway old now line → moves_made now < moves_made old + 65
midway_few law (IsMidway.Begun same silent) = omega (arith, ap moves_made same)
midway_few {old} {now} law (IsMidway.Going on left) = let r = left law in few_by old now law r.rest r.walk r.short on

-- where it is over, all moves were made
took_by : {old new : Machine} (line : Option Line) (law : LawOf old) (ms : List Inner) → ms ≡ [] → WalkWithin (state_of new) ms law.end
    → numbered (map Within ms) (numbers_of new) ≡ numbered (moves_of law) (numbers_of old)
    → IsAsBegun old new → line_before line (lines_of (map Within ms)) ≡ line_before law.line [] → Took old new line law
unfolding lines_of
took_by line law [] none walk numbers begun lines = record { taken = record { state = walk; numbers = numbers }; written = same_line line law.line lines; rest = begun }
took_by line law (m ∷ ms) none walk numbers begun lines = absurd (cc)

pub took_over : {old new : Machine} {line : Option Line} → IsRight new.kernel.layout → IsMapped new.kernel.layout new.kernel.mote.flash.words → IsOver (state_of new) → (law : LawOf old)
    → Rest old new line law → Took old new line law
took_over {old} {new} {line} right mapped over law r = took_by line law r.rest (none_left law.end r.rest right mapped r.walk over) r.walk r.numbers r.begun r.lines
