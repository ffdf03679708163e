-- Where the program stops by itself, that is in the last act; what a step that isn't made ends in; and where the kernel has control.
use Rattle.std.proofs.Common.{◌≡◌, ℕ, zero, suc, ◌+◌, ◌≤◌, Bool, true, false, List, [], ◌∷◌, ◌++◌, map, Option, Some, None, refl, sym, ap, ◌∙◌, subst, arith, inl, inr, ◌⊎◌}
use Rattle.std.specs.Prelude.{nat_le, ◌==◌, ◌||◌}
use Rattle.mote_core.specs.declared.mote.Mote.{Mote}
use Rattle.step_laws.proofs.ServiceMoves.{kernel_served}
use Rattle.std.proofs.lemmas.Bool.{or_right, false_from_ne_true}
use Rattle.std.proofs.lemmas.Bool.Decides.{nat_tests}
use Rattle.mote_devices.specs.declared.line.Line.{Line}
use Rattle.kernel_entry.specs.declared.kernel.Kernel.{Kernel}
use Rattle.kernel_entry.specs.declared.kernel.Served.{Served}
use Rattle.kernel_entry.specs.declared.kernel.Served.TheVariants as answers
use Rattle.kernel_entry.specs.declared.kernel.Taken.{Taken}
use Rattle.kernel_entry.specs.declared.kernel.Taken.TheVariants as taken
use Rattle.kernel_entry.specs.declared.kernel.Stop.{Stop}
use Rattle.kernel_entry.specs.declared.kernel.End.{End}
use Rattle.kernel_entry.specs.declared.kernel.End.TheVariants as ends
use Rattle.branch_bridge.specs.declared.arrival.Refused.{Refused}
use Rattle.branch_bridge.specs.declared.arrival.ArriveStop.{ArriveStop}
use Rattle.branch_bridge.specs.declared.arrival.ArriveStop.TheVariants as refusals
use Rattle.kernel_entry.specs.Services.{served, is_due}
use Rattle.kernel_entry.specs.Interrupts as interrupts
use Rattle.step_laws.specs.Moves.{Inner, Plain, Serve, Move, Begin, Within, Arrive, Take, count_stop}
use Rattle.step_laws.specs.Numbers.{Numbers, moved, numbered}
use Rattle.step_laws.specs.States.{State, mote_of, Awaited, is_stop as stops_served, stops_taking, after_service, after_taking, end_by, settled_by, placed, with_store}
use Rattle.step_laws.specs.Walks.{Walk, Makes, MakesOf, MakesServe, MakesTake}
use Rattle.step_laws.proofs.NumberLaws.{steps_is}
use Rattle.flat_machine.specs.FlatMachine.{Moment}
use Rattle.program_steps.specs.Machines.{Machine, state_of, numbers_of}
use Rattle.program_steps.specs.Stepping.{Goes, IsArrival, NoArrival, OneArrival, AreOwn, Taking, Making}
use Rattle.tk_run.specs.Running.{StepsTo}
use Rattle.theorem_reader.specs.Acts.{is_stop, StopsLast}
use Rattle.theorem_reader.specs.Steps.{is_with_kernel}
use Rattle.theorem_reader.proofs.Acting.{act_of, acts_of, taken_keeps}
use Rattle.theorem_reader.proofs.Serving.{at_an_entry, is_resume, Passed, On, Over, Away, passed_at}

-- the program stopped by itself
abbrev pub IsStop : Option End → Type 0
IsStop end = (stop : Stop) × (end ≡ Some (ends.Stopped stop))

pub none_on : (end : Option End) → IsStop end → end ≡ None → ⊥
none_on end over going = let e : Some (ends.Stopped over.0) ≡ None = sym over.1 ∙ going in absurd (cc)

pub inner_free : (x : State) (inner : Inner) (y : State) → MakesOf false x inner y → (x.owed ≡ None) × (x.end ≡ None)
inner_free x (Plain line) y makes = (makes.free, makes.going)
inner_free x (Serve line stops) y makes = (makes.free, makes.going)

-- A service, an interrupt and an arrival. -----------------------------------------------------------------

-- the program stops by itself just where this is so
pub record EndsSo (stops : Bool) (end : Option End) : Type 0 where
  pub over : stops ≡ true → IsStop end
  pub going : stops ≡ false → end ≡ None

stops_so : (stops : Bool) (end : Option End) → EndsSo stops end → IsStop end → stops ≡ true
stops_so true end ends over = refl
stops_so false end ends over = absurd (none_on end over (ends.going refl))

serving_ends : (due : Bool) (p : Served × Kernel) → EndsSo (stops_served p.0) (after_service due p).end
serving_ends due (answers.Stopped stop, k) = record { over = λ is. (stop, refl); going = λ is. absurd (cc) }
serving_ends due (_, k) = record { over = λ is. absurd (cc); going = λ is. refl }

pub serve_ends : (x y : State) (line : Option Line) (stops : Bool) → MakesServe x line stops y → EndsSo stops y.end
serve_ends x y line stops makes = rw makes.result (rw makes.halts at (serving_ends (is_due x.kernel) (served x.kernel)))

taking_ends : (x : State) (p : Taken × Kernel) → x.end ≡ None → EndsSo (stops_taking p.0) (after_taking x p).end
taking_ends x (taken.Nothing, k) going = record { over = λ is. absurd (cc); going = λ is. going }
taking_ends x (taken.Vector v, k) going = record { over = λ is. absurd (cc); going = λ is. refl }
taking_ends x (taken.Stopped stop, k) going = record { over = λ is. (stop, refl); going = λ is. absurd (cc) }

take_ends : (x y : State) (stops : Bool) → MakesTake x stops y → EndsSo stops y.end
take_ends x y stops makes = rw makes.result (rw makes.halts at (taking_ends x (interrupts.taken x.kernel makes.owed.target) makes.going))

-- Rewritten code goes on behind a service just where no arrival is owed, and there is no end.
owed_behind : (due : Bool) (p : Served × Kernel) → is_resume p.0 ≡ false → stops_served p.0 ≡ false → (after_service due p).owed ≡ None → ⊥
owed_behind due (answers.Resume line, k) on going free = absurd (cc)
owed_behind due (_, k) on going free = absurd (cc)

free_behind : (due : Bool) (p : Served × Kernel) → is_resume p.0 ≡ true → (after_service due p).owed ≡ None
free_behind due (answers.Resume line, k) on = refl
free_behind due (_, k) on = absurd (cc)

pub serve_on : (x y : State) (line : Option Line) (stops : Bool) → MakesServe x line stops y → y.owed ≡ None → y.end ≡ None → (0xF004 ≤ x.kernel.mote.cpu.pc) × (x.kernel.mote.cpu.pc ≤ 0xF007)
serve_on x y line stops makes free unended = elim (passed_at x.kernel makes.can) [
  | On on going from to pc ↦ (from, to)
  | Over over pc ↦ absurd (none_on y.end (subst (λ (s : State). IsStop s.end) (sym makes.result) ((serving_ends (is_due x.kernel) (served x.kernel)).over over)) unended)
  | Away on going at pc ↦ absurd (owed_behind (is_due x.kernel) (served x.kernel) on going (ap (λ (s : State). s.owed) (sym makes.result) ∙ free))
]

-- .. and the kernel has control behind the others
pub kernel_same : (m n : Mote) → n.cpu.pc ≡ m.cpu.pc → is_with_kernel m ≡ true → is_with_kernel n ≡ true
kernel_same m n same has = ap (λ pc. (pc == 0) || nat_le 0xF000 pc) same ∙ has

away_by : (x y : State) (w : Awaited) → Passed x.kernel (served x.kernel).1 (served x.kernel).0 → 0xF000 ≤ x.kernel.mote.cpu.pc → y.kernel ≡ (served x.kernel).1
    → y ≡ after_service (is_due x.kernel) (served x.kernel) → y.owed ≡ Some w → y.end ≡ None → is_with_kernel (mote_of y) ≡ true
away_by x y w (On on going from to pc) high kernel result owes unended =
    absurd (let e : None ≡ Some w = sym (free_behind (is_due x.kernel) (served x.kernel) on) ∙ ap (λ (s : State). s.owed) (sym result) ∙ owes in cc)
away_by x y w (Over over pc) high kernel result owes unended =
    absurd (none_on y.end (subst (λ (s : State). IsStop s.end) (sym result) ((serving_ends (is_due x.kernel) (served x.kernel)).over over)) unended)
away_by x y w (Away on going at pc) high kernel result owes unended =
    kernel_same (mote_of x) (mote_of y) (ap (λ (k : Kernel). k.mote.cpu.pc) kernel ∙ pc) (or_right ((mote_of x).cpu.pc == 0) (nat_le 0xF000 (mote_of x).cpu.pc) (grind (arith, nat_tests, high)))

-- an arrival leaves no end but its own refusal
refusal_stops : (why : ArriveStop) → IsStop (Some (end_by why)) → ⊥
refusal_stops (refusals.Wild t) over = let e : Some (ends.Wild t) ≡ Some (ends.Stopped over.0) = over.1 in absurd (cc)
refusal_stops (refusals.Flash op) over = let e : Some (ends.Flash op) ≡ Some (ends.Stopped over.0) = over.1 in absurd (cc)

settled_stops : (x : State) (refused : Option Refused) → IsStop (settled_by x refused).end → ⊥
settled_stops x None over = none_on None over refl
settled_stops x (Some refused) over = refusal_stops refused.why over

-- .. and owes none
pub none_owed : (s : State) (refused : Option Refused) (w : Awaited) → (settled_by s refused).owed ≡ Some w → (settled_by s refused).end ≡ None → ⊥
none_owed s None w owes going = absurd (let e : None ≡ Some w = owes in cc)
none_owed s (Some refused) w owes going = absurd (let e : Some (end_by refused.why) ≡ None = going in cc)

-- Where the program stops. --------------------------------------------------------------------------------

act_stops : (x : State) (move : Move) (y : State) → Makes x move y → is_stop (act_of move x y) ≡ true → IsStop y.end
act_stops x (Within (Serve line stops)) y makes over = (serve_ends x y line stops makes).over over
act_stops x (Take stops) y makes over = (take_ends x y stops makes).over over
act_stops x _ y makes over = absurd (cc)

stops_act : (x : State) (move : Move) (y : State) → Makes x move y → IsStop y.end → is_stop (act_of move x y) ≡ true
stops_act x (Within (Serve line stops)) y makes over = stops_so stops y.end (serve_ends x y line stops makes) over
stops_act x (Arrive target made ops) y makes over =
    absurd (settled_stops (placed (with_store x makes.store) makes.arrival.place) makes.arrival.refused (subst (λ (s : State). IsStop s.end) makes.after over))
stops_act x (Take stops) y makes over = stops_so stops y.end (take_ends x y stops makes) over
stops_act x _ y makes over = absurd (none_on y.end over (ap (λ (s : State). s.end) makes.result ∙ makes.going))

-- a move is made only where there is no end
move_goes : (x : State) (move : Move) (y : State) → Makes x move y → x.end ≡ None
move_goes x (Within (Plain line)) y makes = makes.going
move_goes x _ y makes = makes.going

unstopped : (x : State) (move : Move) (y : State) → Makes x move y → y.end ≡ None → is_stop (act_of move x y) ≡ false
unstopped x move y makes going = false_from_ne_true (is_stop (act_of move x y)) (λ over. none_on y.end (act_stops x move y makes over) going)

pub stays_over : (x : State) (moves : List Move) (z : State) → Walk x moves z → IsStop x.end → IsStop z.end
stays_over x [] z walk over = subst (λ (s : State). IsStop s.end) walk over
stays_over x (move ∷ moves) z walk over = absurd (none_on x.end over (move_goes x move walk.0 walk.1))

pub no_stop : (x : State) (moves : List Move) (z : State) → (walk : Walk x moves z) → z.end ≡ None → StopsLast false (acts_of x moves z walk)
no_stop x [] z walk going = refl
no_stop x (move ∷ []) z walk going = unstopped x move walk.0 walk.1 (ap (λ (s : State). s.end) walk.2 ∙ going)
no_stop x (move ∷ other ∷ moves) z walk going = (unstopped x move walk.0 walk.1 (move_goes walk.0 other walk.2.0 walk.2.1), no_stop walk.0 (other ∷ moves) z walk.2 going)

pub stop_last : (x : State) (moves : List Move) (z : State) → (walk : Walk x moves z) → x.end ≡ None → IsStop z.end → StopsLast true (acts_of x moves z walk)
stop_last x [] z walk going over = absurd (none_on z.end over (ap (λ (s : State). s.end) (sym walk) ∙ going))
stop_last x (move ∷ []) z walk going over = stops_act x move walk.0 walk.1 (subst (λ (s : State). IsStop s.end) (sym walk.2) over)
stop_last x (move ∷ other ∷ moves) z walk going over =
    let next = move_goes walk.0 other walk.2.0 walk.2.1 in
    (unstopped x move walk.0 walk.1 next, stop_last walk.0 (other ∷ moves) z walk.2 next over)

-- Where an arrival is owed the kernel has control. ---------------------------------------------------------

abbrev pub Asked : State → Type 0
Asked x = (w : Awaited) → x.owed ≡ Some w → is_with_kernel (mote_of x) ≡ true

asks_on : (x : State) (move : Move) (y : State) → Makes x move y → Asked x → y.end ≡ None → Asked y
asks_on x (Within (Serve line stops)) y makes asked going w owes = away_by x y w (passed_at x.kernel makes.can) (at_an_entry x.kernel makes.can).0 (kernel_served x y line stops makes) makes.result
    owes going
asks_on x (Arrive target made ops) y makes asked going w owes =
    absurd (none_owed (placed (with_store x makes.store) makes.arrival.place) makes.arrival.refused w (sym (ap (λ (s : State). s.owed) makes.after) ∙ owes)
    (sym (ap (λ (s : State). s.end) makes.after) ∙ going))
asks_on x (Take stops) y makes asked going w owes = kernel_same (mote_of x) (mote_of y) (ap (λ (m : Mote). m.cpu.pc) (taken_keeps x y stops makes).mote.stays) (asked makes.owed makes.owes)
asks_on x _ y makes asked going w owes = absurd (let e : None ≡ Some w = sym makes.free ∙ sym (ap (λ (s : State). s.owed) makes.result) ∙ owes in cc)

pub kernel_has : (x : State) (moves : List Move) (z : State) → Walk x moves z → Asked x → z.end ≡ None → Asked z
kernel_has x [] z walk asked going = subst Asked walk asked
kernel_has x (move ∷ []) z walk asked going = subst Asked walk.2 (asks_on x move walk.0 walk.1 asked (ap (λ (s : State). s.end) walk.2 ∙ going))
kernel_has x (move ∷ other ∷ moves) z walk asked going = kernel_has walk.0 (other ∷ moves) z walk.2 (asks_on x move walk.0 walk.1 asked (move_goes walk.0 other walk.2.0 walk.2.1)) going

-- A step's own moves: the program stops by itself in them, or one step more is counted. -------------------

within_stops : (x z : State) (rest : List Inner) → Walk x (map Within rest) z → 1 ≤ count_stop rest → IsStop z.end
within_stops x z [] walk some = absurd (omega (arith, some))
within_stops x z (Plain line ∷ rest) walk some = within_stops walk.0 z rest walk.2 some
within_stops x z (Serve line false ∷ rest) walk some = within_stops walk.0 z rest walk.2 some
within_stops x z (Serve line true ∷ rest) walk some = stays_over walk.0 (map Within rest) z walk.2 ((serve_ends x walk.0 line true walk.1).over refl)

take_way : (x z : State) (stops : Bool) (n : Numbers) → Walk x (Take stops ∷ []) z → IsStop z.end ⊎ ((numbered (Take stops ∷ []) n).steps ≡ n.steps + 1)
unfolding moved
take_way x z true n walk = inl (subst (λ (s : State). IsStop s.end) walk.2 ((take_ends x walk.0 true walk.1).over refl))
take_way x z false n walk = inr refl

begin_way : (x z : State) (line : Option Line) (rest : List Inner) (n : Numbers) (stops : ℕ) → count_stop rest ≡ stops → Walk x (Begin line ∷ map Within rest) z
    → IsStop z.end ⊎ ((numbered (Begin line ∷ map Within rest) n).steps ≡ n.steps + 1)
unfolding moved
begin_way x z line rest n zero none walk = inr (omega (arith, steps_is rest (moved (Begin line) n), none))
begin_way x z line rest n (suc stops) some walk = inl (within_stops walk.0 z rest walk.2 (omega (arith, some)))

own_way : (x z : State) (own : List Move) (n : Numbers) → AreOwn own → Walk x own z → IsStop z.end ⊎ ((numbered own n).steps ≡ n.steps + 1)
own_way x z own n (Taking stops is) walk = subst (λ ms. IsStop z.end ⊎ ((numbered ms n).steps ≡ n.steps + 1)) (sym is) (take_way x z stops n (subst (λ ms. Walk x ms z) is walk))
own_way x z own n (Making line rest is few serves) walk =
    subst (λ ms. IsStop z.end ⊎ ((numbered ms n).steps ≡ n.steps + 1)) (sym is) (begin_way x z line rest n (count_stop rest) refl (subst (λ ms. Walk x ms z) is walk))

arrive_way : (x z : State) (t ops : ℕ) (made : Bool) (own : List Move) (n : Numbers) → AreOwn own → Walk x (Arrive t made ops ∷ own) z
    → IsStop z.end ⊎ ((numbered (Arrive t made ops ∷ own) n).steps ≡ n.steps + 1)
unfolding moved
arrive_way x z t ops made own n makes walk = own_way walk.0 z own (moved (Arrive t made ops) n) makes walk.2

-- .. and behind an arrival
step_way : (x z : State) (t : ℕ) (arrival own : List Move) (n : Numbers) → IsArrival t arrival → AreOwn own → Walk x (arrival ++ own) z
    → IsStop z.end ⊎ ((numbered (arrival ++ own) n).steps ≡ n.steps + 1)
step_way x z t arrival own n (NoArrival none) makes =
    subst (λ a. Walk x (a ++ own) z → IsStop z.end ⊎ ((numbered (a ++ own) n).steps ≡ n.steps + 1)) (sym none) (own_way x z own n makes)
step_way x z t arrival own n (OneArrival made ops one) makes =
    subst (λ a. Walk x (a ++ own) z → IsStop z.end ⊎ ((numbered (a ++ own) n).steps ≡ n.steps + 1)) (sym one) (arrive_way x z t ops made own n makes)

step_counts : (y z : Machine) (arrival own : List Move) (lines : List Line) → IsArrival y.at arrival → AreOwn own → Goes y z (arrival ++ own) lines → z.end ≡ None → z.steps ≡ y.steps + 1
step_counts y z arrival own lines arrives makes goes going = elim (step_way (state_of y) (state_of z) y.at arrival own (numbers_of y) arrives makes goes.walk) [
  | inl over ↦ absurd (none_on z.end over going)
  | inr one ↦ ap (λ (k : Numbers). k.steps) goes.numbers ∙ one
]

-- So many steps are counted as are made.
steps_to : (at : ℕ → Moment) (start : Machine) (n : ℕ) (moves : List Move) (z : Machine) → StepsTo at start n moves z → z.end ≡ None → z.steps ≡ start.steps + n
steps_to at start zero moves z (same, none) going = let e : z.steps ≡ start.steps = ap (λ (m : Machine). m.steps) (sym same) in omega (arith, e)
steps_to at start (suc n) moves z (y, before, arrival, own, lines, all, steps, stands, arrives, makes, goes) going =
    omega (arith, step_counts y z arrival own lines arrives makes goes going, steps_to at start n before y steps stands.ready.going)

-- Behind them the moves of a step that isn't made stop the program.
pub unmade_stops : (at : ℕ → Moment) (start last z : Machine) (n : ℕ) (before arrival own : List Move) (lines : List Line) → StepsTo at start n before last → last.end ≡ None
    → IsArrival last.at arrival → AreOwn own → Goes last z (arrival ++ own) lines → z.steps ≡ start.steps + n → IsStop z.end
unmade_stops at start last z n before arrival own lines steps going arrives makes goes done =
    elim (step_way (state_of last) (state_of z) last.at arrival own (numbers_of last) arrives makes goes.walk) [
      | inl over ↦ over
      | inr one ↦ absurd (omega (arith, done, steps_to at start n before last steps going, ap (λ (k : Numbers). k.steps) goes.numbers, one))
    ]
