-- The numbers of a walk, and its lines, as its acts have them.
use Rattle.std.proofs.Common.{◌≡◌, ℕ, ◌+◌, ◌≤◌, max, List, [], ◌∷◌, ◌++◌, refl, ap, arith}
use Rattle.step_laws.specs.Moves.{Plain, Serve, Move, Begin, Within, Arrive, line_before, lines_of}
use Rattle.step_laws.specs.Numbers.{Numbers, moved, numbered}
use Rattle.step_laws.specs.States.{State}
use Rattle.step_laws.specs.Walks.{Walk}
use Rattle.theorem_reader.specs.Acts.{Act, Step, Service, steps_in, services_in, made_in, lines_in}
use Rattle.theorem_reader.proofs.Acting.{acts_of}

pub natural_of : (x : State) (moves : List Move) (z : State) (walk : Walk x moves z) (n : Numbers) → (numbered moves n).natural ≡ n.natural + steps_in (acts_of x moves z walk)
unfolding moved
natural_of x [] z walk n = omega arith
natural_of x (Begin line ∷ moves) z walk n = omega (arith, natural_of walk.0 moves z walk.2 (moved (Begin line) n))
natural_of x (Within (Plain line) ∷ moves) z walk n = omega (arith, natural_of walk.0 moves z walk.2 (moved (Within (Plain line)) n))
natural_of x (move ∷ moves) z walk n = natural_of walk.0 moves z walk.2 (moved move n)

pub entries_of : (x : State) (moves : List Move) (z : State) (walk : Walk x moves z) (n : Numbers) → (numbered moves n).entries ≡ n.entries + services_in (acts_of x moves z walk)
unfolding moved
entries_of x [] z walk n = omega arith
entries_of x (Within (Serve line stops) ∷ moves) z walk n = omega (arith, entries_of walk.0 moves z walk.2 (moved (Within (Serve line stops)) n))
entries_of x (move ∷ moves) z walk n = entries_of walk.0 moves z walk.2 (moved move n)

pub pages_of : (x : State) (moves : List Move) (z : State) (walk : Walk x moves z) (n : Numbers) → (numbered moves n).pages ≡ n.pages + made_in (acts_of x moves z walk)
unfolding moved
pages_of x [] z walk n = omega arith
pages_of x (Arrive target made ops ∷ moves) z walk n = omega (arith, pages_of walk.0 moves z walk.2 (moved (Arrive target made ops) n))
pages_of x (Within (Plain line) ∷ moves) z walk n = pages_of walk.0 moves z walk.2 (moved (Within (Plain line)) n)
pages_of x (move ∷ moves) z walk n = pages_of walk.0 moves z walk.2 (moved move n)

pub lines_of_acts : (x : State) (moves : List Move) (z : State) → (walk : Walk x moves z) → lines_of moves ≡ lines_in (acts_of x moves z walk)
unfolding lines_of
lines_of_acts x [] z walk = refl
lines_of_acts x (Begin line ∷ moves) z walk = ap (line_before line) (lines_of_acts walk.0 moves z walk.2)
lines_of_acts x (Within (Plain line) ∷ moves) z walk = ap (line_before line) (lines_of_acts walk.0 moves z walk.2)
lines_of_acts x (Within (Serve line stops) ∷ moves) z walk = ap (line_before line) (lines_of_acts walk.0 moves z walk.2)
lines_of_acts x (move ∷ moves) z walk = lines_of_acts walk.0 moves z walk.2

-- how many steps stand behind the last service, where so many stand before these acts
abbrev pub since_in : (since : ℕ) → List Act → ℕ
since_in since [] = since
since_in since (Step line before after ∷ acts) = since_in (since + 1) acts
since_in since (Service line stops before after ∷ acts) = since_in 0 acts
since_in since (act ∷ acts) = since_in since acts

pub since_of : (x : State) (moves : List Move) (z : State) (walk : Walk x moves z) (n : Numbers) → (numbered moves n).since ≡ since_in n.since (acts_of x moves z walk)
unfolding moved
since_of x [] z walk n = refl
since_of x (Within (Plain line) ∷ moves) z walk n = since_of walk.0 moves z walk.2 (moved (Within (Plain line)) n)
since_of x (move ∷ moves) z walk n = since_of walk.0 moves z walk.2 (moved move n)

-- the longest stretch of steps, where so many stand before it and the longest before it is this
abbrev pub longest_in : (since longest : ℕ) → List Act → ℕ
longest_in since longest [] = longest
longest_in since longest (Step line before after ∷ acts) = longest_in (since + 1) (max longest (since + 1)) acts
longest_in since longest (Service line stops before after ∷ acts) = longest_in 0 longest acts
longest_in since longest (act ∷ acts) = longest_in since longest acts

pub longest_of : (x : State) (moves : List Move) (z : State) (walk : Walk x moves z) (n : Numbers) → (numbered moves n).longest ≡ longest_in n.since n.longest (acts_of x moves z walk)
unfolding moved
longest_of x [] z walk n = refl
longest_of x (Within (Plain line) ∷ moves) z walk n = longest_of walk.0 moves z walk.2 (moved (Within (Plain line)) n)
longest_of x (move ∷ moves) z walk n = longest_of walk.0 moves z walk.2 (moved move n)

rises : (since longest : ℕ) (acts : List Act) → longest ≤ longest_in since longest acts
rises since longest [] = omega arith
rises since longest (Step line before after ∷ acts) = omega (arith, rises (since + 1) (max longest (since + 1)) acts)
rises since longest (Service line stops before after ∷ acts) = rises 0 longest acts
rises since longest (act ∷ acts) = rises since longest acts

stretch : (k since longest : ℕ) (between back : List Act) → services_in between ≡ 0 → k ≤ since → k ≤ longest → k + steps_in between ≤ longest_in since longest (between ++ back)
stretch k since longest [] back none below most = omega (arith, rises since longest back, most)
stretch k since longest (Step line before after ∷ between) back none below most =
    omega (arith, stretch (k + 1) (since + 1) (max longest (since + 1)) between back none (omega (arith, below)) (omega (arith, below, most)))
stretch k since longest (Service line stops before after ∷ between) back none below most = absurd (omega (arith, none))
stretch k since longest (act ∷ between) back none below most = stretch k since longest between back none below most

pub no_longer : (since longest : ℕ) (front between back : List Act) → services_in between ≡ 0 → steps_in between ≤ longest_in since longest (front ++ (between ++ back))
no_longer since longest [] between back none = omega (arith, stretch 0 since longest between back none (omega arith) (omega arith))
no_longer since longest (Step line before after ∷ front) between back none = no_longer (since + 1) (max longest (since + 1)) front between back none
no_longer since longest (Service line stops before after ∷ front) between back none = no_longer 0 longest front between back none
no_longer since longest (act ∷ front) between back none = no_longer since longest front between back none

-- Acts behind others. -------------------------------------------------------------------------------------

pub steps_behind : (acts more : List Act) → steps_in (acts ++ more) ≡ steps_in acts + steps_in more
steps_behind [] more = omega arith
steps_behind (Step line before after ∷ acts) more = omega (arith, steps_behind acts more)
steps_behind (act ∷ acts) more = steps_behind acts more

pub services_behind : (acts more : List Act) → services_in (acts ++ more) ≡ services_in acts + services_in more
services_behind [] more = omega arith
services_behind (Step line before after ∷ acts) more = services_behind acts more
services_behind (Service line stops before after ∷ acts) more = omega (arith, services_behind acts more)
services_behind (act ∷ acts) more = services_behind acts more

pub since_behind : (since : ℕ) (acts more : List Act) → since_in since (acts ++ more) ≡ since_in (since_in since acts) more
since_behind since [] more = refl
since_behind since (Step line before after ∷ acts) more = since_behind (since + 1) acts more
since_behind since (Service line stops before after ∷ acts) more = since_behind 0 acts more
since_behind since (act ∷ acts) more = since_behind since acts more

pub longest_behind : (since longest : ℕ) (acts more : List Act) → longest_in since longest (acts ++ more) ≡ longest_in (since_in since acts) (longest_in since longest acts) more
longest_behind since longest [] more = refl
longest_behind since longest (Step line before after ∷ acts) more = longest_behind (since + 1) (max longest (since + 1)) acts more
longest_behind since longest (Service line stops before after ∷ acts) more = longest_behind 0 longest acts more
longest_behind since longest (act ∷ acts) more = longest_behind since longest acts more
