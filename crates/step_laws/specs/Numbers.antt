-- The numbers that are counted by the moves, and by nothing else (docs/RUN.md, "Numbers").
use Rattle.std.specs.Prelude.{ℕ, ◌+◌, ◌-◌, max, not, Bool, if◌then◌else◌, List, [], ◌∷◌}
use Rattle.step_laws.specs.Moves.{Inner, Plain, Serve, Move, Begin, Within, Arrive, Take}

-- steps of the original program; plain steps; services; pages made; plain steps since the last service;
-- the most plain steps without a service between them; pages that were there at the beginning, and arrivals that other
-- programs on the same mote may have made, both of which no move changes; and operations on flash that were tried
pub record Numbers : Type 0 where
  pub steps : ℕ
  pub natural : ℕ
  pub entries : ℕ
  pub pages : ℕ
  pub since : ℕ
  pub longest : ℕ
  pub began : ℕ
  pub others : ℕ
  pub ops : ℕ

abbrev pub one_if : Bool → ℕ
one_if test = if test then 1 else 0

-- A service that stops the program takes back the step that it was in, which was none.
abbrev pub moved_within : Inner → Numbers → Numbers
moved_within (Plain line) n = record n { natural = n.natural + 1; since = n.since + 1; longest = max n.longest (n.since + 1) }
moved_within (Serve line stops) n = record n { steps = n.steps - one_if stops; entries = n.entries + 1; since = 0 }

-- A step of the original program is counted where it begins.
unfoldable pub moved : Move → Numbers → Numbers
moved (Begin line) n = moved_within (Plain line) (record n { steps = n.steps + 1 })
moved (Within inner) n = moved_within inner n
moved (Arrive target made ops) n = record n { pages = n.pages + one_if made; ops = n.ops + ops }
moved (Take stops) n = record n { steps = n.steps + one_if (not stops) }

-- the numbers after these moves
abbrev pub numbered : List Move → Numbers → Numbers
numbered [] n = n
numbered (move ∷ moves) n = numbered moves (moved move n)
