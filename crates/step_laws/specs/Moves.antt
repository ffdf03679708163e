-- Moves: what a machine that runs rewritten code does, one after another (docs/RUN.md, "Moves").
use Rattle.std.specs.Prelude.{ℕ, zero, suc, Bool, true, List, [], ◌∷◌, Option, Some, None}
use Rattle.mote_devices.specs.declared.line.Line.{Line}

-- A move in the midst of a step: a plain step, which is one instruction of the code pool, away from any entry's place; or
-- a service of the kernel, which may stop the program. Each may write a device line.
pub data Inner : Type 0 where
  Plain : (line : Option Line) → Inner
  Serve : (line : Option Line) → (stops : Bool) → Inner

-- A plain step at an entry's place, where a step of the program begins. A move in the midst of one. An arrival at the
-- address that is owed, which may make a page, and tries so many operations on flash. An interrupt that is taken before
-- the arrival, which may stop the program.
pub data Move : Type 0 where
  Begin : (line : Option Line) → Move
  Within : (inner : Inner) → Move
  Arrive : (target : ℕ) → (made : Bool) → (ops : ℕ) → Move
  Take : (stops : Bool) → Move

-- a line, if there is one, in front of others
abbrev pub line_before : Option Line → List Line → List Line
line_before None lines = lines
line_before (Some line) lines = line ∷ lines

abbrev pub line_within : Inner → Option Line
line_within (Plain line) = line
line_within (Serve line stops) = line

-- the device lines of the moves, in order
unfoldable pub lines_of : List Move → List Line
lines_of [] = []
lines_of (Begin line ∷ moves) = line_before line (lines_of moves)
lines_of (Within inner ∷ moves) = line_before (line_within inner) (lines_of moves)
lines_of (_ ∷ moves) = lines_of moves

-- how many plain steps, services, and services that stop the program there are in the midst of a step
abbrev pub count_plain : List Inner → ℕ
count_plain [] = 0
count_plain (Plain line ∷ rest) = suc (count_plain rest)
count_plain (_ ∷ rest) = count_plain rest

abbrev pub count_serve : List Inner → ℕ
count_serve [] = 0
count_serve (Serve line stops ∷ rest) = suc (count_serve rest)
count_serve (_ ∷ rest) = count_serve rest

abbrev pub count_stop : List Inner → ℕ
count_stop [] = 0
count_stop (Serve line true ∷ rest) = suc (count_stop rest)
count_stop (_ ∷ rest) = count_stop rest

-- so many plain moves in the midst of a step, without a line
abbrev pub plains : ℕ → List Inner
plains zero = []
plains (suc n) = Plain None ∷ plains n
