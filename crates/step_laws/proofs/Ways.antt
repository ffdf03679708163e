-- Walks in a row, and ways through a stub: what a walk through it leaves.
use Rattle.std.proofs.Common.{[], ℕ, ◌≡◌, ◌≤◌, ◌∷◌, ◌++◌, Bool, false, List, sym, subst, map}
use Rattle.std.specs.Prelude.{Option, None, ◌&&◌, ◌==◌}
use Rattle.mote_devices.specs.declared.line.Line.{Line}
use Rattle.sram_layout.specs.Bytes.{byte_at}
use Rattle.sram_layout.specs.Cells.{count_cell}
use Rattle.step_laws.specs.StepLaws.{IsReset, Reaches}
use Rattle.step_laws.specs.Links.{Links}
use Rattle.step_laws.specs.Moves.{Inner, count_plain, count_serve, count_stop, lines_of, Within}
use Rattle.step_laws.proofs.SameProgram.{SameProgram}
use Rattle.step_laws.specs.States.{State, mote_of}
use Rattle.step_laws.specs.Walks.{MakesOf, Walks, Walk, WalkWithin, WalkFrom}

pub record Reached (links : Links) (x : State) (t c : ℕ) (crosses : Bool) (z : State) : Type 0 where
  pub going : z.end ≡ None
  pub layout : z.kernel.layout ≡ x.kernel.layout
  pub part : z.kernel.part ≡ x.kernel.part
  pub quantum : z.kernel.quantum ≡ x.kernel.quantum
  pub same : SameProgram (mote_of x) (mote_of z)
  pub count : byte_at (mote_of z).sram count_cell ≡ c
  pub reaches : Reaches links t (crosses && (byte_at (mote_of x).sram count_cell == 1)) z

-- A walk through a stub to t, from a plain move on that begins at an entry or not. It writes no line.
pub record Way (links : Links) (x : State) (b : Bool) (t c : ℕ) (crosses : Bool) : Type 0 where
  pub end : State
  pub rest : List Inner
  pub walk : WalkFrom x b None rest end
  pub silent : lines_of (map Within rest) ≡ []
  pub few : count_plain rest ≤ 10
  pub serves : count_serve rest ≤ 1
  pub goes : count_stop rest ≡ 0
  pub reset : IsReset x crosses rest
  pub left : Reached links x t c crosses end

-- walks in a row
pub walks_on : {S M : Type 0} (R : S → M → S → Type 0) (x y z : S) (ms ns : List M) → Walks R x ms y → Walks R y ns z → Walks R x (ms ++ ns) z
walks_on R x y z [] ns first second = subst (λ s. Walks R s ns z) (sym first) second
walks_on R x y z (m ∷ ms) ns first second = (first.0, first.1, walks_on R first.0 y z ms ns first.2 second)

pub from_on : (x y z : State) (b : Bool) (line : Option Line) (ms ns : List Inner) → WalkFrom x b line ms y → WalkWithin y ns z → WalkFrom x b line (ms ++ ns) z
from_on x y z b line ms ns first second = (first.0, first.1, walks_on (MakesOf false) first.0 y z ms ns first.2 second)

-- moves in the midst of a step as moves
pub walk_of : (x z : State) (rest : List Inner) → WalkWithin x rest z → Walk x (map Within rest) z
walk_of x z [] walk = walk
walk_of x z (m ∷ rest) walk = (walk.0, walk.1, walk_of walk.0 z rest walk.2)
