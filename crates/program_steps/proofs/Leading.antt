-- What leads from one machine to the next, and on.
use Rattle.std.proofs.Common.{◌≡◌, List, [], ◌∷◌, ◌++◌, refl, ◌∙◌}
use Rattle.mote_devices.specs.declared.line.Line.{Line}
use Rattle.step_laws.specs.Moves.{Move, Begin}
use Rattle.step_laws.proofs.Joining.{joins}
use Rattle.program_steps.specs.Machines.{Machine, counted_of}
use Rattle.program_steps.specs.Stepping.{Goes, Stays, ends_in_arrive}

pub goes_on : (x y z : Machine) (ms ns : List Move) (a b : List Line) → Goes x y ms a → Goes y z ns b → Goes x z (ms ++ ns) (a ++ b)
goes_on x y z ms ns a b first then = joins (counted_of x) (counted_of y) (counted_of z) ms ns a b first then

pub last_cons : (m : Move) (ns : List Move) (n : Move) → ends_in_arrive (m ∷ n ∷ ns) ≡ ends_in_arrive (n ∷ ns)
last_cons (Begin line) ns n = refl
last_cons _ ns n = refl

-- the last of both is the last of the second, which isn't empty
pub last_on : (ms ns : List Move) (n : Move) → ends_in_arrive (ms ++ n ∷ ns) ≡ ends_in_arrive (n ∷ ns)
last_on [] ns n = refl
last_on (m ∷ []) ns n = last_cons m ns n
last_on (m ∷ m' ∷ ms) ns n = last_cons m (ms ++ n ∷ ns) m' ∙ last_on (m' ∷ ms) ns n

pub stays_on : (x y z : Machine) → Stays x y → Stays y z → Stays x z
stays_on x y z first then = record { program = then.program ∙ first.program; layout = then.layout ∙ first.layout; quantum = then.quantum ∙ first.quantum; failing = then.failing ∙ first.failing }

pub stays_self : (m : Machine) → Stays m m
stays_self m = record { program = refl; layout = refl; quantum = refl; failing = refl }
