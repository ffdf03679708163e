-- The numbers and lines of worked programs, from their moves alone.
use Rattle.std.proofs.Common.{◌≡◌, List, [], ◌∷◌, ◌++◌, true, false, refl, map}
use Rattle.std.specs.Prelude.{Some, None}
use Rattle.mote_devices.specs.declared.line.Line.{Line}
use Rattle.mote_devices.specs.declared.line.Port.TheVariants.{PortA}
use Rattle.step_laws.specs.Moves.{Plain, Serve, Move, Begin, Within, Arrive, lines_of, plains}
use Rattle.step_laws.specs.Numbers.{Numbers, moved, numbered}

abbrev nothing : Numbers
nothing = record { steps = 0; natural = 0; entries = 0; pages = 0; since = 0; longest = 0; began = 0; others = 0; ops = 0 }

-- LDI r16, 15; OUT PORTA, r16; RJMP to itself (E00F BB0B CFFF): one page, and the jump calls the kernel
abbrev fifteen : Line
fifteen = record { port = PortA; value = 15 }

abbrev first_program : List Move
first_program = Arrive 0 true 1 ∷ Begin None ∷ Begin (Some fifteen) ∷ Begin None ∷ Within (Serve None true) ∷ []

first_numbers : numbered first_program nothing ≡ record { steps = 2; natural = 3; entries = 1; pages = 1; since = 0; longest = 3; began = 0; others = 0; ops = 1 }
unfolding moved
first_numbers = refl

first_lines : lines_of first_program ≡ fifteen ∷ []
unfolding lines_of
first_lines = refl

-- LDI r16, 3; DEC r16; BRNE 1; RJMP to itself (E003 950A F7F1 CFFF). The branch is taken twice, through a
-- crossing stub: ten instructions, and the call of the bridge the first time, which the arrival makes a jump.
abbrev over_the_bridge : List Move
over_the_bridge = Begin None ∷ Begin None ∷ map Within (plains 11) ++ (Within (Serve None false) ∷ Arrive 1 false 2 ∷ [])

abbrev by_the_jump : List Move
by_the_jump = Begin None ∷ Begin None ∷ map Within (plains 11)

abbrev countdown : List Move
countdown = Arrive 0 true 1 ∷ Begin None ∷ over_the_bridge ++ (by_the_jump ++ (Begin None ∷ Begin None ∷ Within (Plain None) ∷ Begin None ∷ Within (Serve None true) ∷ []))

countdown_numbers : numbered countdown nothing ≡ record { steps = 7; natural = 31; entries = 2; pages = 1; since = 0; longest = 17; began = 0; others = 0; ops = 3 }
unfolding moved
countdown_numbers = refl
