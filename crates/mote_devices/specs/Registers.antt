-- Which reads of the I/O registers are polls, and which ports their writes are seen at. What each register does, by its data
-- address, is `avr_isa`'s table.
use Rattle.std.specs.Prelude.{Bool, true, false, List, [], ◌∷◌}
use Rattle.avr_isa.specs.declared.io.IoRegister.{IoRegister}
use Rattle.avr_isa.specs.declared.io.IoRegister.TheVariants.{Stored, Direction, Output}
use Rattle.mote_devices.specs.declared.line.Port.{Port}
use Rattle.mote_devices.specs.declared.line.Port.TheVariants.{PortA, PortB, PortC, PortD, DdrA, DdrB, DdrC, DdrD}

-- a read of an input is a poll
abbrev pub is_polled : IoRegister → Bool
is_polled Stored = false
is_polled (Direction port) = false
is_polled (Output port) = false
is_polled _ = true

-- the ports that are seen outside, by their numbers: their outputs, and the directions of their pins
abbrev pub outputs : List Port
outputs = PortA ∷ PortB ∷ PortC ∷ PortD ∷ []

abbrev pub directions : List Port
directions = DdrA ∷ DdrB ∷ DdrC ∷ DdrD ∷ []
