-- The definitions at worked values: which rule registers have, and a script of four inputs.
use Rattle.std.proofs.Common.{◌≡◌, List, [], ◌∷◌, refl}
use Rattle.std.specs.Prelude.{Some, slice_set}
use Rattle.base.specs.Lists.{zeros}
use Rattle.input_script.specs.declared.input.Input.TheVariants.{Pin, Uart, Adc}
use Rattle.input_script.specs.declared.input.Event.{Event}
use Rattle.avr_isa.specs.IoTable.{register_at}
use Rattle.avr_isa.specs.declared.io.IoRegister.TheVariants.{Stored, Pins}
use Rattle.mote_devices.specs.declared.line.Port.TheVariants.{DdrA, PortD}
use Rattle.mote_devices.specs.Inputs.{Received, at_poll, port_count}
use Rattle.mote_devices.specs.Accesses.{converter_status, line_written}

-- DDRA and PORTD are seen outside, PINA and PIND are pins, UBRR0H at 0x90 and RAMPZ only store
shown : (line_written (register_at 0x3A) 1 ≡ Some (record { port = DdrA; value = 1 })) × (line_written (register_at 0x32) 2 ≡ Some (record { port = PortD; value = 2 }))
unfolding register_at
shown = (refl, refl)

pins : (register_at 0x39 ≡ Pins 0) × (register_at 0x30 ≡ Pins 3)
unfolding register_at
pins = (refl, refl)

stored : (register_at 0x90 ≡ Stored) × (register_at 0x5B ≡ Stored)
unfolding register_at
stored = (refl, refl)

-- ADCSRA reads 0xBF after 0xFF was written, and 0x10 after 0x40
status : (converter_status 0xFF ≡ 0xBF) × (converter_status 0x40 ≡ 0x10)
status = (refl, refl)

abbrev script : List Event
script =
    record { at = 2; input = Pin 0 0x11 }
    ∷ record { at = 2; input = Uart 0x41 }
    ∷ record { at = 3; input = Uart 0x42 }
    ∷ record { at = 5; input = Adc 0x2A5 }
    ∷ []

abbrev nothing : Received
nothing = record { pins = zeros port_count; converter = 0; queue = []; pending = 0; coming = script }

-- poll 1 takes nothing, poll 3 the first three, of which two fill the queue in order
first_poll : at_poll 1 nothing ≡ nothing
unfolding at_poll
first_poll = refl

third_poll : at_poll 3 nothing ≡ record { pins = slice_set (zeros port_count) 0 0x11; converter = 0; queue = 0x41 ∷ 0x42 ∷ []; pending = 0; coming = record { at = 5; input = Adc 0x2A5 } ∷ [] }
unfolding at_poll
third_poll = refl
