-- What the devices have received, and when an input of the script takes effect.
use Rattle.std.specs.Prelude.{ℕ, ◌^◌, Bool, true, false, not, nat_le, nat_lt, if◌then◌else◌, List, [], ◌∷◌, ◌++◌, filter, fold, slice_set, bit_or}
use Rattle.base.specs.Lists.{zeros}
use Rattle.input_script.specs.declared.input.Input.{Input}
use Rattle.input_script.specs.declared.input.Input.TheVariants.{Pin, Uart, Adc, Int}
use Rattle.input_script.specs.declared.input.Event.{Event}

-- The pins of ports A to D, the converter's result, the bytes that the serial port received and that were
-- not read yet, the external interrupts that are pending, and the events to come. Bit k of `pending` is INTk.
pub record Received : Type 0 where
  pub pins : List ℕ
  pub converter : ℕ
  pub queue : List ℕ
  pub pending : ℕ
  pub coming : List Event

-- how many ports have pins
abbrev pub port_count : ℕ
port_count = 4

-- nothing was received, and these events are to come
unfoldable pub unreceived : List Event → Received
unreceived events = record { pins = zeros port_count; converter = 0; queue = []; pending = 0; coming = events }

-- an input takes effect
abbrev pub after_input : Received → Input → Received
after_input r (Pin port value) = record r { pins = slice_set r.pins port value }
after_input r (Uart byte) = record r { queue = r.queue ++ byte ∷ [] }
after_input r (Adc value) = record r { converter = value }
after_input r (Int k) = record r { pending = if nat_lt k 8 then bit_or r.pending (2 ^ k) else r.pending }

-- the event takes effect at poll n or before
abbrev pub is_due : ℕ → Event → Bool
is_due n event = nat_le event.at n

-- At poll n all events with a number of at most n take effect, in their order; the others stay to come.
unfoldable pub at_poll : ℕ → Received → Received
at_poll n r =
    let later = filter (λ (event : Event). not (is_due n event)) r.coming in
    fold (λ (now : Received) (event : Event). after_input now event.input) (record r { coming = later }) (filter (is_due n) r.coming)

-- the queue's first byte, 0 where it is empty
abbrev pub first_byte : List ℕ → ℕ
first_byte [] = 0
first_byte (byte ∷ bytes) = byte

-- the queue has no byte
abbrev pub is_empty : List ℕ → Bool
is_empty [] = true
is_empty (byte ∷ bytes) = false
