-- Serves private functions: how the serial port's queue is kept, as indices into the list of the script's events.
use Rattle.std.specs.Prelude.{◌≡◌, ℕ, ◌+◌, ◌<◌, ◌≤◌, Bool, false, List, [], ◌∷◌, length}
use Rattle.std.specs.List.{flat_map, slice_range}
use Rattle.input_script.specs.declared.input.Input.{Input}
use Rattle.input_script.specs.declared.input.Input.TheVariants.{Uart}
use Rattle.input_script.specs.declared.input.Event.{Event}
use Rattle.mote_devices.specs.Inputs.{Received, after_input, is_due, port_count}
use Rattle.mote_devices.specs.declared.inputs.Waiting.{Waiting}

-- the byte that an input brings to the serial port, if it does
abbrev pub serial_byte : Input → List ℕ
serial_byte (Uart byte) = byte ∷ []
serial_byte _ = []

-- the bytes of the events from index `from` to before `to`
unfoldable pub bytes_between : List Event → ℕ → ℕ → List ℕ
bytes_between events from to = flat_map (λ (event : Event). serial_byte event.input) (slice_range events from to)

-- the indices are in order and within the script; each port has its pins
pub record IsKept (pins : List ℕ) (script : List Event) (taken serial : ℕ) : Type 0 where
  pub queued : serial ≤ taken
  pub within : taken ≤ length script
  pub ports : length pins ≡ port_count

-- the first of these bytes: the event that brought it, and the byte
pub record IsNextByte (events : List Event) (from to : ℕ) (waiting : Waiting) : Type 0 where
  pub above : from ≤ waiting.index
  pub below : waiting.index < to
  pub skipped : bytes_between events from to ≡ bytes_between events waiting.index to
  pub first : bytes_between events waiting.index to ≡ waiting.byte ∷ bytes_between events (waiting.index + 1) to

-- the next event has a number of at most n
abbrev pub first_is_due : ℕ → List Event → Bool
first_is_due n [] = false
first_is_due n (event ∷ events) = is_due n event

-- the next event, if there is one, takes effect
abbrev pub first_taken : Received → List Event → Received
first_taken r [] = r
first_taken r (event ∷ events) = after_input (record r { coming = events }) event.input

abbrev pub with_first : Received → Received
with_first r = first_taken r r.coming
