-- The devices as plain data.
use Rattle.std.specs.Prelude.{ℕ, ◌+◌, List, slice_index, slice_set}
pub use Rattle.avr_isa.specs.IoTable.{rampz_address, mask_address}
use Rattle.input_script.specs.declared.input.Event.{Event}
use Rattle.mote_devices.specs.Inputs.{Received, at_poll, unreceived}
use Rattle.base.specs.Lists.{zeros}

-- The bytes of the registers that store, by data address; what the devices have received; and how many
-- polls were made.
pub record State : Type 0 where
  pub registers : List ℕ
  pub received : Received
  pub polls : ℕ

-- how many data addresses the core's registers and the I/O registers have
abbrev pub register_count : ℕ
register_count = 256

-- at reset every register is 0, and nothing was received
abbrev pub at_reset : List Event → State
at_reset events = record {
  registers = zeros register_count;
  received = unreceived events;
  polls = 0;
}

-- a stored register, by its data address
abbrev pub stored : State → ℕ → ℕ
stored s a = slice_index s.registers a

abbrev pub with_stored : State → ℕ → ℕ → State
with_stored s a v = record s { registers = slice_set s.registers a v }

-- one more poll
abbrev pub polled : State → State
polled s = record s { polls = s.polls + 1; received = at_poll (s.polls + 1) s.received }
