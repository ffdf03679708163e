-- Serves tests: a space of a few bytes, which their bus stands for, and an example of how a space is written.
use Rattle.std.specs.Prelude.{ℕ, ◌-◌, nat_lt, if◌then◌else◌, List, slice_index, slice_index_or, slice_set, bit_and, bit_or}
use Rattle.avr_exec.specs.declared.stop.BusStop.TheVariants.{Io, Stack}
use Rattle.avr_exec.specs.Spaces.{Outcome, Went, Stopped, Calls}
use Rattle.avr_exec.specs.StackRules.{StackRule, push_on, pop_from, push_return_on, pop_return_from}

-- 320 bytes at data addresses from 0 on, RAMPZ, and a program's bytes, 0xFF after their end
pub record Small : Type 0 where
  pub bytes : List ℕ
  pub extension : ℕ
  pub program : List ℕ

abbrev pub small_with : Small → ℕ → ℕ → Small
small_with space a v = record space { bytes = slice_set space.bytes a v }

abbrev pub small_load : Small → ℕ → Outcome Small ℕ
small_load space a = if nat_lt a 320 then Went (slice_index space.bytes a) space else Stopped (Io a)

abbrev pub small_store : Small → ℕ → ℕ → Outcome Small (Unit {0})
small_store space a v = if nat_lt a 320 then Went tt (small_with space a v) else Stopped (Io a)

abbrev pub small_modify : Small → ℕ → ℕ → ℕ → Outcome Small (Unit {0})
small_modify space a clear set = Went tt (small_with space a (bit_or (bit_and (slice_index space.bytes a) (255 - clear)) set))

-- the stack keeps to the bytes
abbrev pub small_stack : StackRule Small
small_stack = record {
  holds = λ a. nat_lt a 320;
  byte = λ space a. slice_index space.bytes a;
  with_byte = λ space a v. small_with space a v;
  stop = λ a. Stack a;
}

abbrev pub small_calls : Calls Small
small_calls = record {
  load = small_load;
  store = small_store;
  modify = small_modify;
  push = push_on small_stack;
  pop = pop_from small_stack;
  push_ret = push_return_on small_stack;
  pop_ret = pop_return_from small_stack;
  rampz = λ space. space.extension;
  set_rampz = λ space v. record space { extension = v };
  flash_byte = λ space a. slice_index_or space.program a 255;
}
