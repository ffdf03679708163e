-- What a stack does with a byte and with a return address, which every data space does alike
-- (AVR Instruction Set Manual, "Operation" of PUSH, POP, CALL and RET).
use Rattle.std.specs.Prelude.{ℕ, ◌+◌, ◌*◌, ◌/◌, ◌%◌, Bool, if◌then◌else◌}
use Rattle.avr_exec.specs.declared.stop.BusStop.{BusStop}
use Rattle.avr_isa.specs.Addresses.{wrapping_sum, wrapping_difference}
use Rattle.avr_exec.specs.Spaces.{Outcome, Went, Stopped}

-- in what the rules differ: the addresses that a stack may use, the byte at one, the space with another byte
-- there, and the stop at any other address
pub record StackRule (Space : Type 0) : Type 0 where
  pub holds : ℕ → Bool
  pub byte : Space → ℕ → ℕ
  pub with_byte : Space → ℕ → ℕ → Space
  pub stop : ℕ → BusStop

-- a byte pushed at sp
unfoldable pub push_on : {Space : Type 0} → StackRule Space → Space → ℕ → ℕ → Outcome Space (Unit {0})
push_on stack s sp v = if stack.holds sp then Went tt (stack.with_byte s sp v) else Stopped (stack.stop sp)

-- the byte above sp popped
unfoldable pub pop_from : {Space : Type 0} → StackRule Space → Space → ℕ → Outcome Space ℕ
pop_from stack s sp =
    if stack.holds (wrapping_sum sp 1) then Went (stack.byte s (wrapping_sum sp 1)) s else Stopped (stack.stop (wrapping_sum sp 1))

-- a return address pushed: its low byte at sp, then its high byte below
unfoldable pub push_return_on : {Space : Type 0} → StackRule Space → Space → ℕ → ℕ → Outcome Space (Unit {0})
push_return_on stack s sp ret =
    if stack.holds sp then
    if stack.holds (wrapping_difference sp 1) then Went tt (stack.with_byte (stack.with_byte s sp (ret % 256)) (wrapping_difference sp 1) (ret / 256))
    else Stopped (stack.stop (wrapping_difference sp 1))
    else Stopped (stack.stop sp)

-- a return address popped: its high byte from sp + 1, then its low byte from sp + 2
unfoldable pub pop_return_from : {Space : Type 0} → StackRule Space → Space → ℕ → Outcome Space ℕ
pop_return_from stack s sp =
    if stack.holds (wrapping_sum sp 1) then
    if stack.holds (wrapping_sum sp 2) then Went (stack.byte s (wrapping_sum sp 1) * 256 + stack.byte s (wrapping_sum sp 2)) s
    else Stopped (stack.stop (wrapping_sum sp 2))
    else Stopped (stack.stop (wrapping_sum sp 1))
