-- When the physical space answers without a stop, and when a step may be made.
use Rattle.std.specs.Prelude.{Bool, true, false, ◌&&◌, ◌||◌, Option, Some, None}
use Rattle.avr_isa.specs.declared.form.Form.{Form}
use Rattle.avr_isa.specs.IoTable.{can_read, can_write}
use Rattle.avr_exec.specs.declared.cpu.Cpu.{Cpu}
use Rattle.avr_exec.specs.declared.ask.Ask.{Ask}
use Rattle.avr_exec.specs.declared.ask.Ask.TheVariants.{Nothing, Load, Store, Modify, PushByte, PopByte, PushReturn, PopReturn, Program, ExtendedProgram, ExtendedProgramRaising}
use Rattle.avr_isa.specs.Addresses.{wrapping_sum, wrapping_difference}
use Rattle.avr_exec.specs.Asks.{ask_of}
use Rattle.avr_exec.specs.Execution.{is_executed}
use Rattle.mote_core.specs.Physical.{is_sram}

-- each address that is touched is SRAM, or a register that a program may access in that direction; the
-- stack is in SRAM
unfoldable pub is_mapped : Ask → Bool
is_mapped Nothing = true
is_mapped (Load a) = is_sram a || can_read a
is_mapped (Store a v) = is_sram a || can_write a
is_mapped (Modify a clear set) = can_read a && can_write a
is_mapped (PushByte sp v) = is_sram sp
is_mapped (PopByte sp) = is_sram (wrapping_sum sp 1)
is_mapped (PushReturn sp ret) = is_sram sp && is_sram (wrapping_difference sp 1)
is_mapped (PopReturn sp) = is_sram (wrapping_sum sp 1) && is_sram (wrapping_sum sp 2)
is_mapped (Program z) = true
is_mapped (ExtendedProgram z) = true
is_mapped (ExtendedProgramRaising z) = true

-- there is an instruction, other than SLEEP and SPM, and what it asks is mapped
unfoldable pub can_step : Option Form → Cpu → Bool
can_step None cpu = false
can_step (Some form) cpu = is_executed form && is_mapped (ask_of form cpu)

-- nothing is asked, or an I/O register that a program may access in that direction
unfoldable pub is_device_ask : Ask → Bool
is_device_ask Nothing = true
is_device_ask (Load a) = can_read a
is_device_ask (Store a v) = can_write a
is_device_ask (Modify a clear set) = can_read a && can_write a
is_device_ask _ = false
