-- What each service does, entry by entry (docs/LOADER.md, "What a service does"). The address that a stop
-- names, and where a step begins, is the descriptor.
use Rattle.std.specs.Prelude.{◌≡◌, ℕ, ◌+◌, ◌<◌, true, false, if◌then◌else◌, slice_set, Option, Some, None}
use Rattle.avr_isa.specs.declared.form.Form.{Form}
use Rattle.avr_isa.specs.declared.form.Form.TheVariants as forms
use Rattle.avr_isa.specs.Crossing.{is_crossing}
use Rattle.avr_isa.specs.Instruction.{size_of}
use Rattle.avr_flags.specs.Status.{has_bit, with_bit, interrupts}
use Rattle.avr_exec.specs.declared.cpu.Cpu.{Cpu}
use Rattle.avr_isa.specs.Addresses.{wrapping_sum, wrapping_difference}
use Rattle.avr_exec.specs.Registers.{pair, with_stack, with_status}
use Rattle.avr_exec.specs.StackRules.{push_return_on, pop_return_from}
use Rattle.avr_exec.specs.Spaces.{Outcome, Went, Stopped}
use Rattle.avr_exec.specs.Asks.{ask_of}
use Rattle.avr_exec.specs.Execution.{exec_of}
use Rattle.mote_devices.specs.declared.line.Line.{Line}
use Rattle.mote_devices.specs.State.{State}
use Rattle.mote_devices.specs.Waking.{wake}
use Rattle.sram_layout.specs.Bytes.{byte_at}
use Rattle.sram_layout.specs.Cells.{count_cell, r24_cell, sreg_cell}
use Rattle.flat_machine.specs.FlatSpace.{FlatSpace, flat_calls, flat_stack}
use Rattle.flat_machine.specs.FlatMachine.{next_size, tried, Goes as GoesOn, Stops, Wakes}
use Rattle.preempt_count.specs.Counting.{count_over}
use Rattle.kernel_entry.specs.declared.kernel.Kernel.{Kernel}
use Rattle.kernel_entry.specs.declared.kernel.Stop.{Stop}
use Rattle.kernel_entry.specs.declared.kernel.Stop.TheVariants.{Halted, Asleep, Read}
use Rattle.kernel_entry.specs.declared.kernel.Served.{Served}
use Rattle.kernel_entry.specs.declared.kernel.Served.TheVariants as answers
use Rattle.kernel_entry.specs.Parts.{return_address, descriptor, instruction, virtual_sp, core_of, rested, image_held}
use Rattle.kernel_entry.specs.Services.{stop_of, fault_of, is_sleep, foreign_read}
use Rattle.kernel_entry.specs.Seen.{View, view_of, view_by, count_of, space_of, program, state_at, end_of}
use Rattle.kernel_entry.specs.Left.{MovesPages}

-- the program stopped, and nothing has changed but that the kernel's own stack is empty
pub record HasStopped (old : Kernel) (result : Served) (new : Kernel) (stop : Stop) : Type 0 where
  pub answer : result ≡ answers.Stopped stop
  pub stays : new ≡ rested old

-- the template goes on behind the descriptor; the program sees this, and COUNT stays
pub record Resumes (old : Kernel) (result : Served) (new : Kernel) (seen : View) (line : Option Line) : Type 0 where
  pub answer : result ≡ answers.Resume line
  pub pc : new.mote.cpu.pc ≡ wrapping_sum (return_address old) 1
  pub view : view_of new ≡ seen
  pub count : count_of new ≡ count_of old

-- control goes to an original address; the program sees this, and COUNT is lowered where the step is a crossing
pub record Goes (old : Kernel) (result : Served) (new : Kernel) (seen : View) (target : ℕ) : Type 0 where
  pub answer : result ≡ answers.Goto target None
  pub pc : new.mote.cpu.pc ≡ old.mote.cpu.pc
  pub view : view_of new ≡ seen
  pub count : count_of new ≡ count_over old.quantum (descriptor old) target (count_of old)

-- BRIDGE: control goes to the descriptor's address, and the stub is where the call stands
pub record Bridges (old : Kernel) (result : Served) (new : Kernel) : Type 0 where
  pub answer : result ≡ answers.Goto (descriptor old) (Some (wrapping_difference (return_address old) 2))
  pub stays : new ≡ rested old

-- QUANTUM: r24 and SREG come back from their cells, and COUNT is the quantum; no other byte changes
pub record EndsQuantum (old : Kernel) (result : Served) (new : Kernel) : Type 0 where
  pub answer : result ≡ answers.Goto (descriptor old) None
  pub pc : new.mote.cpu.pc ≡ old.mote.cpu.pc
  pub view : view_of new ≡ record (view_of old) {
    registers = slice_set old.mote.cpu.r 24 (byte_at old.mote.sram r24_cell);
    status = byte_at old.mote.sram sreg_cell;
  }
  pub count : count_of new ≡ old.quantum
  pub others : (b : ℕ) → count_cell < b → byte_at new.mote.sram b ≡ byte_at old.mote.sram b

-- MEM: the instruction executed over flat memory; the program goes on behind it
pub record HasExecuted (old : Kernel) (result : Served) (new : Kernel) (form : Form) (core : Cpu) (space : FlatSpace) : Type 0 where
  pub resumes : Resumes old result new (view_by core space) space.line
  pub pages : MovesPages old new (ask_of form (core_of old (descriptor old)))
  pub behind : core.pc ≡ wrapping_sum (descriptor old) (size_of form)

abbrev pub ExecutedBy : Kernel → Served → Kernel → Form → Outcome FlatSpace Cpu → Type 0
ExecutedBy old result new form (Went core space) = HasExecuted old result new form core space
ExecutedBy old result new form (Stopped stop) = HasStopped old result new (stop_of (descriptor old) stop)

-- .. unless it reads a word of the program that it may not
abbrev pub ReadBy : Kernel → Served → Kernel → Form → Option ℕ → Type 0
ReadBy old result new form (Some a) = HasStopped old result new (Read (descriptor old) a)
ReadBy old result new form None = ExecutedBy old result new form (exec_of flat_calls form (core_of old (descriptor old)) (space_of old) (next_size (image_held old) (descriptor old)))

pub record Executes (old : Kernel) (result : Served) (new : Kernel) : Type 0 where
  pub form : Form
  pub is : instruction old ≡ Some form
  pub does : ReadBy old result new form (foreign_read old)

-- PUSHRET: the address behind the call is pushed onto the program's stack
abbrev pub PushedBy : Kernel → Served → Kernel → Outcome FlatSpace (Unit {0}) → Type 0
PushedBy old result new (Went done space) = Resumes old result new (view_by (with_stack (core_of old (descriptor old)) (wrapping_difference (virtual_sp old) 2)) space) None
PushedBy old result new (Stopped stop) = HasStopped old result new (stop_of (descriptor old) stop)

pub record PushesReturn (old : Kernel) (result : Served) (new : Kernel) : Type 0 where
  pub form : Form
  pub is : instruction old ≡ Some form
  pub does : PushedBy old result new (push_return_on flat_stack (space_of old) (virtual_sp old) (wrapping_sum (descriptor old) (size_of form)))

-- RET: the return address is popped, and RETI sets the flag I
abbrev pub status_after : Form → ℕ → ℕ
status_after forms.Reti status = with_bit status interrupts true
status_after _ status = status

abbrev pub PoppedBy : Kernel → Served → Kernel → Form → Outcome FlatSpace ℕ → Type 0
PoppedBy old result new form (Went target space) =
    Goes old result new (view_by (with_status (with_stack (core_of old (descriptor old)) (wrapping_sum (virtual_sp old) 2)) (status_after form old.mote.cpu.sreg)) space) target
PoppedBy old result new form (Stopped stop) = HasStopped old result new (stop_of (descriptor old) stop)

pub record Returns (old : Kernel) (result : Served) (new : Kernel) : Type 0 where
  pub form : Form
  pub is : instruction old ≡ Some form
  pub does : PoppedBy old result new form (pop_return_from flat_stack (space_of old) (virtual_sp old))

-- IND: control goes to the address in Z; ICALL pushes the address behind it first
abbrev pub z_of : Kernel → ℕ
z_of k = pair (core_of k (descriptor k)) 30

abbrev pub CalledBy : Kernel → Served → Kernel → Outcome FlatSpace (Unit {0}) → Type 0
CalledBy old result new (Went done space) = Goes old result new (view_by (with_stack (core_of old (descriptor old)) (wrapping_difference (virtual_sp old) 2)) space) (z_of old)
CalledBy old result new (Stopped stop) = HasStopped old result new (stop_of (descriptor old) stop)

abbrev pub GoneThrough : Kernel → Served → Kernel → Form → Type 0
GoneThrough old result new forms.Icall = CalledBy old result new (push_return_on flat_stack (space_of old) (virtual_sp old) (wrapping_sum (descriptor old) 1))
GoneThrough old result new _ = Goes old result new (view_of old) (z_of old)

pub record GoesThrough (old : Kernel) (result : Served) (new : Kernel) : Type 0 where
  pub form : Form
  pub is : instruction old ≡ Some form
  pub does : GoneThrough old result new form

-- SELF: with interrupts on the jump is a step, and else the program halts
pub record LoopsOrHalts (old : Kernel) (result : Served) (new : Kernel) : Type 0 where
  pub on : has_bit old.mote.cpu.sreg interrupts ≡ true → Goes old result new (view_of old) (descriptor old)
  pub off : has_bit old.mote.cpu.sreg interrupts ≡ false → HasStopped old result new (Halted (descriptor old))

-- FAULT: a SLEEP that an interrupt ends; it leaves the devices so, and COUNT is lowered where the step is a crossing
pub record HasWoken (old : Kernel) (result : Served) (new : Kernel) (devices : State) : Type 0 where
  pub answer : result ≡ answers.Woke (wrapping_sum (descriptor old) 1)
  pub pc : new.mote.cpu.pc ≡ old.mote.cpu.pc
  pub view : view_of new ≡ record (view_of old) { devices = devices }
  pub count : count_of new ≡ count_over old.quantum (descriptor old) (wrapping_sum (descriptor old) 1) (count_of old)

abbrev pub SleptBy : Kernel → Served → Kernel → Option State → Type 0
SleptBy old result new (Some devices) = HasWoken old result new devices
SleptBy old result new None = HasStopped old result new (Asleep (descriptor old))

pub record Faults (old : Kernel) (result : Served) (new : Kernel) : Type 0 where
  pub sleeps : is_sleep (instruction old) ≡ true → has_bit old.mote.cpu.sreg interrupts ≡ true → SleptBy old result new (wake old.mote.devices)
  pub off : is_sleep (instruction old) ≡ true → has_bit old.mote.cpu.sreg interrupts ≡ false → HasStopped old result new (Asleep (descriptor old))
  pub other : is_sleep (instruction old) ≡ false → HasStopped old result new (fault_of (descriptor old) (instruction old))

-- All services of an instruction against the original program's own try of it, whatever the counts: they
-- stop exactly where it stops, for the same reason; and else both take the same step.
abbrev pub IsStep : Kernel → Kernel → Option Line → ℕ → Type 0
IsStep old new line to = (steps crossings : ℕ)
    → tried (program old) (state_at old (descriptor old) steps crossings)
    ≡ GoesOn line (state_at new to (steps + 1) (if is_crossing (descriptor old) to then crossings + 1 else crossings))

pub data AsTried (old : Kernel) (result : Served) (new : Kernel) : Type 0 where
  StopsToo : (stop : Stop) → HasStopped old result new stop
      → ((steps crossings : ℕ) → tried (program old) (state_at old (descriptor old) steps crossings) ≡ Stops (end_of stop)) → AsTried old result new
  ResumesToo : (line : Option Line) → (to : ℕ) → result ≡ answers.Resume line → IsStep old new line to → AsTried old result new
  GoesToo : (to : ℕ) → result ≡ answers.Goto to None → IsStep old new None to → AsTried old result new
  WakesToo : (to : ℕ) → result ≡ answers.Woke to
      → ((steps crossings : ℕ) → tried (program old) (state_at old (descriptor old) steps crossings)
      ≡ Wakes (state_at new to (steps + 1) (if is_crossing (descriptor old) to then crossings + 1 else crossings))) → AsTried old result new
