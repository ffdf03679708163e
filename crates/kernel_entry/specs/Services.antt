-- What each service of the kernel does, as a function of the whole kernel (docs/LOADER.md, "What a service does").
use Rattle.std.specs.Prelude.{ℕ, Bool, true, false, ◌==◌, ◌||◌, ◌&&◌, nat_lt, is_none, if◌then◌else◌, slice_set, Option, Some, None, Result, Ok, Err}
use Rattle.avr_isa.specs.declared.form.Form.{Form}
use Rattle.avr_isa.specs.declared.form.Form.TheVariants as forms
use Rattle.avr_isa.specs.IoTable.{io_address}
use Rattle.avr_isa.specs.Crossing.{is_crossing}
use Rattle.mote_devices.specs.State.{State, stored, rampz_address}
use Rattle.mote_devices.specs.Waking.{wake}
use Rattle.avr_flags.specs.Status.{has_bit, interrupts}
use Rattle.avr_exec.specs.declared.cpu.Cpu.{Cpu}
use Rattle.avr_exec.specs.declared.stop.BusStop.{BusStop}
use Rattle.avr_exec.specs.declared.stop.BusStop.TheVariants as bus
use Rattle.avr_isa.specs.Addresses.{wrapping_sum, wrapping_difference}
use Rattle.avr_exec.specs.Spaces.{Outcome, Went, Stopped}
use Rattle.avr_exec.specs.Asks.{ask_of}
use Rattle.avr_exec.specs.Execution.{exec_of}
use Rattle.sram_layout.specs.Bytes.{byte_at, with_byte}
use Rattle.sram_layout.specs.Cells.{count_cell, r24_cell, sreg_cell, kernel_stack_top}
use Rattle.nat_template.specs.Stubs.{bridge_entry, quantum_entry, mem_entry, push_return_entry, return_entry, indirect_entry, self_entry}
use Rattle.flat_machine.specs.FlatMachine.{next_size, word_asked, if_foreign}
use Rattle.mem_guard.specs.Guarded.{Guarded, guarded_calls}
use Rattle.preempt_count.specs.Counting.{crossed}
use Rattle.kernel_entry.specs.declared.kernel.Kernel.{Kernel}
use Rattle.kernel_entry.specs.declared.kernel.Stop.{Stop}
use Rattle.kernel_entry.specs.declared.kernel.Stop.TheVariants.{Halted, Asleep, Illegal, SelfProgram, Read, Io, Stack, SwapFull}
use Rattle.kernel_entry.specs.declared.kernel.Served.{Served}
use Rattle.kernel_entry.specs.declared.kernel.Served.TheVariants as answers
use Rattle.kernel_entry.specs.declared.execution.Ran.{Ran}
use Rattle.kernel_entry.specs.Parts.{return_address, descriptor, instruction, memory_of, core_of, rested, with_pc, with_sram, put_back, image_held}

-- The program's instruction at the descriptor's address, executed over the program's memory: the new core
-- and memory, or a stop, which leaves both.
unfoldable pub executed : Kernel → Form → Outcome Guarded Cpu
executed k form = exec_of guarded_calls form (core_of k (descriptor k)) (memory_of k) (next_size (image_held k) (descriptor k))

-- what the execution tells, and the kernel after it
abbrev pub execution_by : Kernel → Outcome Guarded Cpu → Result Ran BusStop × Kernel
execution_by k (Went core memory) = (Ok (record { pc = core.pc; line = memory.line }), put_back k core memory)
execution_by k (Stopped stop) = (Err stop, rested k)

abbrev pub execution : Kernel → Form → Result Ran BusStop × Kernel
execution k form = execution_by k (executed k form)

-- a stop of the program's memory, of the instruction at this address
abbrev pub stop_of : ℕ → BusStop → Stop
stop_of at (bus.Io a) = Io at a
stop_of at (bus.Stack a) = Stack at a
stop_of at (bus.SwapFull a) = SwapFull at a

-- BRIDGE: control goes to the descriptor's address; the stub is the call of two words before it
abbrev pub bridged : Kernel → Served × Kernel
bridged k = (answers.Goto (descriptor k) (Some (wrapping_difference (return_address k) 2)), rested k)

-- QUANTUM: r24 and SREG are what their cells have, and COUNT is the quantum
abbrev pub quantum_ended : Kernel → Served × Kernel
quantum_ended k = (
  answers.Goto (descriptor k) None,
  record k {
    mote = record k.mote {
      cpu = record k.mote.cpu { r = slice_set k.mote.cpu.r 24 (byte_at k.mote.sram r24_cell); sreg = byte_at k.mote.sram sreg_cell; sp = kernel_stack_top };
      sram = with_byte k.mote.sram count_cell k.quantum;
    };
  },
)

-- the service of an instruction; what is none is illegal
abbrev pub if_instruction : Kernel → Option Form → (Form → Served × Kernel) → Served × Kernel
if_instruction k None service = (answers.Stopped (Illegal (descriptor k)), rested k)
if_instruction k (Some form) service = service form

-- MEM, which may read, and PUSHRET: after the execution the physical pc is behind the descriptor
abbrev pub resumed_by : Kernel → Result Ran BusStop → Kernel → Served × Kernel
resumed_by k (Ok ran) next = (answers.Resume ran.line, with_pc next (wrapping_sum (return_address k) 1))
resumed_by k (Err stop) next = (answers.Stopped (stop_of (descriptor k) stop), next)

unfoldable pub resumed : Kernel → Served × Kernel
resumed k = if_instruction k (instruction k) (λ form. resumed_by k (execution k form).0 (execution k form).1)

-- MEM: LPM or ELPM of a word that the program may not read stops it
abbrev pub foreign_in : Kernel → Option Form → Option ℕ
foreign_in k None = None
foreign_in k (Some form) = if_foreign k.part (word_asked (stored k.mote.devices rampz_address) (ask_of form (core_of k (descriptor k))))

abbrev pub foreign_read : Kernel → Option ℕ
foreign_read k = foreign_in k (instruction k)

abbrev pub read_by : Kernel → Option ℕ → Served × Kernel
read_by k (Some a) = (answers.Stopped (Read (descriptor k) a), rested k)
read_by k None = resumed k

unfoldable pub accessed : Kernel → Served × Kernel
accessed k = read_by k (foreign_read k)

-- RET and IND: after the execution control goes to the program's new pc, and the step is counted
abbrev pub gone_by : Kernel → Result Ran BusStop → Kernel → Served × Kernel
gone_by k (Ok ran) next = (answers.Goto ran.pc None, with_sram next (crossed k.quantum (descriptor k) ran.pc next.mote.sram))
gone_by k (Err stop) next = (answers.Stopped (stop_of (descriptor k) stop), next)

unfoldable pub gone : Kernel → Served × Kernel
gone k = if_instruction k (instruction k) (λ form. gone_by k (execution k form).0 (execution k form).1)

-- SELF: the program halts where interrupts are off
abbrev pub halted : Kernel → Served × Kernel
halted k = (answers.Stopped (Halted (descriptor k)), rested k)

unfoldable pub halted_or_gone : Kernel → Served × Kernel
halted_or_gone k = if has_bit k.mote.cpu.sreg interrupts then gone k else halted k

-- FAULT: why an instruction may not be executed; those that are named with a register may not access it
abbrev pub fault_of : ℕ → Option Form → Stop
fault_of at (Some forms.Sleep) = Asleep at
fault_of at (Some forms.Spm) = SelfProgram at
fault_of at (Some (forms.InIo d a)) = Io at (io_address a)
fault_of at (Some (forms.OutIo a r)) = Io at (io_address a)
fault_of at (Some (forms.Cbi a b)) = Io at (io_address a)
fault_of at (Some (forms.Sbi a b)) = Io at (io_address a)
fault_of at (Some (forms.Sbic a b)) = Io at (io_address a)
fault_of at (Some (forms.Sbis a b)) = Io at (io_address a)
fault_of at _ = Illegal at

-- an instruction, if there is one, is SLEEP
abbrev pub is_sleep : Option Form → Bool
is_sleep (Some forms.Sleep) = true
is_sleep _ = false

-- SLEEP: with interrupts on the program goes on behind it once one is enabled, and the step is counted; with interrupts
-- off, or where none will be, it sleeps for ever
abbrev pub woken : Kernel → (to : ℕ) → State → Kernel
woken k to devices = record k {
  mote = record k.mote {
    cpu = record k.mote.cpu { sp = kernel_stack_top };
    sram = crossed k.quantum (descriptor k) to k.mote.sram;
    devices = devices;
  };
}

abbrev pub slept_by : Kernel → Option State → Served × Kernel
slept_by k None = (answers.Stopped (Asleep (descriptor k)), rested k)
slept_by k (Some devices) = (answers.Woke (wrapping_sum (descriptor k) 1), woken k (wrapping_sum (descriptor k) 1) devices)

abbrev pub slept : Kernel → Served × Kernel
slept k = if has_bit k.mote.cpu.sreg interrupts then slept_by k (wake k.mote.devices) else (answers.Stopped (Asleep (descriptor k)), rested k)

abbrev pub faulted : Kernel → Served × Kernel
faulted k = if is_sleep (instruction k) then slept k else (answers.Stopped (fault_of (descriptor k) (instruction k)), rested k)

-- the service of the entry with this address
abbrev pub served_at : ℕ → Kernel → Served × Kernel
served_at entry k =
    if entry == bridge_entry then bridged k
    else if entry == quantum_entry then quantum_ended k
    else if entry == mem_entry then accessed k
    else if entry == push_return_entry then resumed k
    else if (entry == return_entry) || (entry == indirect_entry) then gone k
    else if entry == self_entry then halted_or_gone k
    else faulted k

-- the answer of the entry at which the pc stands, and the kernel after it
unfoldable pub served : Kernel → Served × Kernel
served k = served_at k.mote.cpu.pc k

-- the service executes an instruction of the program
abbrev pub is_run_at : ℕ → Kernel → Bool
is_run_at entry k =
    if entry == mem_entry then is_none (foreign_read k)
    else if entry == self_entry then has_bit k.mote.cpu.sreg interrupts
    else nat_lt mem_entry entry && nat_lt entry self_entry

abbrev pub is_run : Kernel → Bool
is_run k = is_run_at k.mote.cpu.pc k

-- A service ends at a checkpoint: QUANTUM, and a step that is the last crossing of the quantum. A SLEEP that an interrupt
-- ended counts as one.
abbrev pub due_by : (entry from : ℕ) → (last : Bool) → Served → Bool
due_by entry from last (answers.Goto target None) = (entry == quantum_entry) || (is_crossing from target && last)
due_by entry from last (answers.Woke target) = true
due_by entry from last _ = false

unfoldable pub is_due : Kernel → Bool
is_due k = due_by k.mote.cpu.pc (descriptor k) (byte_at k.mote.sram count_cell == 1) (served k).0
