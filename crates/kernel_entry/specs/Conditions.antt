-- When a service may be asked. The word behind the call and the image decide, whatever stands in the pool.
use Rattle.std.specs.Prelude.{◌≡◌, ℕ, ◌<◌, ◌≤◌, ◌^◌, Bool, true, ◌||◌, ◌==◌, Some}
use Rattle.avr_isa.specs.declared.form.Form.{Form}
use Rattle.avr_exec.specs.Execution.{is_executed}
use Rattle.sram_layout.specs.Bytes.{byte_at}
use Rattle.sram_layout.specs.Cells.{count_cell}
use Rattle.heap_frames.specs.Paged.{IsPaged}
use Rattle.mote_devices.specs.Waking.{Timely}
use Rattle.nat_template.specs.declared.shapes.TemplateShape.{TemplateShape}
use Rattle.nat_template.specs.declared.shapes.TemplateShape.TheVariants.{Mem, Call, Ret, Ind, SelfJump, Fault}
use Rattle.nat_template.specs.Shapes.{shape_of}
use Rattle.nat_template.specs.Stubs.{bridge_entry, quantum_entry, mem_entry, push_return_entry, return_entry, indirect_entry, self_entry, fault_entry}
use Rattle.kernel_entry.specs.declared.kernel.Kernel.{Kernel}
use Rattle.kernel_entry.specs.Parts.{descriptor, instruction}

-- the form that the instruction at the descriptor's address takes in rewritten code
abbrev pub shape_behind : Kernel → TemplateShape
shape_behind k = shape_of (descriptor k) (instruction k)

-- an instruction can be executed over the program's memory
pub record CanExecute (k : Kernel) : Type 0 where
  pub paged : IsPaged k.mote.sram k.mote.swap
  pub room : k.mote.devices.polls < 2 ^ 63

-- a crossing can be counted
pub record CanCount (k : Kernel) : Type 0 where
  pub some : 1 ≤ byte_at k.mote.sram count_cell
  pub most : byte_at k.mote.sram count_cell ≤ k.quantum

-- a SLEEP can be ended: its step can be counted, and the numbers of the events to come fit 32 bits
pub record CanWake (k : Kernel) : Type 0 where
  pub count : CanCount k
  pub timely : Timely k.mote.devices

-- the pc is at the entry that the template of the instruction calls
pub data CanServe (k : Kernel) : Type 0 where
  AtBridge : k.mote.cpu.pc ≡ bridge_entry → CanServe k
  AtQuantum : k.mote.cpu.pc ≡ quantum_entry → CanServe k
  AtMem : k.mote.cpu.pc ≡ mem_entry → shape_behind k ≡ Mem → CanExecute k → CanServe k
  AtPushReturn : k.mote.cpu.pc ≡ push_return_entry → shape_behind k ≡ Call → CanExecute k → CanServe k
  AtReturn : k.mote.cpu.pc ≡ return_entry → shape_behind k ≡ Ret → CanExecute k → CanCount k → CanServe k
  AtIndirect : k.mote.cpu.pc ≡ indirect_entry → shape_behind k ≡ Ind → CanExecute k → CanCount k → CanServe k
  AtSelf : k.mote.cpu.pc ≡ self_entry → shape_behind k ≡ SelfJump → CanExecute k → CanCount k → CanServe k
  AtFault : k.mote.cpu.pc ≡ fault_entry → shape_behind k ≡ Fault → CanWake k → CanServe k

-- the entries at which an instruction of the program is executed, and those of them that count the step
abbrev pub counts : ℕ → Bool
counts entry = entry == return_entry || entry == indirect_entry || entry == self_entry

abbrev pub executes : ℕ → Bool
executes entry = entry == mem_entry || entry == push_return_entry || counts entry

-- the instruction at the descriptor's address can be executed
pub record IsCalled (k : Kernel) : Type 0 where
  pub form : Form
  pub is : instruction k ≡ Some form
  pub runs : is_executed form ≡ true
  pub can : CanExecute k
