-- What a service of a walk does: what the row of its entry says (docs/LOADER.md, "What a service does").
use Rattle.std.specs.Prelude.{◌≡◌, ◌≢◌, Bool, length, Option}
use Rattle.mote_devices.specs.declared.line.Line.{Line}
use Rattle.sram_layout.specs.Bytes.{byte_count}
use Rattle.flash_words.specs.Memory.{AreWords}
use Rattle.nat_template.specs.Stubs.{bridge_entry, quantum_entry, mem_entry, push_return_entry, return_entry, indirect_entry, self_entry, fault_entry}
use Rattle.kernel_entry.specs.declared.kernel.Kernel.{Kernel}
use Rattle.kernel_entry.specs.declared.kernel.Served.{Served}
use Rattle.kernel_entry.specs.Left.{Leaves, LeavesHeap}
use Rattle.kernel_entry.specs.Rows.{Bridges, EndsQuantum, Executes, PushesReturn, Returns, GoesThrough, LoopsOrHalts, Faults, AsTried}
use Rattle.kernel_entry.specs.Services.{served}
use Rattle.step_laws.specs.States.{State, mote_of}
use Rattle.step_laws.specs.Walks.{MakesServe}

-- the service of the entry at which the pc stood, with its answer; and the original program's own try of the instruction
pub record HasItsRow (old : Kernel) (result : Served) (new : Kernel) : Type 0 where
  pub leaves : Leaves old new
  pub heap : old.mote.cpu.pc ≢ mem_entry → LeavesHeap old new
  pub bridge : old.mote.cpu.pc ≡ bridge_entry → Bridges old result new
  pub quantum : old.mote.cpu.pc ≡ quantum_entry → EndsQuantum old result new
  pub memory : old.mote.cpu.pc ≡ mem_entry → Executes old result new
  pub push_return : old.mote.cpu.pc ≡ push_return_entry → PushesReturn old result new
  pub returns : old.mote.cpu.pc ≡ return_entry → Returns old result new
  pub indirect : old.mote.cpu.pc ≡ indirect_entry → GoesThrough old result new
  pub itself : old.mote.cpu.pc ≡ self_entry → LoopsOrHalts old result new
  pub fault : old.mote.cpu.pc ≡ fault_entry → Faults old result new
  pub tried : old.mote.cpu.pc ≢ bridge_entry → old.mote.cpu.pc ≢ quantum_entry → AsTried old result new

-- in each state whose SRAM has its size and whose flash has words
abbrev pub ServicesHaveRows : Type 0
ServicesHaveRows = (x y : State) (line : Option Line) (stops : Bool) → length (mote_of x).sram ≡ byte_count → AreWords (mote_of x).flash.words → MakesServe x line stops y
    → HasItsRow x.kernel (served x.kernel).0 y.kernel
