-- Serves private functions: what an instruction at once has done.
use Rattle.std.specs.Prelude.{◌≡◌, ℕ, Some, None, Result, Ok}
use Rattle.avr_isa.specs.declared.form.Form.{Form}
use Rattle.avr_exec.specs.Registers.{with_register}
use Rattle.mem_guard.specs.AtHand.{LoadsAtHand}
use Rattle.avr_exec.specs.declared.stop.BusStop.{BusStop}
use Rattle.kernel_entry.specs.declared.execution.Ran.{Ran}
use Rattle.kernel_entry.specs.declared.kernel.Kernel.{Kernel}
use Rattle.kernel_entry.specs.Parts.{instruction, memory_of, core_of, put_back}
use Rattle.kernel_entry.specs.Services.{foreign_read, execution}

-- an execution went on at this pc, showed nothing, and left the kernel so
abbrev pub WentOn : Kernel → Form → (pc : ℕ) → Kernel → Type 0
WentOn k form pc next = ◌≡◌ {A = Result Ran BusStop × Kernel} (Ok (record { pc = pc; line = None }), next) (execution k form)

-- the instruction at the descriptor's address, which may read what it reads, was executed: it went on, and showed nothing
pub record IsExecuted (k next : Kernel) : Type 0 where
  pub form : Form
  pub is : instruction k ≡ Some form
  pub reads : foreign_read k ≡ None
  pub pc : ℕ
  pub went : WentOn k form pc next

-- a byte at hand, at this data address, was brought into register d
pub record IsLoaded (k : Kernel) (d a : ℕ) (next : Kernel) : Type 0 where
  pub byte : ℕ
  pub hit : LoadsAtHand k.mote.sram a byte
  pub after : next ≡ put_back k (with_register (core_of k 0) d byte) (memory_of k)
