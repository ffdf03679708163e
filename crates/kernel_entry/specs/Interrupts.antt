-- An interrupt, taken before the program goes on, as a function of the whole kernel (docs/LOADER.md, "Interrupts").
use Rattle.std.specs.Prelude.{◌≡◌, ◌≢◌, ◌↔◌, ℕ, ◌/◌, ◌%◌, Bool, true, false, ◌&&◌, if◌then◌else◌, List, Option, Some, None, Result, Ok, Err}
use Rattle.avr_exec.specs.declared.stop.BusStop.{BusStop}
use Rattle.avr_isa.specs.Addresses.{wrapping_difference}
use Rattle.avr_exec.specs.Spaces.{Outcome, Went, Stopped}
use Rattle.avr_flags.specs.Status.{has_bit, with_bit, interrupts}
use Rattle.sram_layout.specs.Bytes.{with_byte, with_word}
use Rattle.sram_layout.specs.Cells.{vsp_cell}
use Rattle.flat_machine.specs.Addresses.{is_stack}
use Rattle.heap_frames.specs.Paged.{IsPaged}
use Rattle.mote_devices.specs.Waking.{enabled, is_enabled, with_taken}
use Rattle.flat_machine.specs.FlatMachine.{lowest, vector}
use Rattle.mem_guard.specs.Guarded.{Guarded, push_return}
use Rattle.kernel_entry.specs.declared.kernel.Kernel.{Kernel}
use Rattle.kernel_entry.specs.declared.kernel.Stop.{Stop}
use Rattle.kernel_entry.specs.declared.kernel.Stop.TheVariants.{Stack}
use Rattle.kernel_entry.specs.declared.kernel.Taken.{Taken}
use Rattle.kernel_entry.specs.declared.kernel.Taken.TheVariants as answers
use Rattle.kernel_entry.specs.Parts.{virtual_sp, memory_of}
use Rattle.kernel_entry.specs.Services.{stop_of}

-- an address is pushed onto the program's stack
abbrev pub pushed_by : Kernel → Outcome Guarded (Unit {0}) → Result (Unit {0}) BusStop × Kernel
pushed_by k (Went done g) = (Ok tt, record k { mote = record k.mote { sram = with_word g.sram vsp_cell (wrapping_difference (virtual_sp k) 2); devices = g.devices; swap = g.swap } })
pushed_by k (Stopped stop) = (Err stop, k)

abbrev pub pushed : Kernel → ℕ → Result (Unit {0}) BusStop × Kernel
pushed k address = pushed_by k (push_return (memory_of k) (virtual_sp k) address)

-- INTn is taken: interrupts are off, and it is no longer pending
abbrev pub taken_by : Kernel → (n target : ℕ) → Result (Unit {0}) BusStop → Kernel → Taken × Kernel
taken_by k n target (Ok done) next = (
  answers.Vector (vector k.part n),
  record next {
    mote = record next.mote {
      cpu = record next.mote.cpu { sreg = with_bit next.mote.cpu.sreg interrupts false };
      devices = with_taken next.mote.devices n;
    };
  },
)
taken_by k n target (Err stop) next = (answers.Stopped (stop_of target stop), next)

-- interrupts are on, and one is pending and enabled
abbrev pub is_wanted : Kernel → Bool
is_wanted k = has_bit k.mote.cpu.sreg interrupts && is_enabled k.mote.devices

-- then the one with the least number is taken
abbrev pub taken : Kernel → ℕ → Taken × Kernel
taken k target =
    if is_wanted k
    then taken_by k (lowest (enabled k.mote.devices)) target (pushed k target).0 (pushed k target).1
    else (answers.Nothing, k)

-- of the two bytes that an address pushed at this stack pointer has, the first outside the stack window
abbrev pub first_outside : ℕ → Option ℕ
first_outside sp =
    if is_stack sp then if is_stack (wrapping_difference sp 1) then None else Some (wrapping_difference sp 1)
    else Some sp

-- an address stands in the stack: its low byte at the stack pointer, its high byte below
abbrev pub with_address : List ℕ → (sp address : ℕ) → List ℕ
with_address m sp address = with_byte (with_byte m sp (address % 256)) (wrapping_difference sp 1) (address / 256)

-- INTn was taken; nothing else of the kernel and the mote is changed
abbrev pub after_taking : Kernel → (n target : ℕ) → Kernel
after_taking k n target = record k {
  mote = record k.mote {
    cpu = record k.mote.cpu { sreg = with_bit k.mote.cpu.sreg interrupts false };
    sram = with_word (with_address k.mote.sram (virtual_sp k) target) vsp_cell (wrapping_difference (virtual_sp k) 2);
    devices = with_taken k.mote.devices n;
  };
}

-- When each answer comes, and what it leaves.
pub record TakesLeast (old : Kernel) (target : ℕ) (result : Taken) (new : Kernel) : Type 0 where
  pub nothing : (result ≡ answers.Nothing) ↔ (is_wanted old ≡ false)
  pub stopped : (stop : Stop) → (result ≡ answers.Stopped stop)
      ↔ ((is_wanted old ≡ true) × ((address : ℕ) × (first_outside (virtual_sp old) ≡ Some address) × (stop ≡ Stack target address)))
  pub vector : (place : ℕ) → (result ≡ answers.Vector place)
      ↔ ((is_wanted old ≡ true) × (first_outside (virtual_sp old) ≡ None) × (place ≡ vector old.part (lowest (enabled old.mote.devices))))
  pub stays : ((place : ℕ) → result ≢ answers.Vector place) → new ≡ old
  pub taken : (place : ℕ) → result ≡ answers.Vector place → new ≡ after_taking old (lowest (enabled old.mote.devices)) target
  pub paged : IsPaged new.mote.sram new.mote.swap
