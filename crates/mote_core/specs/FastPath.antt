-- Serves private functions and the contracts of `Mote::plain_step_into` and `fast_move`: a plain step with a place for the line that
-- it shows, and a step on the fast path.
use Rattle.std.specs.Prelude.{◌≡◌, ℕ, true, List, Option, None}
use Rattle.std.specs.Option.{option_or}
use Rattle.avr_exec.specs.declared.cpu.Cpu.{Cpu}
use Rattle.avr_exec.specs.Registers.{with_status, with_counter}
use Rattle.flash_model.specs.declared.micro_ops.MicroOp.{MicroOp}
use Rattle.flash_model.specs.DecodeCache.{AreMicroOps}
use Rattle.mote_devices.specs.declared.line.Line.{Line}
use Rattle.mote_devices.specs.State.{State}
use Rattle.mote_core.specs.declared.mote.Mote.{Mote}
use Rattle.mote_core.specs.declared.mote.Plain.{Plain}
use Rattle.mote_core.specs.declared.mote.Plain.TheVariants.{Went}
use Rattle.mote_core.specs.Conditions.{can_step}
use Rattle.mote_core.specs.Physical.{Physical}
use Rattle.mote_core.specs.Shown.{line_shown}
use Rattle.mote_core.specs.Step.{form_at, IsPlainStep}

-- a plain step; the line that it shows, if any, takes the place of the one before
pub record IsStepInto (m : Mote) (before : Option Line) (next : Mote) (after : Option Line) : Type 0 where
  pub shown : Plain
  pub step : IsPlainStep m shown next
  pub line : after ≡ option_or (line_shown shown) before

-- these bytes of SRAM; the devices and the words of flash stay, whichever they are, and nothing is shown
abbrev pub with_sram_alone : List ℕ → State → List ℕ → Physical
with_sram_alone sram devices words = record { sram = sram; devices = devices; words = words; line = None }

-- the core whose SREG and pc stand apart from its other registers
abbrev pub core_at : Cpu → ℕ → ℕ → Cpu
core_at cpu sreg pc = with_counter (with_status cpu sreg) pc

-- these registers after an operation that leaves this core; SREG and the pc, which stand apart, stay
abbrev pub registers_after : Cpu → Cpu → Cpu
registers_after cpu core = core_at core cpu.sreg cpu.pc

-- the mote whose registers and bytes of SRAM are these, its SREG and pc apart
abbrev pub mote_with : Mote → Cpu → List ℕ → (sreg pc : ℕ) → Mote
mote_with m cpu sram sreg pc = record m { cpu = core_at cpu sreg pc; sram = sram }

-- where its instruction may be executed, the mote makes a step of its own by these micro-operations, and shows nothing
abbrev pub IsFastStep : List MicroOp → Mote → Mote → Type 0
IsFastStep ops m next = AreMicroOps m.flash.words ops → can_step (form_at m) m.cpu ≡ true → IsPlainStep m Went next
