-- What an inline template does, step by step (docs/RUN.md, "Inline templates").
use Rattle.std.specs.Prelude.{◌≡◌, ℕ, zero, suc, ◌+◌, ◌<◌, ◌≤◌, if◌then◌else◌, List, [], ◌∷◌, Option, Some, None, map}
use Rattle.avr_isa.specs.declared.form.Form.{Form}
use Rattle.avr_isa.specs.declared.form.Form.TheVariants.{Push, Pop, LoadOff, StoreOff}
use Rattle.avr_isa.specs.declared.operation.Base.TheVariants.{Y}
use Rattle.avr_decode.specs.Program.{instruction_at}
use Rattle.avr_isa.specs.Addresses.{wrapping_sum}
use Rattle.sram_layout.specs.Regions.{crossing_cells, inline_cells, kernel_stack, stack_window, between, KeepsRegion}
use Rattle.mote_core.specs.declared.mote.Mote.{Mote}
use Rattle.nat_template.specs.Stubs.{mem_entry}
use Rattle.nat_template.specs.Templates.{is_z}
use Rattle.flat_machine.specs.FlatMachine.{Goes}
use Rattle.kernel_entry.specs.declared.kernel.Kernel.{Kernel}
use Rattle.kernel_entry.specs.declared.kernel.Served.TheVariants as answers
use Rattle.kernel_entry.specs.Conditions.{CanServe}
use Rattle.kernel_entry.specs.Parts.{descriptor, return_address, image_held}
use Rattle.sram_layout.specs.Cells.{kernel_stack_top}
use Rattle.kernel_entry.specs.Seen.{program, state_at}
use Rattle.kernel_entry.specs.Services.{served}
use Rattle.inline_laws.specs.InlineWays.{pointer_of, above_pointer, from_frame}
use Rattle.step_laws.specs.Moves.{Move, Begin, plains, Within}
use Rattle.step_laws.specs.States.{State, mote_of, with_mote}
use Rattle.step_laws.specs.Settings.{IsAtEntry}
use Rattle.step_laws.specs.Walks.{Walk}
use Rattle.step_laws.specs.StepLaws.{tried_at, crossings_over}

-- The words of a template, the data address that it reaches, and its plain steps inside the stack window, below it, and
-- above it. The last two end with the call of MEM.
pub record Inline : Type 0 where
  pub words : ℕ
  pub address : ℕ
  pub inside : ℕ
  pub below : ℕ
  pub above : ℕ

-- of a register that is none of Z's
abbrev pub unless_z : ℕ → Inline → Option Inline
unless_z d inline = if is_z d then None else Some inline

-- PUSH reaches the byte at the program's stack pointer, POP the one above, LDD and STD with Y+q the one q on from Y.
abbrev pub inline_of : Mote → Option Form → Option Inline
inline_of m (Some (Push d)) = unless_z d (record { words = 39; address = pointer_of m; inside = 19; below = 13; above = 15 })
inline_of m (Some (Pop d)) = unless_z d (record { words = 39; address = above_pointer m; inside = 19; below = 14; above = 16 })
inline_of m (Some (LoadOff d Y q)) = unless_z d (record { words = 32; address = from_frame m q; inside = 16; below = 13; above = 15 })
inline_of m (Some (StoreOff Y q d)) = unless_z d (record { words = 32; address = from_frame m q; inside = 16; below = 13; above = 15 })
inline_of m _ = None

-- so many plain moves that write no line, of which the first alone begins at an entry's place
abbrev pub plain_moves : ℕ → List Move
plain_moves zero = []
plain_moves (suc n) = Begin None ∷ map Within (plains n)

-- What the plain steps leave: flash, swap and devices stay, and SRAM below the stack window, but for the cells of inline
-- templates and the kernel's stack. So COUNT stays, and the heap with its frames.
pub record LeavesMote (m n : Mote) : Type 0 where
  pub flash : n.flash ≡ m.flash
  pub swap : n.swap ≡ m.swap
  pub devices : n.devices ≡ m.devices
  pub front : KeepsRegion crossing_cells m.sram n.sram
  pub bytes : KeepsRegion (between inline_cells kernel_stack) m.sram n.sram
  pub heap : KeepsRegion (between kernel_stack stack_window) m.sram n.sram

-- The kernel asks MEM for the instruction at a, and stands for the same state of the same program.
pub record AsksMem (x : State) (a : ℕ) (k : Kernel) : Type 0 where
  pub at : k.mote.cpu.pc ≡ mem_entry
  pub can : CanServe k
  pub address : descriptor k ≡ a
  pub same : program k ≡ program x.kernel
  pub sees : (pc s c : ℕ) → state_at k pc s c ≡ state_at x.kernel pc s c

-- Asked so by any kernel, MEM resumes without a line, and leaves what the program sees at `to` of this one.
abbrev pub IsAsMem : State → (a to : ℕ) → Kernel → Type 0
IsAsMem x a to end = (k : Kernel) → AsksMem x a k → ((served k).0 ≡ answers.Resume None) × ((s c : ℕ) → state_at (served k).1 to s c ≡ state_at end to s c)

-- Inside the window: so many plain moves, and no other, lead to the word behind the template. They make the original
-- program's step, without a line, which is what the service MEM makes; and some kernel can ask it so.
pub record RunsInside (x : State) (a words steps : ℕ) : Type 0 where
  pub end : Mote
  pub walk : Walk x (plain_moves steps) (with_mote x end)
  pub behind : end.cpu.pc ≡ (mote_of x).cpu.pc + words
  pub top : end.cpu.sp ≡ kernel_stack_top
  pub stack : KeepsRegion kernel_stack (mote_of x).sram end.sram
  pub original : (s c : ℕ) → tried_at x a s c ≡ Goes None (state_at (with_mote x end).kernel (wrapping_sum a 1) (s + 1) (crossings_over a (wrapping_sum a 1) c))
  pub service : IsAsMem x a (wrapping_sum a 1) (with_mote x end).kernel
  pub asker : (k : Kernel) × AsksMem x a k
  pub leaves : LeavesMote (mote_of x) end

-- Outside: so many plain moves, and no other, lead to the entry of MEM, called for the instruction at a by the template's
-- last two words before the pc. The program sees what it saw.
pub record CallsMem (x : State) (a words steps : ℕ) : Type 0 where
  pub end : Mote
  pub walk : Walk x (plain_moves steps) (with_mote x end)
  pub asks : AsksMem x a (with_mote x end).kernel
  pub called : return_address (with_mote x end).kernel + 1 ≡ (mote_of x).cpu.pc + words
  pub leaves : LeavesMote (mote_of x) end

-- by the address that is reached
pub record HasInlineRun (x : State) (a : ℕ) (t : Inline) : Type 0 where
  pub inside : stack_window.first ≤ t.address → t.address < stack_window.behind → RunsInside x a t.words t.inside
  pub below : t.address < stack_window.first → CallsMem x a t.words t.below
  pub above : stack_window.behind ≤ t.address → CallsMem x a t.words t.above

-- from each entry whose instruction has an inline template
abbrev pub RunInline : Type 0
RunInline = (x : State) → (a : ℕ) → (t : Inline) → IsAtEntry x a → inline_of (mote_of x) (instruction_at (image_held x.kernel) a) ≡ Some t → HasInlineRun x a t
