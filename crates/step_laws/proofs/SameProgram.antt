-- What the program sees stays where its parts of the mote stay.
use Rattle.std.proofs.Common.{ℕ, ◌≡◌, ◌+◌, ◌*◌, ◌≤◌, ◌∙◌, length, List, ap, ap₂, arith, refl}
use Rattle.std.specs.Prelude.{◌≢◌, Bool}
use Rattle.sram_layout.specs.Bytes.{byte_at, data_word_at}
use Rattle.mote_core.specs.declared.mote.Mote.{Mote}
use Rattle.sram_layout.specs.Cells.{vsp_cell}
use Rattle.heap_frames.specs.SamePaging.{SamePaging}
use Rattle.heap_frames.specs.Memory.{vmem}
use Rattle.heap_frames.specs.Paged.{IsPaged}
use Rattle.heap_frames.proofs.SamePagingLaws.{pages_same, paged_same, vmem_same}
use Rattle.mote_devices.specs.State.{State as Devices}
use Rattle.flat_machine.specs.FlatMachine.{FlatState}
use Rattle.kernel_entry.specs.declared.kernel.Kernel.{Kernel}
use Rattle.kernel_entry.specs.Seen.{state_at}

-- What a stub leaves: the registers and SREG, SRAM but for COUNT, the cells of r24 and SREG and the kernel's
-- stack, which is empty, flash, devices and swap.
pub record SameProgram (m n : Mote) : Type 0 where
  pub registers : n.cpu.r ≡ m.cpu.r
  pub status : n.cpu.sreg ≡ m.cpu.sreg
  pub top : n.cpu.sp ≡ 0x011F
  pub size : length n.sram ≡ length m.sram
  pub bytes : (b : ℕ) → vsp_cell ≤ b → b ≢ 0x011E → b ≢ 0x011F → byte_at n.sram b ≡ byte_at m.sram b
  pub flash : n.flash ≡ m.flash
  pub devices : n.devices ≡ m.devices
  pub swap : n.swap ≡ m.swap

-- a byte, by one condition
pub same_byte : {m n : Mote} → SameProgram m n → (b : ℕ) → (vsp_cell ≤ b) × (b ≢ 0x011E) × (b ≢ 0x011F) → byte_at n.sram b ≡ byte_at m.sram b
same_byte same b apart = same.bytes b apart.0 apart.1 apart.2

same_paging : (m n : Mote) → SameProgram m n → SamePaging m.sram n.sram
same_paging m n same = record {
  size = same.size;
  cells = λ b from to. same_byte same b (omega arith);
  tables = λ b from to. same_byte same b (omega arith);
}

same_stack : (m n : Mote) → SameProgram m n → data_word_at n.sram vsp_cell ≡ data_word_at m.sram vsp_cell
unfolding data_word_at
same_stack m n same = ap₂ (λ low high. low + 256 * high) (same_byte same vsp_cell (omega arith)) (same_byte same (vsp_cell + 1) (omega arith))

pub flat_parts : (r r' : List ℕ) (s s' sp sp' a steps crossings : ℕ) (memory memory' : List ℕ) (devices devices' : Devices) (has has' : List Bool) → r ≡ r' → s ≡ s' → sp ≡ sp' → memory ≡ memory'
    → devices ≡ devices' → has ≡ has'
    → ◌≡◌ {A = FlatState} (record { cpu = record { r = r; sreg = s; sp = sp; pc = a }; memory = memory; devices = devices; pages = has; steps = steps; crossings = crossings })
    (record { cpu = record { r = r'; sreg = s'; sp = sp'; pc = a }; memory = memory'; devices = devices'; pages = has'; steps = steps; crossings = crossings })
flat_parts r r' s s' sp sp' a steps crossings memory memory' devices devices' has has' er es ep em ed eh =
    ap (λ x. record { cpu = record { r = x; sreg = s; sp = sp; pc = a }; memory = memory; devices = devices; pages = has; steps = steps; crossings = crossings }) er
    ∙ ap (λ x. record { cpu = record { r = r'; sreg = x; sp = sp; pc = a }; memory = memory; devices = devices; pages = has; steps = steps; crossings = crossings }) es
    ∙ ap (λ x. record { cpu = record { r = r'; sreg = s'; sp = x; pc = a }; memory = memory; devices = devices; pages = has; steps = steps; crossings = crossings }) ep
    ∙ ap (λ x. record { cpu = record { r = r'; sreg = s'; sp = sp'; pc = a }; memory = x; devices = devices; pages = has; steps = steps; crossings = crossings }) em
    ∙ ap (λ x. record { cpu = record { r = r'; sreg = s'; sp = sp'; pc = a }; memory = memory'; devices = x; pages = has; steps = steps; crossings = crossings }) ed
    ∙ ap (λ x. record { cpu = record { r = r'; sreg = s'; sp = sp'; pc = a }; memory = memory'; devices = devices'; pages = x; steps = steps; crossings = crossings }) eh

pub flat_same : (k l : Kernel) (a steps crossings : ℕ) → SameProgram k.mote l.mote → state_at l a steps crossings ≡ state_at k a steps crossings
flat_same k l a steps crossings same =
    let paging = same_paging k.mote l.mote same in
    let memory : vmem l.mote.sram l.mote.swap ≡ vmem k.mote.sram k.mote.swap = ap (vmem l.mote.sram) same.swap
    ∙ vmem_same k.mote.sram l.mote.sram k.mote.swap paging (λ b from to. same_byte same b (omega arith)) in
    flat_parts _ _ _ _ _ _ a steps crossings _ _ _ _ _ _ same.registers same.status (same_stack k.mote l.mote same) memory same.devices (pages_same k.mote.sram l.mote.sram paging)

pub paged_after : (m n : Mote) → SameProgram m n → IsPaged m.sram m.swap → IsPaged n.sram n.swap
paged_after m n same paged = rw same.swap (paged_same m.sram n.sram m.swap (same_paging m n same) paged)

pub same_on : (m n o : Mote) → SameProgram m n → SameProgram n o → SameProgram m o
same_on m n o first then = record {
  registers = then.registers ∙ first.registers;
  status = then.status ∙ first.status;
  top = then.top;
  size = then.size ∙ first.size;
  bytes = λ b low apart apart'. then.bytes b low apart apart' ∙ first.bytes b low apart apart';
  flash = then.flash ∙ first.flash;
  devices = then.devices ∙ first.devices;
  swap = then.swap ∙ first.swap;
}

-- SRAM, SP and the pc alone may differ
pub same_sram : (m : Mote) (sp pc : ℕ) (ram : List ℕ) → sp ≡ 0x011F → length ram ≡ length m.sram → ((b : ℕ) → (vsp_cell ≤ b) × (b ≢ 0x011E) × (b ≢ 0x011F) → byte_at ram b ≡ byte_at m.sram b)
    → SameProgram m (record m { cpu = record m.cpu { sp = sp; pc = pc }; sram = ram })
same_sram m sp pc ram top size bytes =
    record { registers = refl; status = refl; top = top; size = size; bytes = λ b low one other. bytes b (low, one, other); flash = refl; devices = refl; swap = refl }

pub same_program : (m : Mote) → m.cpu.sp ≡ 0x011F → SameProgram m m
same_program m top = same_sram m m.cpu.sp m.cpu.pc m.sram top refl (λ b apart. refl)
