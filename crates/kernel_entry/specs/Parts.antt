-- What the kernel has of the program (docs/LOADER.md, "What a service does").
use Rattle.std.specs.Prelude.{ℕ, ◌+◌, ◌-◌, ◌*◌, List, Option, None}
use Rattle.avr_isa.specs.declared.form.Form.{Form}
use Rattle.avr_decode.specs.Program.{instruction_at}
use Rattle.avr_exec.specs.declared.cpu.Cpu.{Cpu}
use Rattle.flash_words.specs.Pages.{word_at}
use Rattle.flash_words.specs.Layouts.{image_of}
use Rattle.sram_layout.specs.Bytes.{byte_at, with_word, data_word_at as cell_at}
use Rattle.sram_layout.specs.Cells.{vsp_cell, kernel_stack_top}
use Rattle.mem_guard.specs.Guarded.{Guarded}
use Rattle.kernel_entry.specs.declared.kernel.Kernel.{Kernel}

-- the address behind the call of the kernel, where the call left it: its high byte at the lower address
abbrev pub return_address : Kernel → ℕ
return_address k = byte_at k.mote.sram (kernel_stack_top - 1) * 256 + byte_at k.mote.sram kernel_stack_top

-- the word there: an address of the program
abbrev pub descriptor : Kernel → ℕ
descriptor k = word_at k.mote.flash.words (return_address k)

-- the program's image, and its instruction at the descriptor's address
abbrev pub image_held : Kernel → List ℕ
image_held k = image_of k.layout k.mote.flash.words

abbrev pub instruction : Kernel → Option Form
instruction k = instruction_at (image_held k) (descriptor k)

-- the program's stack pointer
abbrev pub virtual_sp : Kernel → ℕ
virtual_sp k = cell_at k.mote.sram vsp_cell

-- the memory that the program sees, and its core at this pc
abbrev pub memory_of : Kernel → Guarded
memory_of k = record {
  sram = k.mote.sram;
  swap = k.mote.swap;
  devices = k.mote.devices;
  words = k.mote.flash.words;
  layout = k.layout;
  line = None;
}

abbrev pub core_of : Kernel → ℕ → Cpu
core_of k pc = record { r = k.mote.cpu.r; sreg = k.mote.cpu.sreg; sp = virtual_sp k; pc = pc }

-- the kernel's stack is empty
abbrev pub rested : Kernel → Kernel
rested k = record k { mote = record k.mote { cpu = record k.mote.cpu { sp = kernel_stack_top } } }

-- with another physical pc, and with other bytes of SRAM
abbrev pub with_pc : Kernel → ℕ → Kernel
with_pc k place = record k { mote = record k.mote { cpu = record k.mote.cpu { pc = place } } }

abbrev pub with_sram : Kernel → List ℕ → Kernel
with_sram k m = record k { mote = record k.mote { sram = m } }

-- the program's core and memory are put back, and the kernel's stack is empty; the physical pc stays
abbrev pub put_back : Kernel → Cpu → Guarded → Kernel
put_back k core memory = record k {
  mote = record k.mote {
    cpu = record { r = core.r; sreg = core.sreg; sp = kernel_stack_top; pc = k.mote.cpu.pc };
    sram = with_word memory.sram vsp_cell core.sp;
    devices = memory.devices;
    swap = memory.swap;
  };
}
