-- What the law of a step rests on (docs/RUN.md, "The law of a step").
use Rattle.std.specs.Prelude.{◌≡◌, ℕ, ◌+◌, ◌<◌, ◌≤◌, ◌^◌, length, None}
use Rattle.sram_layout.specs.Bytes.{byte_count, byte_at}
use Rattle.sram_layout.specs.Cells.{count_cell, vsp_cell, kernel_stack_top}
use Rattle.heap_frames.specs.Paged.{IsPaged}
use Rattle.mote_devices.specs.Waking.{Timely}
use Rattle.flash_words.specs.Layouts.{IsRight}
use Rattle.flash_words.specs.Memory.{IsWhole}
use Rattle.page_index.specs.Entries.{IsEntry}
use Rattle.nat_page.specs.Entered.{StandsIn}
use Rattle.nat_page.specs.Faithful.{IsFaithful}
use Rattle.kernel_entry.specs.declared.kernel.Kernel.{Kernel}
use Rattle.step_laws.specs.States.{State, mote_of}
use Rattle.nat_page.specs.Parts.{IsParted}
use Rattle.step_laws.specs.Links.{Links, part_number, number_of}
use Rattle.kernel_entry.specs.Parts.{image_held}

-- nothing is owed, the program has not ended, and a poll can be counted
pub record IsRunning (x : State) : Type 0 where
  pub free : x.owed ≡ None
  pub going : x.end ≡ None
  pub room : (mote_of x).devices.polls < 2 ^ 63

-- no call of the kernel is open, and COUNT, which is a byte, is not used up; r31 is a register, and the low
-- half of the program's stack pointer is a byte
pub record IsIdle (k : Kernel) : Type 0 where
  pub registers : 31 < length k.mote.cpu.r
  pub size : length k.mote.sram ≡ byte_count
  pub pointer : byte_at k.mote.sram vsp_cell < 256
  pub top : k.mote.cpu.sp ≡ kernel_stack_top
  pub some : 1 ≤ byte_at k.mote.sram count_cell
  pub most : byte_at k.mote.sram count_cell < 256

-- the layout is right, flash is whole, COUNT is within the quantum, two polls can be counted, and the numbers of the
-- events to come fit 32 bits
pub record IsBounded (k : Kernel) : Type 0 where
  pub right : IsRight k.layout
  pub whole : IsWhole k.mote.flash
  pub most : byte_at k.mote.sram count_cell ≤ k.quantum
  pub polls : k.mote.devices.polls + 1 < 2 ^ 63
  pub timely : Timely k.mote.devices

-- a step can begin, as far as it isn't the code's matter
pub record CanBegin (x : State) : Type 0 where
  pub running : IsRunning x
  pub idle : IsIdle x.kernel
  pub bounded : IsBounded x.kernel
  pub paged : IsPaged (mote_of x).sram (mote_of x).swap

-- The machine stands at v, the place of address a. No more is asked of the pool than what stands there.
pub record IsSetting (links : Links) (x : State) (a v : ℕ) : Type 0 where
  pub ready : CanBegin x
  pub at : (mote_of x).cpu.pc ≡ v
  pub code : StandsIn links.enters links.marks x.kernel.layout (image_held x.kernel) (mote_of x).flash.words a v

-- The machine stands at an entry of a, which is of the program's part; flash holds the image and rewritten code of it,
-- whose links keep to the parts.
pub record IsAtEntry (x : State) (a : ℕ) : Type 0 where
  pub ready : CanBegin x
  pub code : IsFaithful x.kernel.layout (image_held x.kernel) (mote_of x).flash.words
  pub parted : IsParted x.kernel.layout (image_held x.kernel) (mote_of x).flash.words (part_number x.kernel.part.shut)
  pub own : part_number x.kernel.part.shut a ≡ number_of x.kernel.part
  pub entry : IsEntry x.kernel.layout (mote_of x).flash.words a (mote_of x).cpu.pc
