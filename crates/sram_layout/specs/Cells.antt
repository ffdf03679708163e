-- Where the kernel keeps its cells and tables in SRAM: the profile's map of 0x0100 to 0x04FF, as data addresses.
-- A word cell and each word of a table entry have their low byte first, as AVR code stores them.
use Rattle.std.specs.Prelude.{ℕ, ◌+◌, ◌*◌, List}
use Rattle.sram_layout.specs.Bytes.{first_address, data_word_at, with_word, byte_at, with_byte}
use Rattle.sram_layout.specs.Regions.{frame_cells, place_tables, swap_map}

-- COUNT: crossings left before the next checkpoint
abbrev pub count_cell : ℕ
count_cell = first_address

-- R24: the program's r24 while a crossing stub uses the register
abbrev pub r24_cell : ℕ
r24_cell = 0x0101

-- SREG: the program's status register while a template uses it
abbrev pub sreg_cell : ℕ
sreg_cell = 0x0102

-- SPL and SPH: the program's stack pointer, a word
abbrev pub vsp_cell : ℕ
vsp_cell = 0x0103

-- Z0 and Z1: the program's Z pointer while a template uses r31:r30, a word
abbrev pub z_cell : ℕ
z_cell = 0x0105

-- the stack pointer where the kernel's own stack is empty: its two bytes are this one and the one below
abbrev pub kernel_stack_top : ℕ
kernel_stack_top = 0x011F

-- entry i of the frame table, four bytes: page, state, 0, 0
abbrev pub frame_cell : ℕ → ℕ
frame_cell i = frame_cells.first + 4 * i

-- the frame to replace next
abbrev pub victim_cell : ℕ
victim_cell = 0x0140

-- how many swap slots are given
abbrev pub given_cell : ℕ
given_cell = 0x0141

-- RING: the number within the pool of the page to recycle next, a word
abbrev pub ring_cell : ℕ
ring_cell = 0x0142

-- entry i of the look-aside table, four bytes: the original address and its place
abbrev pub aside_cell : ℕ → ℕ
aside_cell i = place_tables.first + 4 * i

-- entry n (0 or 1) of a set of the two-way table, four bytes: the original address and its place
abbrev pub way_cell : ℕ → ℕ → ℕ
way_cell set n = 0x0200 + 8 * set + 4 * n

-- the swap map's byte for a virtual page: its slot, 0xFF for none
abbrev pub slot_cell : ℕ → ℕ
slot_cell page = swap_map.first + page

-- what the swap map has for a page without a slot
abbrev pub no_slot : ℕ
no_slot = 0xFF

-- the two bytes of a frame table entry at address a: page and state
abbrev pub frame_at : List ℕ → ℕ → ℕ × ℕ
frame_at m a = (byte_at m a, byte_at m (a + 1))

-- m with these two bytes in the frame table entry at address a
abbrev pub with_frame : List ℕ → ℕ → ℕ → ℕ → List ℕ
with_frame m a page state = with_byte (with_byte m a page) (a + 1) state

-- the two words of a table entry at address a: original address and place
abbrev pub entry_at : List ℕ → ℕ → ℕ × ℕ
entry_at m a = (data_word_at m a, data_word_at m (a + 2))

-- m with these two words in the table entry at address a
abbrev pub with_entry : List ℕ → ℕ → ℕ → ℕ → List ℕ
with_entry m a t place = with_word (with_word m a t) (a + 2) place
