-- Which data addresses of a program are its stack window and which its heap (docs/MEMORY.md, "Address classes").
-- The pages of the heap have 256 bytes; an address a lies in page a / 256.
use Rattle.std.specs.Prelude.{ℕ, ◌/◌, Bool, ◌&&◌, ◌||◌, nat_le, nat_lt}

-- an address of the stack window
abbrev pub is_stack : ℕ → Bool
is_stack a = nat_le 0x0D00 a && nat_lt a 0x1100

-- the pages of the heap are 0x01 to 0x0C and 0x11 to 0xFF
abbrev pub is_heap_page : ℕ → Bool
is_heap_page page = nat_le 0x01 page && nat_le page 0x0C || nat_le 0x11 page && nat_le page 0xFF

-- an address of the heap
abbrev pub is_heap : ℕ → Bool
is_heap a = is_heap_page (a / 256)
