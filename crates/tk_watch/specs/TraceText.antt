-- What stands after a step, as it is shown: a row of the number of steps, the core and the registers.
use Rattle.std.specs.Prelude.{ℕ, ◌-◌, ◌&&◌, Bool, nat_le, nat_lt, if◌then◌else◌, List, [], ◌++◌, slice_index, codes, decimal}
use Rattle.text_lines.specs.Pieces.{address_text, byte_text}
use Rattle.tk_watch.specs.Rows.{rows}

-- the begin of a row: how many steps, the pc, the stack pointer and SREG
unfoldable pub core_told : (step pc sp sreg : ℕ) → List ℕ
core_told step pc sp sreg = codes "step " ++ decimal step ++ codes " " ++ address_text pc ++ codes " " ++ address_text sp ++ codes " " ++ byte_text sreg

-- a register of a row, behind a blank
abbrev pub register_told : ℕ → List ℕ
register_told v = codes " " ++ byte_text v

-- a row: its begin, and r0 to r31
abbrev pub row_told : (step pc sp sreg : ℕ) (r : List ℕ) → List ℕ
row_told step pc sp sreg r = core_told step pc sp sreg ++ (rows (λ n. register_told (slice_index r n)) 32 ++ codes "\n")

-- of so many rows, of which the first is that after `first` steps, one is that after so many
abbrev pub has_row : (first count step : ℕ) → Bool
has_row first count step = nat_le first step && nat_lt (step - first) count

-- .. which is told then
abbrev pub trace_text : (first count step pc sp sreg : ℕ) (r : List ℕ) → List ℕ
trace_text first count step pc sp sreg r = if has_row first count step then row_told step pc sp sreg r else []
