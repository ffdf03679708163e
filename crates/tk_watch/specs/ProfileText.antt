-- How many steps of a run begin at each original address.
use Rattle.std.specs.Prelude.{ℕ, zero, suc, ◌+◌, ◌==◌, ◌&&◌, Bool, nat_lt, if◌then◌else◌, List, [], ◌++◌, codes, decimal}
use Rattle.flat_machine.specs.FlatMachine.{Run}
use Rattle.text_lines.specs.Pieces.{address_text}
use Rattle.tk_watch.specs.Rows.{rows}

-- `runs n` is the run of the first n steps. The step behind the first k is done, and begins at this address. An interrupt that is
-- taken is a step too, which begins at the address that it interrupts.
abbrev pub begins_at : (runs : ℕ → Run) → (a k : ℕ) → Bool
begins_at runs a k = nat_lt (runs k).state.now.steps (runs (suc k)).state.now.steps && ((runs k).state.now.cpu.pc == a)

-- how many of the first n steps begin there
abbrev pub times_at : (runs : ℕ → Run) → (a n : ℕ) → ℕ
times_at runs a zero = 0
times_at runs a (suc k) = if begins_at runs a k then times_at runs a k + 1 else times_at runs a k

-- an address and how many steps began there, where some did
abbrev pub count_text : (a count : ℕ) → List ℕ
count_text a zero = []
count_text a (suc k) = address_text a ++ codes " " ++ decimal (suc k) ++ codes "\n"

-- those of all addresses, ascending
abbrev pub profile_text : (counts : ℕ → ℕ) → List ℕ
profile_text counts = rows (λ a. count_text a (counts a)) 65536
