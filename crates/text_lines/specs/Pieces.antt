-- The pieces of printed lines (docs/FORMATS.md, "What is printed").
use Rattle.std.specs.Prelude.{ℕ, ◌+◌, ◌/◌, ◌%◌, List, [], ◌∷◌, ◌++◌, codes}
use Rattle.hex.specs.Hex.{encode_upper}

-- the two upper-case digits of a byte
abbrev pub two_digits : ℕ → List ℕ
two_digits v = encode_upper (v ∷ [])

-- 0x and two digits
abbrev pub byte_text : ℕ → List ℕ
byte_text v = codes "0x" ++ two_digits v

-- 0x and four digits
abbrev pub address_text : ℕ → List ℕ
address_text a = codes "0x" ++ two_digits (a / 256) ++ two_digits (a % 256)

-- the front of a line that one of several tasks prints, as in `task 1 PORTA 0x0F`: a task's number is one digit
abbrev pub task_text : ℕ → List ℕ
task_text task = codes "task " ++ (48 + task) ∷ codes " "
