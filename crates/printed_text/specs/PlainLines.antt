-- The lines that stand as they are (docs/FORMATS.md).
use Rattle.std.specs.Prelude.{ℕ, List, codes}

-- what `help` and refused words are answered with
abbrev pub usage_line : List ℕ
usage_line = codes "usage: tkernel run [--steps N] [--quantum Q] [--swap S]\n"

abbrev pub read_fault_line : List ℕ
read_fault_line = codes "read fault\n"

abbrev pub too_long_line : List ℕ
too_long_line = codes "input too long\n"

abbrev pub no_memory_line : List ℕ
no_memory_line = codes "no memory\n"
