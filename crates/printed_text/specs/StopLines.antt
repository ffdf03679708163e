-- The stop line of a machine (docs/FORMATS.md, "What is printed").
use Rattle.std.specs.Prelude.{ℕ, List, ◌++◌, codes, decimal}
use Rattle.kernel_entry.specs.Seen.{end_of}
use Rattle.printed_text.specs.Ends.{end_text}
use Rattle.flat_machine.specs.FlatMachine as flat_ends
use Rattle.kernel_entry.specs.declared.kernel.End.{End}
use Rattle.kernel_entry.specs.declared.kernel.End.TheVariants as ends

-- how the machine's run ended: as the original program's, or by an operation on flash
abbrev pub how_text : End → List ℕ
how_text ends.Spent = end_text flat_ends.Spent
how_text (ends.Stopped stop) = end_text (end_of stop)
how_text (ends.Wild t) = end_text (flat_ends.Wild t)
how_text (ends.Flash op) = codes "flash fault " ++ decimal op

-- the stop line of an end of the machine
unfoldable pub end_line : End → (steps checkpoints : ℕ) → List ℕ
end_line end steps checkpoints =
    how_text end ++ codes " steps " ++ decimal steps ++ codes " checkpoints " ++ decimal checkpoints ++ codes "\n"
