-- The stop line of an end that is the original program's too.
use Rattle.std.proofs.Common.{◌≡◌, ℕ, ◌++◌, ap}
use Rattle.std.specs.Prelude.{codes, decimal}
use Rattle.flat_machine.specs.FlatMachine.{End as FlatEnd}
use Rattle.printed_text.specs.Ends.{end_text, stop_text}
use Rattle.kernel_entry.specs.declared.kernel.End.{End}
use Rattle.printed_text.specs.StopLines.{how_text, end_line}

pub line_of : (end : End) (of : FlatEnd) (steps checkpoints : ℕ) → how_text end ≡ end_text of → end_line end steps checkpoints ≡ stop_text of steps checkpoints
unfolding end_line stop_text
line_of end of steps checkpoints how = ap (λ h. h ++ codes " steps " ++ decimal steps ++ codes " checkpoints " ++ decimal checkpoints ++ codes "\n") how
