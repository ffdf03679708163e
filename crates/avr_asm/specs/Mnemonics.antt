-- The mnemonics, and what each of them stands for. The table is the code's own constant, so a wrong row of it is wrong
-- in both: `proofs/WorkedRows.antt` holds each row against words from outside.
use Rattle.std.specs.Prelude.{ℕ, List, map, Option}
use Rattle.avr_asm.specs.Cuts.{found_in}
use Rattle.avr_asm.specs.declared.mnemonic.Operation.{Operation}
use Rattle.avr_asm.specs.declared.table.TheConstants.{MNEMONICS}

-- what the mnemonic with this name stands for
unfoldable pub operation_of : List ℕ → Option Operation
operation_of name = found_in (map (λ row. (row.0.now, row.1)) MNEMONICS) name
