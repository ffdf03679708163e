-- The end that a machine keeps, beside that of the original program.
use Rattle.std.specs.Prelude.{◌≡◌, Option, Some, None}
use Rattle.flat_machine.specs.FlatMachine.{End, Spent, Wild}
use Rattle.kernel_entry.specs.Seen.{end_of as end_of_stop}
use Rattle.kernel_entry.specs.declared.kernel.End.{End as MachineEnd}
use Rattle.kernel_entry.specs.declared.kernel.End.TheVariants as ends

-- the machine's end as one of the original program, which goes on where the machine's flash refuses an operation
abbrev pub end_of : MachineEnd → End
end_of ends.Spent = Spent
end_of (ends.Stopped stop) = end_of_stop stop
end_of (ends.Wild t) = Wild t
end_of (ends.Flash op) = Spent

-- the machine keeps the original program's end, and none where all steps were done
abbrev pub IsKeptEnd : End → Option MachineEnd → Type 0
IsKeptEnd Spent kept = kept ≡ None
IsKeptEnd end kept = (own : MachineEnd) × (kept ≡ Some own) × (end_of own ≡ end)
