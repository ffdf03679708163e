-- How a task ended, as its program did (docs/TASKS.md, "The tasks on a mote").
use Rattle.std.specs.Prelude.{Option, Some, None}
use Rattle.flat_machine.specs.FlatMachine.{End as FlatEnd}
use Rattle.flat_machine.specs.FlatMachine as flat_ends
use Rattle.kernel_entry.specs.Seen.{end_of}
use Rattle.parked_tasks.specs.declared.task.TaskEnd.{TaskEnd}
use Rattle.parked_tasks.specs.declared.task.TaskEnd.TheVariants.{Spent, Stopped, Wild, Read}

-- how a task ended, as its program did
abbrev pub flat_end : TaskEnd → FlatEnd
flat_end Spent = flat_ends.Spent
flat_end (Wild a) = flat_ends.Wild a
flat_end (Stopped stop) = end_of stop
flat_end (Read pc a) = flat_ends.Read pc a

abbrev pub flat_end_of : Option TaskEnd → Option FlatEnd
flat_end_of None = None
flat_end_of (Some end) = Some (flat_end end)
