-- Serves private functions: the run of the tasks, with lines that are gathered before they go out.
use Rattle.std.specs.Prelude.{ℕ, List, [], Option, Some, None, Result, Ok, Err}
use Rattle.byte_streams.specs.declared.failure.Failed.{Failed}
use Rattle.byte_streams.specs.Streams.{CutShort, IsSent}
use Rattle.kernel_entry.specs.declared.kernel.End.{End}
use Rattle.kernel_entry.specs.declared.kernel.End.TheVariants as ends
use Rattle.kernel_entry.specs.declared.kernel.Stop.TheVariants as stops
use Rattle.parked_tasks.specs.declared.task.TaskEnd.{TaskEnd}
use Rattle.parked_tasks.specs.declared.task.TaskEnd.TheVariants.{Spent, Stopped, Wild, Read}
use Rattle.task_turns.specs.Turns.{HaveEnded}
use Rattle.tk_tasks.specs.States.{Tasks, turns_of}
use Rattle.tk_tasks.specs.Plays.{Play, TaskPath, told_of, told_text}

-- a task's end, as its stop line shows it
abbrev pub end_shown : TaskEnd → End
end_shown Spent = ends.Spent
end_shown (Stopped stop) = ends.Stopped stop
end_shown (Wild a) = ends.Wild a
end_shown (Read pc a) = ends.Stopped (stops.Read pc a)

abbrev pub end_shown_of : Option TaskEnd → Option End
end_shown_of None = None
end_shown_of (Some end) = Some (end_shown end)

-- plays lead to the tasks; some of what they told, from the front, went out, and the rest is gathered
pub record IsUnderWay (n : ℕ) (old now : Tasks) (gathered : List ℕ) (before after : Option (List ℕ)) : Type 0 where
  pub plays : List Play
  pub path : TaskPath n old plays now
  pub sent : IsSent (told_text old.kernel.quantum (told_of plays)) gathered before after

-- .. or the sink failed, and a shorter part went out
pub record IsCut (n : ℕ) (old now : Tasks) (before after : Option (List ℕ)) : Type 0 where
  pub plays : List Play
  pub path : TaskPath n old plays now
  pub cut : CutShort before after (told_text old.kernel.quantum (told_of plays))

-- the plays until every task has ended, and all that they told is put
abbrev pub HavePut : (n : ℕ) (old now : Tasks) (before after : Option (List ℕ)) → Result (Unit {0}) Failed → Type 0
HavePut n old now before after (Ok done) = IsUnderWay n old now [] before after × HaveEnded (turns_of n now)
HavePut n old now before after (Err e) = IsCut n old now before after
