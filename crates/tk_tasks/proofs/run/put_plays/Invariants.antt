use Rattle.std.proofs.Common.{◌≡◌, ◌≤◌, ◌%◌, length, false}
use Rattle.printed_text.specs.Gathering.{turn_steps}
use Rattle.tk_tasks.specs.States.{AreSound, turns_of}
use Rattle.tk_tasks.specs.InTurn.{GoOutInTurn}
use Rattle.tk_tasks.specs.Running.{IsUnderWay}
use Rattle.task_turns.proofs.Ending.{still}
use Rattle.tk_tasks.proofs.run.put_plays.Given as goal

-- plays led to where the tasks are now
abbrev pub invariant-plays : goal.invariant-plays
invariant-plays g l = record {
  way : IsUnderWay l.n l.fn.t l.t l.gathered.items (g.K.Sink.taken l.fn.out) (g.K.Sink.taken l.out);
  sound : AreSound l.t;
  whole : l.t.broken ≡ false;
  quantum : l.t.kernel.quantum ≡ l.fn.t.kernel.quantum;
  counted : l.done ≡ length way.plays % turn_steps;
  turns : GoOutInTurn g.K.Sink.taken l.n l.fn.t l.fn.out l.out (length way.plays);
  faults : g.K.Sink.faults l.fn.out ≤ g.K.Sink.faults l.out;
}

abbrev pub decreases-plays : goal.decreases-plays
decreases-plays g l = still (turns_of l.n l.t).players
