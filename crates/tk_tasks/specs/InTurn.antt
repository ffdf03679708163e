-- When lines of tasks go out: at each multiple of 65,536 tries all that was told by then has (docs/TASKS.md, "A run on the mote").
use Rattle.std.specs.Prelude.{◌≡◌, ℕ, ◌*◌, ◌<◌, List, Option}
use Rattle.std.specs.Io.KnownBytes.{Appends}
use Rattle.printed_text.specs.Gathering.{turn_steps}
use Rattle.task_turns.specs.Turns.{tries}
use Rattle.tk_tasks.specs.States.{Tasks, turns_of}
use Rattle.tk_tasks.specs.Plays.{told_text}

-- The sink was one that had taken all that so many tries tell, where each task may do n steps, behind what it had taken before;
-- and what it took later stands behind these.
pub record HadAllTold {K : Type 0} (taken : K → Option (List ℕ)) (n : ℕ) (old : Tasks) (before after : K) (count : ℕ) : Type 0 where
  pub sink : K
  pub put : Appends (taken before) (taken sink) (told_text old.kernel.quantum (tries count (turns_of n old)).told)
  pub later : (rest : List ℕ) × Appends (taken sink) (taken after) rest

-- .. at each turn in so many tries
abbrev pub GoOutInTurn : {K : Type 0} → (K → Option (List ℕ)) → ℕ → Tasks → (before after : K) → ℕ → Type 0
GoOutInTurn taken n old before after count = (turn : ℕ) → turn_steps * turn < count → HadAllTold taken n old before after (turn_steps * turn)

-- .. at each turn in the tries that lead to where the tasks stand now
pub record WentOutInTurn {K : Type 0} (taken : K → Option (List ℕ)) (n : ℕ) (old new : Tasks) (before after : K) : Type 0 where
  pub count : ℕ
  pub stand : (tries count (turns_of n old)).turns ≡ turns_of n new
  pub turns : GoOutInTurn taken n old before after count
