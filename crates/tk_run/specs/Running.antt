-- What `advance` says: the moves that it makes, and what they are of the original program
-- (docs/MACHINE.md, "A run of n steps" and "The original program").
use Rattle.std.specs.Prelude.{◌≡◌, ◌≢◌, ℕ, zero, suc, ◌+◌, ◌<◌, ◌≤◌, ◌^◌, true, false, List, [], ◌++◌, is_err, Option, Some, None, Result, Ok, Err}
use Rattle.mote_devices.specs.declared.line.Line.{Line}
use Rattle.flat_machine.specs.FlatMachine.{Moment, End as FlatEnd, Run, run}
use Rattle.flat_machine.specs.FlatMachine as flat_ends
use Rattle.byte_streams.specs.declared.failure.Failed.{Failed}
use Rattle.byte_streams.specs.Streams.{Puts}
use Rattle.kernel_entry.specs.declared.kernel.End.{End}
use Rattle.kernel_entry.specs.declared.kernel.End.TheVariants as ends
use Rattle.step_laws.specs.Moves.{Move}
use Rattle.kernel_entry.specs.Seen.{end_of, program as program_of}
use Rattle.program_steps.specs.Machines.{Machine, flat_of}
use Rattle.program_steps.specs.Ready.{IsGoing, IsQuiet, IsInOrder, IsEnded, IsKept, HasBounds}
use Rattle.printed_text.specs.DeviceLines.{lines_text}
use Rattle.program_steps.specs.Stepping.{Goes, Stays, IsFault, IsArrival, AreOwn, AreOfStep, ends_in_arrive}

-- Moves lead from x to y, and write these lines: they begin with the arrival that x owes, y's numbers are
-- x's with those of the moves added, and y's end is that of the last move. A machine that goes on doesn't
-- stop behind an arrival.
pub record Leads (x : Machine) (lines : List Line) (y : Machine) : Type 0 where
  pub moves : List Move
  pub goes : Goes x y moves lines
  pub last : y.end ≡ None → ends_in_arrive moves ≡ false

-- the original program's run of at most n steps from where the machine stands
abbrev pub original_from : Machine → ℕ → Run
original_from m n = run (program_of m.kernel) (flat_of m) n

-- an end of the machine as the original program's; where flash refuses an operation the original program goes on
abbrev pub flat_end : End → FlatEnd
flat_end ends.Spent = flat_ends.Spent
flat_end (ends.Stopped stop) = end_of stop
flat_end (ends.Wild t) = flat_ends.Wild t
flat_end (ends.Flash op) = flat_ends.Spent

abbrev pub run_of : FlatEnd → List Line → Moment → Run
run_of end lines state = record { end = end; lines = lines; state = state }

-- all n steps were done, and the program goes on
pub record IsSpent (old new : Machine) (n done : ℕ) (lines : List Line) : Type 0 where
  pub all : done ≡ n
  pub ran : original_from old n ≡ run_of flat_ends.Spent lines (flat_of new)
  pub ready : IsGoing new
  pub quiet : IsQuiet new

-- the original program ended within n steps, and so did the machine
pub record IsOver (old new : Machine) (n : ℕ) (lines : List Line) (end : End) : Type 0 where
  pub ran : original_from old n ≡ run_of (flat_end end) lines (flat_of new)
  pub kept : new.end ≡ Some end
  pub ended : IsEnded new

-- with steps left, an operation on flash that an arrival tried was refused, since it is listed
pub record IsFailed (old new : Machine) (n done : ℕ) (lines : List Line) (op : ℕ) : Type 0 where
  pub fewer : done < n
  pub ran : original_from old done ≡ run_of flat_ends.Spent lines (flat_of new)
  pub kept : new.end ≡ Some (ends.Flash op)
  pub ended : IsEnded new
  pub fault : IsFault new op

-- Gathered lines could not be put. An end that is kept all the same, but by flash, is the original program's.
pub record IsBroken (old new : Machine) (n : ℕ) : Type 0 where
  pub broken : new.broken ≡ true
  pub over : (end : End) → new.end ≡ Some end → ((op : ℕ) → end ≢ ends.Flash op) → (original_from old n).end ≡ flat_end end
  pub order : IsInOrder new
  pub bounded : HasBounds new

abbrev pub Answers : (old new : Machine) (n done : ℕ) (lines : List Line) → Result End Failed → Type 0
Answers old new n done lines (Ok ends.Spent) = IsSpent old new n done lines
Answers old new n done lines (Ok (ends.Flash op)) = IsFailed old new n done lines op
Answers old new n done lines (Ok (ends.Wild t)) = IsOver old new n lines (ends.Wild t)
Answers old new n done lines (Ok (ends.Stopped stop)) = IsOver old new n lines (ends.Stopped stop)
Answers old new n done lines (Err e) = IsBroken old new n

-- between two steps, where the original program stands after n of them
pub record StandsAfter (at : ℕ → Moment) (n : ℕ) (m : Machine) : Type 0 where
  pub ready : IsGoing m
  pub quiet : IsQuiet m
  pub stands : flat_of m ≡ at n

-- The moves lead from the first machine through n steps, one behind the other. Before each of them the machine stands where
-- the original program stands then; an arrival that it begins with is at that address.
abbrev pub StepsTo : (at : ℕ → Moment) → (first : Machine) → (n : ℕ) → List Move → Machine → Type 0
StepsTo at first zero moves z = (first ≡ z) × (moves ≡ [])
StepsTo at first (suc n) moves z =
    (y : Machine) × (before arrival own : List Move) × (lines : List Line) × (moves ≡ before ++ (arrival ++ own)) × StepsTo at first n before y × StandsAfter at n y
    × IsArrival y.at arrival × AreOwn own × Goes y z (arrival ++ own) lines

-- So the moves of a run are those of its n steps, and behind the last at most those of one that isn't made.
pub record IsByStep (at : ℕ → Moment) (first z : Machine) (n : ℕ) (moves : List Move) : Type 0 where
  pub last : Machine
  pub before : List Move
  pub behind : List Move
  pub lines : List Line
  pub all : moves ≡ before ++ behind
  pub steps : StepsTo at first n before last
  pub stands : StandsAfter at n last
  pub of_step : AreOfStep last.at behind
  pub goes : Goes last z behind lines

-- a run's states, after each number of steps
abbrev pub states_of : (ℕ → Run) → ℕ → Moment
states_of run k = (run k).state

-- What a run of up to n steps leaves of a machine without an end: with the number of steps that were done
-- as its bound, the original program writes the same lines, and comes to the state that the new machine
-- stands for.
-- Its moves lead there step by step.
pub record HasRun (old new : Machine) (n : ℕ) (moves : List Move) (lines : List Line) (result : Result End Failed) : Type 0 where
  pub done : ℕ
  pub within : done ≤ n
  pub steps : new.steps ≡ old.steps + done
  pub written : (original_from old done).lines ≡ lines
  pub left : (original_from old done).state ≡ flat_of new
  pub by_step : IsByStep (states_of (original_from old)) old new done moves
  pub answers : Answers old new n done lines result

-- What `advance` leaves. The text of the lines was put, or, where the sink failed, a shorter part of it from
-- its front. An end that is kept is answered again, and nothing changes.
pub record HasAdvanced (old new : Machine) (n : ℕ) (before after : Option (List ℕ)) (result : Result End Failed) : Type 0 where
  pub lines : List Line
  pub leads : Leads old lines new
  pub put : Puts before after result (lines_text lines)
  pub stays : Stays old new
  pub broken : new.broken ≡ is_err result
  pub ran : old.end ≡ None → HasRun old new n leads.moves lines result
  pub keeps : old.steps + n ≤ 10 ^ 12 → IsKept old → IsKept new
  pub kept : (end : End) → old.end ≡ Some end → (result ≡ Ok end) × (new ≡ old) × (lines ≡ [])
