-- Two runs of one program from one start leave the same mote and the same counts, and end alike.
use Rattle.std.proofs.Common.{◌≡◌, ◌≢◌, ◌≤◌, ℕ, ◌+◌, List, [], ◌++◌, length, Option, Some, None, refl, sym, ap, ◌∙◌, subst, arith, inl, inr, ◌⊎◌}
use Rattle.flash_words.specs.Layouts.{layout_of, IsRight}
use Rattle.flash_words.proofs.LoadedLaws.{loaded_image}
use Rattle.kernel_entry.specs.Parts.{image_held}
use Rattle.kernel_entry.specs.declared.kernel.End.{End as MachineEnd}
use Rattle.kernel_entry.specs.declared.kernel.End.TheVariants as ends
use Rattle.flat_machine.specs.FlatMachine.{Moment, Program, End as FlatEnd}
use Rattle.flat_machine.specs.FlatMachine as flat_ends
use Rattle.mote_devices.specs.declared.line.Line.{Line}
use Rattle.step_laws.specs.Moves.{Move}
use Rattle.step_laws.specs.Numbers.{Numbers, numbered}
use Rattle.step_laws.specs.States.{State}
use Rattle.step_laws.specs.Walks.{Walk}
use Rattle.step_laws.proofs.Joining.{numbered-append}
use Rattle.step_laws.proofs.MoveLaws.{ended_stays}
use Rattle.program_steps.specs.Machines.{Machine, state_of, numbers_of}
use Rattle.program_steps.specs.Stepping.{Goes}
use Rattle.tk_run.specs.Running.{StepsTo, states_of}
use Rattle.cli_words.specs.declared.request.Request.{Request}
use Rattle.cli_words.specs.declared.status.Status.{Status}
use Rattle.cli_words.specs.Stream.{Stream}
use Rattle.tkernel_cli.specs.Runs.{KeepsEnd, RunsToTheEnd, RunsIntoAFault, RunsUntilCut, Follows, first_start, original_of, whole_run}
use Rattle.theorem_reader.proofs.Acting.{Holds}
use Rattle.theorem_reader.proofs.Answering.{layout_same, no_fault}
use Rattle.walk_laws.proofs.OneWalk.{Behind, Ahead, compare}
use Rattle.theorem_reader.proofs.OneWalk.{none_back, AreSame, longer_none, same_steps, is_still}
use Rattle.theorem_reader.proofs.Stopping.{IsStop}

-- the same mote, what is owed, and the end; and the same counts
pub record IsSame (one other : Machine) : Type 0 where
  pub state : state_of one ≡ state_of other
  pub numbers : numbers_of one ≡ numbers_of other

same_by : (start m n : Machine) (ms ns : List Move) (lines lines' : List Line) → Goes start m ms lines → Goes start n ns lines' → AreSame ms ns m n → IsSame m n
same_by start m n ms ns lines lines' one other same = record { state = same.1; numbers = one.numbers ∙ ap (λ l. numbered l (numbers_of start)) same.0 ∙ sym other.numbers }

-- a start of a run
pub record IsStart (image : List ℕ) (quantum : ℕ) (start : Machine) : Type 0 where
  pub holds : Holds image quantum (state_of start)
  pub none : start.steps ≡ 0

pub right_of : (request : Request) (start : Machine) (n : ℕ) (m : Machine) → Follows request start n m → IsRight (layout_of (length request.image))
right_of request start n m follows =
    let held : image_held m.kernel ≡ request.image = ap (λ (p : Program). p.image) follows.at.program in
    subst IsRight (layout_same request.image m follows.sound held) follows.sound.order.right

-- both have ended
pub both_ended : (image : List ℕ) (quantum : ℕ) (start m n : Machine) (ms ns : List Move) → IsRight (layout_of (length image)) → Holds image quantum (state_of start)
    → Walk (state_of start) ms (state_of m) → Walk (state_of start) ns (state_of n) → m.end ≢ None → n.end ≢ None → AreSame ms ns m n
both_ended image quantum start m n ms ns right holds one other over over' = elim (compare (state_of start) (state_of m) (state_of n) ms ns (subst IsRight (sym holds.laid) right) one other) [
  | Behind rest is walk ↦ (let none = ended_stays (state_of m) (state_of n) rest over walk in (longer_none ms ns rest is none.0, none.1))
  | Ahead rest is walk ↦ (let none = ended_stays (state_of n) (state_of m) rest over' walk in (sym (longer_none ns ms rest is none.0), sym none.1))
]

-- both go on, and made as many steps
both_going : (request : Request) (start m n : Machine) (k : ℕ) → IsStart request.image request.options.quantum start → Follows request start k m → Follows request start k n → m.end ≡ None
    → n.end ≡ None → IsSame m n
both_going request start m n k begins one other going going' =
    let done : m.steps ≡ start.steps + m.steps = omega (arith, begins.none) in
    let done' : n.steps ≡ start.steps + n.steps = omega (arith, begins.none) in
    let still = is_still (states_of (original_of request)) start m m.steps one.at.path.moves one.at.by_step going (one.at.path.last going) done in
    let still' = is_still (states_of (original_of request)) start n n.steps other.at.path.moves other.at.by_step going' (other.at.path.last going') done' in
    let as_many : n.steps ≡ m.steps = ap (λ (s : Moment). s.now.steps) (other.at.state ∙ sym one.at.state) in
    let same =
    same_steps request.image request.options.quantum (states_of (original_of request)) (states_of (original_of request)) start m.steps one.at.path.moves other.at.path.moves still.last still'.last
    begins.holds still.ready still'.ready still.steps (subst (λ j. StepsTo (states_of (original_of request)) start j other.at.path.moves still'.last) as_many still'.steps) in
    same_by start m n one.at.path.moves other.at.path.moves _ _ one.at.path.goes other.at.path.goes (same.0, sym still.state ∙ same.1 ∙ still'.state)

-- whether an end is kept
abbrev Alike : Machine → Machine → Type 0
Alike m n = ((m.end ≡ None) × (n.end ≡ None)) ⊎ ((m.end ≢ None) × (n.end ≢ None))

pub ended : (m : Machine) (end : MachineEnd) → m.end ≡ Some end → m.end ≢ None
ended m end is none = let e : Some end ≡ None = sym is ∙ none in absurd (cc)

alike : (end : FlatEnd) (m n : Machine) → KeepsEnd end m → KeepsEnd end n → Alike m n
alike flat_ends.Spent m n one other = inl (one, other)
alike end m n one other = inr (ended m one.0 one.1, ended n other.0 other.1)

over_same : (request : Request) (start m n : Machine) (k j : ℕ) → IsStart request.image request.options.quantum start → Follows request start k m → Follows request start j n → m.end ≢ None
    → n.end ≢ None → IsSame m n
over_same request start m n k j begins one other over over' =
    same_by start m n one.at.path.moves other.at.path.moves _ _ one.at.path.goes other.at.path.goes
    (both_ended request.image request.options.quantum start m n one.at.path.moves other.at.path.moves (right_of request start k m one) begins.holds one.at.path.goes.walk other.at.path.goes.walk over
    over')

-- two runs to the end
pub to_the_end : {front front' : List ℕ} {before now before' now' : Stream} {told told' : Status} (request : Request) (start : Machine) (m n : Machine)
    → IsStart request.image request.options.quantum start → RunsToTheEnd request start front before now told m → RunsToTheEnd request start front' before' now' told' n → IsSame m n
to_the_end request start m n begins one other = elim (alike (whole_run request).end m n one.end other.end) [
  | inl none ↦ both_going request start m n request.options.steps begins one.follows other.follows none.0 none.1
  | inr over ↦ over_same request start m n request.options.steps request.options.steps begins one.follows other.follows over.0 over.1
]

-- two runs into a fault
pub into_a_fault : {before now before' now' : Stream} {told told' : Status} (request : Request) (m n : Machine) → IsStart request.image request.options.quantum (first_start request)
    → RunsIntoAFault request before now told m → RunsIntoAFault request before' now' told' n → IsSame m n
into_a_fault request m n begins one other =
    over_same request (first_start request) m n m.steps n.steps begins one.follows other.follows (ended m (ends.Flash one.op) one.end) (ended n (ends.Flash other.op) other.end)

-- and one of each there is not
flash_stops : (op : ℕ) → IsStop (Some (ends.Flash op)) → ⊥
flash_stops op over = let e : Some (ends.Flash op) ≡ Some (ends.Stopped over.0) = over.1 in absurd (cc)

spent_by : (end : FlatEnd) (m : Machine) → KeepsEnd end m → m.end ≡ None → end ≡ flat_ends.Spent
spent_by flat_ends.Spent m keeps none = refl
spent_by end m keeps none = absurd (ended m keeps.0 keeps.1 none)

either_end : (end : Option MachineEnd) → (end ≡ None) ⊎ (end ≢ None)
either_end None = inl refl
either_end (Some end) = inr (λ e. cc)

-- what more moves count
steps_behind : (start m n : Machine) (ms ns rest : List Move) (lines lines' : List Line) → Goes start m ms lines → Goes start n ns lines' → ns ≡ ms ++ rest
    → numbers_of n ≡ numbered rest (numbers_of m)
steps_behind start m n ms ns rest lines lines' one other is =
    other.numbers ∙ ap (λ l. numbered l (numbers_of start)) is ∙ numbered-append ms rest (numbers_of start) ∙ ap (numbered rest) (sym one.numbers)

pub never_both : {front : List ℕ} {before now before' now' : Stream} {told told' : Status} (request : Request) (m n : Machine) → IsStart request.image request.options.quantum (first_start request)
    → RunsToTheEnd request (first_start request) front before now told m → RunsIntoAFault request before' now' told' n → ⊥
never_both request m n begins one other =
    let start = first_start request in
    let at = one.follows.at in
    let at' = other.follows.at in
    let fails : n.end ≢ None = ended n (ends.Flash other.op) other.end in
    elim (either_end m.end) [
      | inr over ↦ (
          let same = over_same request start m n request.options.steps n.steps begins one.follows other.follows over fails in
          no_fault (whole_run request).end m other.op one.end (ap (λ (s : State). s.end) same.state ∙ other.end))
      | inl going ↦
          elim (compare (state_of start) (state_of m) (state_of n) at.path.moves at'.path.moves (subst IsRight (sym begins.holds.laid) (right_of request start request.options.steps m one.follows))
          at.path.goes.walk at'.path.goes.walk) [
            | Ahead rest is walk ↦ (
                fails (ap (λ (s : State). s.end) (ended_stays (state_of n) (state_of m) rest fails walk).1 ∙ going))
            | Behind rest is walk ↦ (
                let back = none_back (state_of m) (state_of n) rest (numbers_of m) walk (λ over. flash_stops other.op (subst IsStop other.end over)) in
                let counted = ap (λ (k : Numbers). k.steps) (steps_behind start m n at.path.moves at'.path.moves rest _ _ at.path.goes at'.path.goes is) in
                let all : m.steps ≡ request.options.steps = one.all (spent_by (whole_run request).end m one.end going) in
                omega (arith, back, counted, all, other.fewer))
          ]
    ]

-- one that the sink cut off made no more steps than one into a fault
pub cut_before : {before now before' now' : Stream} {told told' : Status} (request : Request) (m n : Machine) → IsStart request.image request.options.quantum (first_start request)
    → RunsIntoAFault request before now told m → RunsUntilCut request (first_start request) [] before' now' told' n → n.steps ≤ m.steps
cut_before request m n begins one other =
    let start = first_start request in
    let at = one.follows.at in
    let at' = other.follows.at in
    let right = subst IsRight (sym begins.holds.laid) (right_of request start m.steps m one.follows) in
    elim (compare (state_of start) (state_of m) (state_of n) at.path.moves at'.path.moves right at.path.goes.walk at'.path.goes.walk) [
      | Behind rest is walk ↦
          let none = ended_stays (state_of m) (state_of n) rest (ended m (ends.Flash one.op) one.end) walk in
          let same = same_by start m n at.path.moves at'.path.moves _ _ at.path.goes at'.path.goes (longer_none at.path.moves at'.path.moves rest is none.0, none.1) in
          omega (arith, ap (λ (k : Numbers). k.steps) same.numbers)
      | Ahead rest is walk ↦
          let back = none_back (state_of n) (state_of m) rest (numbers_of n) walk (λ over. flash_stops one.op (subst IsStop one.end over)) in
          omega (arith, back, ap (λ (k : Numbers). k.steps) (steps_behind start n m at'.path.moves at.path.moves rest _ _ at'.path.goes at.path.goes is))
    ]

pub begins_at_boot : (request : Request) → IsStart request.image request.options.quantum (first_start request)
begins_at_boot request = record { holds = record { laid = refl; held = loaded_image request.image; counts = refl }; none = refl }
