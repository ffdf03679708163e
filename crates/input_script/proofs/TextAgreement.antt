-- .. and of whole texts.
use Rattle.std.proofs.Common.{◌≡◌, ℕ, ◌+◌, ◌<◌, ◌≤◌, Bool, true, false, not, cond, ltb, List, [], ◌∷◌, ◌++◌, length, get_or, arith, ap, ◌∙◌, sym, refl, subst}
use Rattle.std.specs.Prelude.{All, Option, Some, None}
use Rattle.std.proofs.lemmas.Bool.Decides.{nat_tests}
use Rattle.std.proofs.lemmas.List.{append_assoc, append-nil, length-append, get_or_append_left, get_or_at}
use Rattle.std.proofs.lemmas.List.Folds.{list_any_none}
use Rattle.text_lines.specs.Lines.{lines_of}
use Rattle.text_lines.specs.Faults.{after_lines, first_fault}
use Rattle.text_lines.proofs.FaultLaws.{fault_behind, fault_here, first_at, found_is, none_parts}
use Rattle.input_script.specs.declared.input.Event.{Event}
use Rattle.input_script.specs.declared.line.Statement.{Statement}
use Rattle.input_script.specs.declared.line.Statement.TheVariants.{Nothing, At, FailFlash}
use Rattle.input_script.specs.declared.fault.ScriptFault.{ScriptFault}
use Rattle.input_script.specs.declared.fault.ScriptFault.TheVariants.{Form, Order, Range, TooMany}
use Rattle.input_script.specs.Grammar.{statement_of}
use Rattle.input_script.specs.GrammarLaw.{Accepts, IsFaulty, IsStatement, IsWrong, Spells}
use Rattle.input_script.specs.Script.{Schedule, IsSchedule, IsScript, after, fault_at, fault_of, is_in_range, is_late, most_statements, nothing, script_fault, size, with_said}
use Rattle.input_script.proofs.LineAgreement.{statement_from, statement_to}
use Rattle.input_script.proofs.Order.{IsOrdered, is_below_some}
use Rattle.input_script.proofs.Schedules.{IsNext, event_number, fail_number, lines_schedule, nothing_schedule}

-- What lines without a fault say. -------------------------------------------------------------------------------

said_by : (before : Schedule) (line : List ℕ) (found : Option Statement) → statement_of line ≡ found → fault_of before found ≡ None → (statement : Statement) × (statement_of line ≡ Some statement)
said_by before line None is none = absurd (cc)
said_by before line (Some statement) is none = (statement, is)

spelled : (lines : List (List ℕ)) (number : ℕ) (before : Schedule) → first_fault fault_at after number before lines ≡ None → Spells before lines (after_lines after before lines)
spelled [] number before none = refl
spelled (line ∷ lines) number before none =
    let parts = none_parts fault_at after number before line lines none in
    let said = said_by before line (statement_of line) refl parts.0 in
    let last = after_lines after (after before line) lines in (
      said.0,
      statement_from line said.0 said.1,
      subst (λ b. Spells b lines last) (ap (with_said before) said.1) (spelled lines (number + 1) (after before line) parts.1),
    )

accepted_from : (lines : List (List ℕ)) → first_fault fault_at after 1 nothing lines ≡ None → Accepts lines (after_lines after nothing lines)
accepted_from lines none = (spelled lines 1 nothing none, lines_schedule lines 1 nothing nothing_schedule none)

-- Lines whose schedule is in order and in range have no fault. --------------------------------------------------

-- what is scheduled before lines stands in front of what they schedule
record IsFront (before schedule : Schedule) : Type 0 where
  events : List Event
  failing : List ℕ
  events_are : schedule.events ≡ before.events ++ events
  failing_are : schedule.failing ≡ before.failing ++ failing

front_said : (before schedule : Schedule) (statement : Statement) → IsFront (with_said before (Some statement)) schedule → IsFront before schedule
front_said before schedule Nothing front = front
front_said before schedule (At n input) front =
    let event : Event = record { at = n; input = input } in
    record { events = event ∷ front.events; failing = front.failing; events_are = front.events_are ∙ append_assoc before.events (event ∷ []) front.events; failing_are = front.failing_are }
front_said before schedule (FailFlash n) front =
    record { events = front.events; failing = n ∷ front.failing; events_are = front.events_are; failing_are = front.failing_are ∙ append_assoc before.failing (n ∷ []) front.failing }

front_of : (lines : List (List ℕ)) (before schedule : Schedule) → Spells before lines schedule → IsFront before schedule
front_of [] before schedule same =
    record {
      events = [];
      failing = [];
      events_are = ap (λ (s : Schedule). s.events) same ∙ sym (append-nil before.events);
      failing_are = ap (λ (s : Schedule). s.failing) same
          ∙ sym (append-nil before.failing);
    }
front_of (line ∷ lines) before schedule (statement, is, more) = front_said before schedule statement (front_of lines (with_said before (Some statement)) schedule more)

module _ (A : Type 0) (key : A → ℕ) where
  -- an item in order is below none before it
  not_late : (xs ys zs : List A) (x : A) → IsOrdered key zs → zs ≡ (xs ++ x ∷ []) ++ ys → is_below_some key xs (key x) ≡ false
  not_late xs ys zs x ordered is =
      let whole : zs ≡ xs ++ x ∷ ys = is ∙ append_assoc xs (x ∷ []) ys in
      let all : All (λ y. ltb (key x) (key y) ≡ false) xs = λ k d below.
      let order = subst (IsOrdered key) whole ordered k (length xs) d below (omega (arith, length-append xs (x ∷ ys))) in
      let there : key (get_or (xs ++ x ∷ ys) k d) ≡ key (get_or xs k d) = ap key (get_or_append_left xs (x ∷ ys) d k below) in
      let here : key (get_or (xs ++ x ∷ ys) (length xs) d) ≡ key x = ap key (get_or_at xs x ys d (length xs) refl) in
      let fine : key (get_or xs k d) ≤ key x = omega (arith, order, there, here) in
      grind (arith, nat_tests) in
      list_any_none (λ y. ltb (key x) (key y)) xs all

-- and what holds of each item of a list holds of it
at_item : (A : Type 0) (P : A → Type 0) (xs ys zs : List A) (x : A) → All P zs → zs ≡ (xs ++ x ∷ []) ++ ys → P x
at_item A P xs ys zs x all is =
    let whole : zs ≡ xs ++ x ∷ ys = is ∙ append_assoc xs (x ∷ []) ys in
    subst P (get_or_at xs x ys x (length xs) refl) (subst (All P) whole all (length xs) x (omega (arith, length-append xs (x ∷ ys))))

size_front : (before schedule : Schedule) → IsFront before schedule → size before ≤ size schedule
size_front before schedule front =
    omega (arith, ap length front.events_are, length-append before.events front.events, ap length front.failing_are, length-append before.failing front.failing)

next_said : (before schedule : Schedule) (statement : Statement) → IsFront (with_said before (Some statement)) schedule → IsSchedule schedule → IsNext before statement
next_said before schedule Nothing front whole = record { in_order = refl; in_range = refl; room = omega (arith, size_front before schedule front, whole.few) }
next_said before schedule (At n input) front whole =
    let event : Event = record { at = n; input = input } in
    record {
      in_order = not_late Event event_number before.events front.events schedule.events event whole.ordered front.events_are;
      in_range = at_item Event (λ e. is_in_range (At e.at e.input) ≡ true) before.events front.events schedule.events event whole.in_range front.events_are;
      room = omega (arith, size_front (with_said before (Some (At n input))) schedule front, whole.few);
    }
next_said before schedule (FailFlash n) front whole = record {
  in_order = not_late ℕ fail_number before.failing front.failing schedule.failing n whole.failing_ordered front.failing_are;
  in_range = at_item ℕ (λ m. is_in_range (FailFlash m) ≡ true) before.failing front.failing schedule.failing n whole.failing_in_range front.failing_are;
  room = omega (arith, size_front (with_said before (Some (FailFlash n))) schedule front, whole.few);
}

no_fault : (before : Schedule) (statement : Statement) → IsNext before statement → fault_of before (Some statement) ≡ None
no_fault before statement next =
    let room : ltb most_statements (size (with_said before (Some statement))) ≡ false = (let few = next.room in grind (arith, nat_tests)) in
    rw (next.in_order, next.in_range, room) refl

sound_lines : (lines : List (List ℕ)) (number : ℕ) (before schedule : Schedule) → Spells before lines schedule → IsSchedule schedule
    → (first_fault fault_at after number before lines ≡ None) × (schedule ≡ after_lines after before lines)
sound_lines [] number before schedule same whole = (refl, same)
sound_lines (line ∷ lines) number before schedule (statement, is, more) whole =
    let said = statement_to line statement is in
    let next = with_said before (Some statement) in
    let none : fault_at before line ≡ None = ap (fault_of before) said ∙ no_fault before statement (next_said before schedule statement (front_of lines next schedule more) whole) in
    let step : after before line ≡ next = ap (with_said before) said in
    let later = sound_lines lines (number + 1) next schedule more whole in (
      fault_behind fault_at after number before line (line ∷ lines) lines refl none ∙ ap (λ b. first_fault fault_at after (number + 1) b lines) step ∙ later.0,
      later.1 ∙ ap (λ b. after_lines after b lines) (sym step),
    )

-- Texts. --------------------------------------------------------------------------------------------------------

pub script_to : (text : List ℕ) (schedule : Schedule) → Accepts (lines_of text) schedule → IsScript text schedule
script_to text schedule (spells, whole) =
    let both = sound_lines (lines_of text) 1 nothing schedule spells whole in
    record { sound = both.0; schedule_is = both.1 }

pub script_from : (text : List ℕ) (schedule : Schedule) → IsScript text schedule → Accepts (lines_of text) schedule
script_from text schedule script = subst (Accepts (lines_of text)) (sym script.schedule_is) (accepted_from (lines_of text) script.sound)

-- Faults. -------------------------------------------------------------------------------------------------------

wrong_by : (before : Schedule) (line : List ℕ) (statement : Statement) (fault : ScriptFault) (late fine many : Bool) → IsStatement line statement → is_late before statement ≡ late
    → is_in_range statement ≡ fine
    → ltb most_statements (size (with_said before (Some statement))) ≡ many → cond late (Some Order) (cond (not fine) (Some Range) (cond many (Some TooMany) None)) ≡ Some fault
    → IsWrong fault before line
wrong_by before line statement fault true fine many is a b c found =
    found_is (λ f. IsWrong f before line) Order fault found (statement, is, a)
wrong_by before line statement fault false false many is a b c found =
    found_is (λ f. IsWrong f before line) Range fault found (statement, is, a, b)
wrong_by before line statement fault false true true is a b c found =
    let more : most_statements < size (with_said before (Some statement)) = grind (arith, nat_tests) in
    found_is (λ f. IsWrong f before line) TooMany fault found (statement, is, a, b, more)
wrong_by before line statement fault false true false is a b c found = absurd (cc)

wrong_said : (before : Schedule) (line : List ℕ) (fault : ScriptFault) (found : Option Statement) → statement_of line ≡ found → fault_of before found ≡ Some fault → IsWrong fault before line
wrong_said before line fault None is found =
    found_is (λ f. IsWrong f before line) Form fault found (λ statement said. let both : None ≡ Some statement = sym is ∙ statement_to line statement said in absurd (cc))
wrong_said before line fault (Some statement) is found = wrong_by before line statement fault _ _ _ (statement_from line statement is) refl refl refl found

none_said : (before : Schedule) (line : List ℕ) (found : Option Statement) → statement_of line ≡ found → IsWrong Form before line → fault_of before found ≡ Some Form
none_said before line None is none = refl
none_said before line (Some statement) is none = absurd (none statement (statement_from line statement is))

wrong_to : (before : Schedule) (line : List ℕ) (fault : ScriptFault) → IsWrong fault before line → fault_at before line ≡ Some fault
wrong_to before line Form none = none_said before line (statement_of line) refl none
wrong_to before line Order (statement, is, late) = ap (fault_of before) (statement_to line statement is) ∙ rw late refl
wrong_to before line Range (statement, is, early, beyond) = ap (fault_of before) (statement_to line statement is) ∙ rw (early, beyond) refl
wrong_to before line TooMany (statement, is, early, fine, more) =
    let many : ltb most_statements (size (with_said before (Some statement))) ≡ true = grind (arith, nat_tests) in
    ap (fault_of before) (statement_to line statement is) ∙ rw (early, fine, many) refl

pub faulty_to : (text : List ℕ) (number : ℕ) (fault : ScriptFault) → IsFaulty (lines_of text) number fault → script_fault text ≡ Some (number, fault)
faulty_to text number fault is =
    let front = sound_lines is.front 1 nothing is.before is.accepted.0 is.accepted.1 in
    let place : 1 + length is.front ≡ number = omega (arith, is.number_is) in
    ap (first_fault fault_at after 1 nothing) is.cut
    ∙ fault_here fault_at after 1 nothing is.front is.rest is.line fault front.0 (ap (λ b. fault_at b is.line) (sym front.1) ∙ wrong_to is.before is.line fault is.wrong)
    ∙ ap (λ n. Some (n, fault)) place

pub faulty_from : (text : List ℕ) (number : ℕ) (fault : ScriptFault) → script_fault text ≡ Some (number, fault) → IsFaulty (lines_of text) number fault
faulty_from text number fault found =
    let is = first_at fault_at after 1 number nothing (lines_of text) fault found in
    let before = after_lines after nothing is.front in
    record {
      front = is.front;
      line = is.line;
      rest = is.rest;
      cut = is.cut;
      number_is = omega (arith, is.number_is);
      before = before;
      accepted = accepted_from is.front is.none;
      wrong = wrong_said before is.line fault (statement_of is.line) refl is.is;
    }
