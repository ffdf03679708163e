-- What lines without a fault schedule is in order and in range.
use Rattle.std.proofs.Common.{◌≡◌, ℕ, ◌+◌, ◌≤◌, List, [], ◌∷◌, ltb, Bool, true, false, cond, arith, sym, refl, subst}
use Rattle.std.specs.Prelude.{Option, Some, None}
use Rattle.std.proofs.lemmas.Bool.{not-false}
use Rattle.std.proofs.lemmas.Bool.Decides.{nat_tests}
use Rattle.std.proofs.lemmas.List.Elements.{All-push}
use Rattle.text_lines.specs.Faults.{after_lines, first_fault}
use Rattle.text_lines.proofs.FaultLaws.{none_parts, not_found}
use Rattle.input_script.specs.declared.input.Event.{Event}
use Rattle.input_script.specs.declared.line.Statement.{Statement}
use Rattle.input_script.specs.declared.line.Statement.TheVariants.{Nothing, At, FailFlash}
use Rattle.input_script.specs.Grammar.{statement_of}
use Rattle.input_script.specs.Script.{Schedule, IsSchedule, is_in_range, is_late, after, fault_at, fault_of, most_statements, nothing, size, with_said}
use Rattle.input_script.proofs.Order.{ordered_push}
use Rattle.input_script.specs.declared.fault.ScriptFault.TheVariants.{TooMany}

-- a statement that may come next
pub record IsNext (before : Schedule) (statement : Statement) : Type 0 where
  pub in_order : is_late before statement ≡ false
  pub in_range : is_in_range statement ≡ true
  pub room : size (with_said before (Some statement)) ≤ most_statements

-- is one without a fault
pub sound_next : (before : Schedule) (statement : Statement) → fault_of before (Some statement) ≡ None → IsNext before statement
sound_next before statement none =
    let late = not_found _ _ _ none in
    let range = not_found _ _ _ late.1 in
    let many = not_found (ltb most_statements (size (with_said before (Some statement)))) TooMany None range.1 in
    record { in_order = late.0; in_range = not-false _ range.0; room = (let test = many.0 in grind (arith, nat_tests)) }

-- the number of an event, and of a fail line
abbrev pub event_number : Event → ℕ
event_number event = event.at

abbrev pub fail_number : ℕ → ℕ
fail_number number = number

-- and leaves a schedule
pub schedule_next : (before : Schedule) (statement : Statement) → IsSchedule before → IsNext before statement → IsSchedule (with_said before (Some statement))
schedule_next before Nothing schedule next = schedule
schedule_next before (At number input) schedule next =
    let event : Event = record { at = number; input = input } in
    record {
      ordered = ordered_push Event event_number before.events event schedule.ordered next.in_order;
      in_range = All-push (λ e. is_in_range (At e.at e.input) ≡ true) before.events event schedule.in_range next.in_range;
      failing_ordered = schedule.failing_ordered;
      failing_in_range = schedule.failing_in_range;
      few = next.room;
    }
schedule_next before (FailFlash number) schedule next = record {
  ordered = schedule.ordered;
  in_range = schedule.in_range;
  failing_ordered = ordered_push ℕ fail_number before.failing number schedule.failing_ordered next.in_order;
  failing_in_range = All-push (λ n. is_in_range (FailFlash n) ≡ true) before.failing number schedule.failing_in_range next.in_range;
  few = next.room;
}

said_schedule : (before : Schedule) (said : Option Statement) → IsSchedule before → fault_of before said ≡ None → IsSchedule (with_said before said)
said_schedule before None schedule sound = absurd (cc)
said_schedule before (Some statement) schedule sound = schedule_next before statement schedule (sound_next before statement sound)

pub lines_schedule : (lines : List (List ℕ)) (number : ℕ) (before : Schedule) → IsSchedule before → first_fault fault_at after number before lines ≡ None → IsSchedule (after_lines after before lines)
lines_schedule [] number before schedule sound = schedule
lines_schedule (line ∷ lines) number before schedule sound =
    let both = none_parts fault_at after number before line lines sound in
    lines_schedule lines (number + 1) (after before line) (said_schedule before (statement_of line) schedule both.0) both.1

-- a line without a fault leaves no more than may be
few_said : (before : Schedule) (said : Option Statement) → fault_of before said ≡ None → size (with_said before said) ≤ most_statements
few_said before None sound = absurd (cc)
few_said before (Some statement) sound = (sound_next before statement sound).room

pub few_behind : (before : Schedule) (line : List ℕ) → fault_at before line ≡ None → size (after before line) ≤ most_statements
few_behind before line sound = few_said before (statement_of line) sound

-- an empty line has no fault
pub empty_sound : (before : Schedule) → size before ≤ most_statements → fault_at before [] ≡ None
empty_sound before few =
    let inside : ltb most_statements (size before) ≡ false = grind (arith, nat_tests) in
    rw inside refl

pub nothing_schedule : IsSchedule nothing
nothing_schedule = record {
  ordered = λ i j d less below. absurd (omega (arith, below));
  in_range = λ k d below. absurd (omega (arith, below));
  failing_ordered = λ i j d less below. absurd (omega (arith, below));
  failing_in_range = λ k d below. absurd (omega (arith, below));
  few = omega arith;
}

-- what holds of both outcomes
pub either_way : {A : Type 0} (P : A → Type 0) (b : Bool) (x y z : A) → z ≡ cond b x y → P x → P y → P z
either_way P true x y z is first second = subst P (sym is) first
either_way P false x y z is first second = subst P (sym is) second
