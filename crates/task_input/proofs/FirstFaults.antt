-- The first faulty line of all is the earliest of those of the tasks' own texts and of the lines without a form.
use Rattle.std.proofs.Common.{◌≡◌, ℕ, ◌+◌, ◌<◌, ◌≤◌, ◌||◌, Bool, true, false, cond, ltb, leb, List, [], ◌∷◌, ◌++◌, length, map, arith, ap, ap₂, ◌∙◌, sym, refl, subst, inl, inr}
use Rattle.std.specs.Prelude.{◌≢◌, All, Option, Some, None, IfSome, option_map, is_some}
use Rattle.std.specs.Option.{option_or}
use Rattle.std.specs.List.{range_with_len}
use Rattle.std.proofs.lemmas.Bool.{cases_lt}
use Rattle.std.proofs.lemmas.Bool.Decides.{nat_tests}
use Rattle.std.proofs.lemmas.List.FromFn.{length-map-range_with_len, get_or-map-range_with_len, map-range_with_len_more}
use Rattle.std.proofs.lemmas.List.Elements.{All-nil, All-cons}
use Rattle.text_lines.specs.Lines.{lines_of}
use Rattle.text_lines.specs.Faults.{after_lines, first_fault}
use Rattle.text_lines.proofs.FaultLaws.{not_both, same_fault}
use Rattle.input_script.specs.declared.fault.ScriptFault.{ScriptFault}
use Rattle.input_script.specs.declared.fault.ScriptFault.TheVariants.{Form}
use Rattle.input_script.specs.Grammar.{is_skipped}
use Rattle.input_script.specs.Script as script
use Rattle.input_script.specs.Script.{Schedule, most_statements, nothing, size}
use Rattle.input_script.proofs.Schedules.{empty_sound, few_behind}
use Rattle.input_script.proofs.EventLines.{IsEventLine, events_alone}
use Rattle.task_input.specs.declared.script.BadLine.{BadLine}
use Rattle.task_input.specs.Scripts.{after, fault_at, own_line, Schedules, scripts_fault, task_of}
use Rattle.task_input.specs.Reading.{earlier, fault_among, fault_among_by, first_formless, form_fault, IsFar, IsOwn, own_fault, own_lines}
use Rattle.task_input.proofs.Naming.{found_below, none_own, other_own}
use Rattle.task_input.proofs.OwnLines.{OwnWay, Not, Own, own_way}

-- a fault of a line and one of the lines behind it
abbrev Found : Type 0
Found = Option (ℕ × ScriptFault)

abbrev at_line : ℕ → Option ScriptFault → Found → Found
at_line number own rest = option_or (option_map (λ fault. (number, fault)) own) rest

-- the earlier of two
abbrev earlier_of : Found → Found → Found
earlier_of None other = other
earlier_of (Some first) None = Some first
earlier_of (Some first) (Some other) = cond (leb first.0 other.0) (Some first) (Some other)

-- it stands at a line from this number on
abbrev IsFrom : ℕ → Found → Type 0
IsFrom number found = IfSome found (λ f. number ≤ f.0)

from_more : (number : ℕ) (own : Option ScriptFault) (rest : Found) → IsFrom (number + 1) rest → IsFrom number (at_line number own rest)
from_more number (Some fault) rest from = omega arith
from_more number None None from = tt
from_more number None (Some f) from = omega (arith, from)

from_lines : {S : Type 0} (own : S → List ℕ → Option ScriptFault) (after' : S → List ℕ → S) (number : ℕ) (known : S) (lines : List (List ℕ)) → IsFrom number (first_fault own after' number known lines)
from_lines own after' number known [] = tt
from_lines own after' number known (line ∷ lines) =
    from_more number (own known line) (first_fault own after' (number + 1) (after' known line) lines) (from_lines own after' (number + 1) (after' known line) lines)

-- of a line's faults with one task more: that of before, or the task's
data Way (a b c : Option ScriptFault) : Type 0 where
  Before : a ≡ c → b ≡ None → Way a b c
  Mine : a ≡ None → c ≡ b → Way a b c

first_is : (number : ℕ) (fault : ScriptFault) (rest : Found) → IsFrom (number + 1) rest → Some (number, fault) ≡ earlier_of (Some (number, fault)) rest
first_is number fault None from = refl
first_is number fault (Some f) from =
    let before : leb number f.0 ≡ true = grind (arith, nat_tests, from) in
    rw before refl

second_is : (number : ℕ) (fault : ScriptFault) (rest : Found) → IsFrom (number + 1) rest → Some (number, fault) ≡ earlier_of rest (Some (number, fault))
second_is number fault None from = refl
second_is number fault (Some f) from =
    let behind : leb f.0 number ≡ false = grind (arith, nat_tests, from) in
    rw behind refl

one_line : (number : ℕ) (a b c : Option ScriptFault) (ra rb rc : Found) → Way a b c → IsFrom (number + 1) ra → IsFrom (number + 1) rb → (b ≡ None → rc ≡ earlier_of ra rb)
    → at_line number c rc ≡ earlier_of (at_line number a ra) (at_line number b rb)
one_line number None b c ra rb rc (Before is none) from from' more = rw (sym is, none) (more none)
one_line number (Some fault) b c ra rb rc (Before is none) from from' more = rw (sym is, none) (first_is number fault rb from')
one_line number a None c ra rb rc (Mine none is) from from' more = rw (none, is) (more refl)
one_line number a (Some fault) c ra rb rc (Mine none is) from from' more = rw (none, is) (second_is number fault ra from)

-- an empty line has no fault
none_by : (known : ℕ → Schedule) (task : ℕ) (own : List ℕ) → size (known task) ≤ most_statements → own ≡ [] → script.fault_at (known task) own ≡ None
none_by known task own few empty = ap (script.fault_at (known task)) empty ∙ empty_sound (known task) few

way_at : (tasks count : ℕ) (known : ℕ → Schedule) (line : List ℕ) (found : Option ℕ) → tasks < count → size (known tasks) ≤ most_statements → task_of count line ≡ found
    → Way (fault_among_by tasks known line found) (script.fault_at (known tasks) (own_line tasks line)) (fault_among_by (tasks + 1) known line found)
way_at tasks count known line None below few is = Before refl (none_by known tasks (own_line tasks line) few (none_own count tasks line is below))
way_at tasks count known line (Some task) below few is = elim (cases_lt task tasks) [
  | inl before ↦
      let yes : ltb task tasks ≡ true = grind (arith, nat_tests) in
      let still : ltb task (tasks + 1) ≡ true = grind (arith, nat_tests) in
      let apart : task ≢ tasks = λ same. omega arith in
      Before (rw (yes, still) refl) (none_by known tasks (own_line tasks line) few (other_own count task tasks line is apart))
  | inr from ↦ elim (cases_lt tasks task) [
    | inl behind ↦
        let no : ltb task tasks ≡ false = grind (arith, nat_tests) in
        let still : ltb task (tasks + 1) ≡ false = grind (arith, nat_tests) in
        let apart : task ≢ tasks = λ same. omega arith in
        Before (rw (no, still) refl) (none_by known tasks (own_line tasks line) few (other_own count task tasks line is apart))
    | inr to ↦
        let same : task ≡ tasks = omega arith in
        let no : ltb task tasks ≡ false = grind (arith, nat_tests) in
        let now : ltb task (tasks + 1) ≡ true = grind (arith, nat_tests) in
        Mine (rw no refl) (rw now (ap (λ t. script.fault_at (known t) (own_line t line)) same))
  ]
]

abbrev among_from : (tasks count number : ℕ) → (ℕ → Schedule) → List (List ℕ) → Found
among_from tasks count number known lines = first_fault (fault_among tasks count) after number known lines

abbrev own_from : (task number : ℕ) → (ℕ → Schedule) → List (List ℕ) → Found
own_from task number known lines = first_fault script.fault_at script.after number (known task) (own_lines task lines)

-- one task more
among_more : (tasks count number : ℕ) (known : ℕ → Schedule) (lines : List (List ℕ)) → tasks < count → size (known tasks) ≤ most_statements
    → among_from (tasks + 1) count number known lines ≡ earlier_of (among_from tasks count number known lines) (own_from tasks number known lines)
among_more tasks count number known [] below few = refl
among_more tasks count number known (line ∷ lines) below few =
    one_line number _ _ _ _ _ _ (way_at tasks count known line (task_of count line) below few refl)
    (from_lines (fault_among tasks count) after (number + 1) (after known line) lines)
    (from_lines script.fault_at script.after (number + 1) (after known line tasks) (own_lines tasks lines))
    (λ sound. among_more tasks count (number + 1) (after known line) lines below (few_behind (known tasks) (own_line tasks line) sound))

-- at first the lines without a form
among_none_by : (count : ℕ) (known : ℕ → Schedule) (line : List ℕ) (found : Option ℕ) (skipped : Bool) → is_skipped line ≡ skipped
    → cond (skipped || is_some found) None (Some Form) ≡ fault_among_by 0 known line found
among_none_by count known line None true is = rw is refl
among_none_by count known line None false is = rw is refl
among_none_by count known line (Some task) true is = let none : ltb task 0 ≡ false = grind (arith, nat_tests) in rw none refl
among_none_by count known line (Some task) false is = let none : ltb task 0 ≡ false = grind (arith, nat_tests) in rw none refl

among_none : (count number : ℕ) (known : ℕ → Schedule) (lines : List (List ℕ)) → first_fault (form_fault count) (λ k l. k) number tt lines ≡ among_from 0 count number known lines
among_none count number known [] = refl
among_none count number known (line ∷ lines) =
    ap₂ (λ own rest. at_line number own rest) (among_none_by count known line (task_of count line) (is_skipped line) refl) (among_none count (number + 1) (after known line) lines)

-- at last all
among_all_by : (count : ℕ) (known : ℕ → Schedule) (line : List ℕ) (found : Option ℕ) → task_of count line ≡ found → fault_among count count known line ≡ fault_at count known line
among_all_by count known line None is = rw is refl
among_all_by count known line (Some task) is =
    let inside : ltb task count ≡ true = (let below = found_below count task line is in grind (arith, nat_tests)) in
    rw (is, inside) refl

among_all : (count number : ℕ) (known : ℕ → Schedule) (lines : List (List ℕ)) → among_from count count number known lines ≡ first_fault (fault_at count) after number known lines
among_all count number known [] = refl
among_all count number known (line ∷ lines) =
    ap₂ (λ own rest. at_line number own rest) (among_all_by count known line (task_of count line) refl) (among_all count (number + 1) (after known line) lines)

-- What is scheduled for a task is what its own lines schedule. ---------------------------------------------

pub own_schedule : (task : ℕ) (known : ℕ → Schedule) (lines : List (List ℕ)) → after_lines after known lines task ≡ after_lines script.after (known task) (own_lines task lines)
own_schedule task known [] = refl
own_schedule task known (line ∷ lines) = own_schedule task (after known line) lines

-- One task more is read. -----------------------------------------------------------------------------------

pub far_formless : (count : ℕ) (text : List ℕ) (first : Option BadLine) → option_map (λ (bad : BadLine). (bad.line, bad.fault)) first ≡ first_formless count (lines_of text)
    → IsFar count text 0 first []
far_formless count text first is = record { faults = is ∙ among_none count 1 (λ task. nothing) (lines_of text); schedules_are = λ none. refl }

-- a faulty line and its fault
abbrev pub pair_of : Option BadLine → Found
pair_of first = option_map (λ bad. (bad.line, bad.fault)) first

none_kept : (found : Found) → found ≡ earlier_of found None
none_kept None = refl
none_kept (Some f) = refl

pub far_fine : (count : ℕ) (text : List ℕ) (task : ℕ) (first : Option BadLine) (schedules more : List Schedule) (s : Schedule)
    → IsFar count text task first schedules → task < count → IsOwn task (lines_of text) s → more ≡ schedules ++ s ∷ [] → IsFar count text (task + 1) first more
far_fine count text task first schedules more s far below own is =
    let lines = lines_of text in
    let known : ℕ → Schedule = λ t. nothing in
    let last : 0 + task ≡ task = omega arith in
    record {
      faults = far.faults ∙ none_kept (among_from task count 1 known lines) ∙ ap (earlier_of (among_from task count 1 known lines)) (sym own.sound)
          ∙ sym (among_more task count 1 known lines below (omega arith));
      schedules_are = λ none.
          is ∙ ap₂ (λ (front : List Schedule) (last : Schedule). front ++ last ∷ []) (far.schedules_are none) (own.schedule_is ∙ sym (own_schedule task known lines))
          ∙ sym (map-range_with_len_more (after_lines after known lines) 0 task task last);
    }

pair_by : (first bad : BadLine) (test : Bool) → pair_of (Some (cond test first bad)) ≡ cond test (pair_of (Some first)) (pair_of (Some bad))
pair_by first bad true = refl
pair_by first bad false = refl

pair_earlier : (first : Option BadLine) (bad : BadLine) → pair_of (Some (earlier first bad)) ≡ earlier_of (pair_of first) (pair_of (Some bad))
pair_earlier None bad = refl
pair_earlier (Some first) bad = pair_by first bad (leb first.line bad.line)

pub far_bad : (count : ℕ) (text : List ℕ) (task : ℕ) (first : Option BadLine) (schedules : List Schedule) (bad : BadLine)
    → IsFar count text task first schedules → task < count → own_fault task (lines_of text) ≡ Some (bad.line, bad.fault) → IsFar count text (task + 1) (Some (earlier first bad)) schedules
far_bad count text task first schedules bad far below own =
    let lines = lines_of text in
    let known : ℕ → Schedule = λ t. nothing in
    record {
      faults = pair_earlier first bad ∙ ap₂ earlier_of far.faults (sym own) ∙ sym (among_more task count 1 known lines below (omega arith));
      schedules_are = λ none. absurd (cc);
    }

-- At the end. ------------------------------------------------------------------------------------------------

pub far_end : (count task : ℕ) (text : List ℕ) (first : Option BadLine) (schedules : List Schedule) → count ≤ task → task ≤ count → IsFar count text task first schedules
    → pair_of first ≡ scripts_fault count text
far_end count task text first schedules most least far =
    let end : task ≡ count = omega arith in
    far.faults ∙ ap (λ t. among_from t count 1 (λ k. nothing) (lines_of text)) end ∙ among_all count 1 (λ k. nothing) (lines_of text)

pub far_schedules : (count task : ℕ) (text : List ℕ) (first : Option BadLine) (schedules : List Schedule) → count ≤ task → task ≤ count → IsFar count text task first schedules → first ≡ None
    → Schedules count text schedules
far_schedules count task text first schedules most least far none =
    let end : task ≡ count = omega arith in
    record {
      sound = sym (far_end count task text first schedules most least far) ∙ ap pair_of none;
      schedules_are = far.schedules_are none ∙ ap (λ n. map (after_lines after (λ k. nothing) (lines_of text)) (range_with_len 0 n)) end;
    }

-- A text schedules one thing, or has one first fault, and not both. -------------------------------------------

pub schedules_one : (count : ℕ) (text : List ℕ) (a b : List Schedule) → Schedules count text a → Schedules count text b → a ≡ b
schedules_one count text a b first second = first.schedules_are ∙ sym second.schedules_are

pub schedules_apart : (count : ℕ) (text : List ℕ) (schedules : List Schedule) (n : ℕ) (f : ScriptFault) → Schedules count text schedules → scripts_fault count text ≡ Some (n, f) → ⊥
schedules_apart count text schedules n f is first = not_both (scripts_fault count text) n f is.sound first

pub first_one : (count : ℕ) (text : List ℕ) (n m : ℕ) (f g : ScriptFault) → scripts_fault count text ≡ Some (n, f) → scripts_fault count text ≡ Some (m, g) → (n ≡ m) × (f ≡ g)
first_one count text n m f g a b = same_fault (scripts_fault count text) n m f g a b

-- there is one for each task
pub each_task : (count : ℕ) (text : List ℕ) (schedules : List Schedule) → Schedules count text schedules → length schedules ≡ count
each_task count text schedules is = ap length is.schedules_are ∙ length-map-range_with_len (after_lines after (λ k. nothing) (lines_of text)) 0 count

-- No operation on flash is to fail. ----------------------------------------------------------------------------

event_by : (task : ℕ) (line own : List ℕ) → OwnWay task line own → IsEventLine own
event_by task line _ Not = inl refl
event_by task line _ (Own rest is) = inr (rest, refl)

event_lines : (task : ℕ) (lines : List (List ℕ)) → All IsEventLine (own_lines task lines)
event_lines task [] = All-nil IsEventLine
event_lines task (line ∷ lines) = All-cons IsEventLine (own_line task line) (own_lines task lines) (event_by task line (own_line task line) (own_way task line)) (event_lines task lines)

pub none_fail : (count : ℕ) (text : List ℕ) (schedules : List Schedule) → Schedules count text schedules → All (λ s. s.failing ≡ []) schedules
none_fail count text schedules is =
    let of : ℕ → Schedule = after_lines after (λ k. nothing) (lines_of text) in
    subst (All (λ (s : Schedule). s.failing ≡ [])) (sym is.schedules_are) (λ k d below.
    let first : 0 + k ≡ k = omega arith in
    let inside : k < count = omega (arith, length-map-range_with_len of 0 count) in
    ap (λ (s : Schedule). s.failing) (get_or-map-range_with_len of 0 count k k d inside first ∙ own_schedule k (λ t. nothing) (lines_of text))
    ∙ events_alone (own_lines k (lines_of text)) nothing (event_lines k (lines_of text)))
