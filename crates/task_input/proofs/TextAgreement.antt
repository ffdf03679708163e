-- The format of the script of several tasks and its functions say the same.
use Rattle.std.proofs.Common.{◌≡◌, ℕ, ◌+◌, ◌<◌, ◌≤◌, Bool, true, false, cond, eqb, List, [], ◌∷◌, ◌++◌, length, get_or, map, arith, ap, ◌∙◌, sym, refl, subst, inl, inr}
use Rattle.std.specs.Prelude.{All, Option, Some, None, option_map}
use Rattle.std.specs.Option.{option_or}
use Rattle.std.specs.List.{range_with_len}
use Rattle.std.proofs.lemmas.Bool.{cases_eq, eqb-true}
use Rattle.std.proofs.lemmas.Bool.Decides.{nat_tests}
use Rattle.std.proofs.lemmas.List.{append_assoc, length-map, map-append}
use Rattle.std.proofs.lemmas.List.Elements.{All-cons, All-head, All-nil, All-tail}
use Rattle.std.proofs.lemmas.List.FromFn.{fill_by_all, get_or-map-range_with_len, length-map-range_with_len}
use Rattle.text_lines.specs.Cutting.{Lacks}
use Rattle.text_lines.specs.Lines.{lines_of}
use Rattle.text_lines.specs.Pieces.{task_text}
use Rattle.text_lines.specs.Faults.{after_lines, first_fault}
use Rattle.text_lines.proofs.FaultLaws.{fault_behind, fault_behind_front, fault_here, first_at, none_parts, same_fault}
use Rattle.input_script.specs.declared.fault.ScriptFault.{ScriptFault}
use Rattle.input_script.specs.declared.fault.ScriptFault.TheVariants.{Form}
use Rattle.input_script.specs.Grammar.{is_skipped}
use Rattle.input_script.specs.GrammarLaw as law
use Rattle.input_script.specs.Script as script
use Rattle.input_script.specs.Script.{Schedule, most_statements, nothing, size}
use Rattle.input_script.proofs.Schedules.{empty_sound, few_behind, lines_schedule, nothing_schedule}
use Rattle.task_input.specs.Scripts.{after, at_word, fault_at, own_line, Schedules, scripts_fault, task_of}
use Rattle.task_input.specs.Scripts as tasks
use Rattle.task_input.specs.Reading.{own_lines, text_of}
use Rattle.task_input.specs.GrammarLaw.{Accepts, AreLines, AreOwn, IsFaulty, IsLine, IsOwn, IsWrong, Names}
use Rattle.task_input.proofs.FirstFaults.{own_schedule}
use Rattle.task_input.proofs.Naming.{found_below, found_own, none_own, other_own}
use Rattle.task_input.proofs.OwnLines.{OwnWay, Not, Own, own_named, own_way}
use Rattle.task_input.proofs.OwnTexts.{ended_lines, lines_lack, own_all}

-- One line. -----------------------------------------------------------------------------------------------------

names_own : (task : ℕ) (line event : List ℕ) → Names task line event → own_line task line ≡ event
names_own task line event (is, (rest, front)) = own_named task line rest (is ∙ ap (λ e. task_text task ++ e) front) ∙ sym front

own_by : (task : ℕ) (line own : List ℕ) → OwnWay task line own → own_line task line ≡ own → IsOwn task line own
own_by task line _ Not is = inr (λ event names. let rest = names.1.0 in let both : [] ≡ at_word ++ rest = sym is ∙ names_own task line event names ∙ names.1.1 in absurd (cc), refl)
own_by task line _ (Own rest cut) is = inl (cut, (rest, refl))

is_own : (task : ℕ) (line : List ℕ) → IsOwn task line (own_line task line)
is_own task line = own_by task line (own_line task line) (own_way task line) refl

own_no : (task : ℕ) (line own : List ℕ) → OwnWay task line own → ((event : List ℕ) → ¬ Names task line event) → own ≡ []
own_no task line _ Not none = refl
own_no task line _ (Own rest cut) none = absurd (none (at_word ++ rest) (cut, (rest, refl)))

own_is : (task : ℕ) (line own : List ℕ) → IsOwn task line own → own ≡ own_line task line
own_is task line own (inl names) = sym (names_own task line own names)
own_is task line own (inr (none, empty)) = empty ∙ sym (own_no task line (own_line task line) (own_way task line) none)

are_own : (task : ℕ) (lines : List (List ℕ)) → AreOwn task lines (own_lines task lines)
are_own task [] = refl
are_own task (line ∷ lines) = (own_line task line, own_lines task lines, refl, is_own task line, are_own task lines)

owns_are : (task : ℕ) (lines owns : List (List ℕ)) → AreOwn task lines owns → owns ≡ own_lines task lines
owns_are task [] owns empty = empty
owns_are task (line ∷ lines) owns (own, more, cut, is, are) =
    let first = own_is task line own is in
    let later = owns_are task lines more are in
    cut ∙ ap (λ o. o ∷ more) first ∙ ap (λ m. own_line task line ∷ m) later

-- a line that is no task's has a form exactly where it is skipped
skipped_line : (count : ℕ) (line : List ℕ) → is_skipped line ≡ true → IsLine count line
skipped_line count [] is = inl refl
skipped_line count (b ∷ rest) is =
    let some : eqb (length (b ∷ rest)) 0 ≡ false = grind (arith, nat_tests) in
    let hash : eqb b 35 ≡ true = rw some at is in
    inr (inl (rest, ap (λ c. c ∷ rest) (eqb-true b 35 hash)))

hash_skipped : (comment : List ℕ) → is_skipped (35 ∷ comment) ≡ true
hash_skipped comment =
    let some : eqb (length (35 ∷ comment)) 0 ≡ false = grind (arith, nat_tests) in
    rw some refl

line_skipped : (count : ℕ) (line : List ℕ) → task_of count line ≡ None → IsLine count line → is_skipped line ≡ true
line_skipped count line none (inl empty) = ap is_skipped empty
line_skipped count line none (inr (inl (comment, is))) = ap is_skipped is ∙ hash_skipped comment
line_skipped count line none (inr (inr (task, below, (event, names)))) =
    let rest = names.1.0 in
    let both : [] ≡ at_word ++ rest = sym (none_own count task line none below) ∙ names_own task line event names ∙ names.1.1 in
    absurd (cc)

task_line_by : (count task : ℕ) (line own : List ℕ) → OwnWay task line own → own_line task line ≡ own → task_of count line ≡ Some task → task < count → IsLine count line
task_line_by count task line _ Not empty is below = absurd (found_own count task line is empty)
task_line_by count task line _ (Own rest cut) own is below = inr (inr (task, below, (at_word ++ rest, (cut, (rest, refl)))))

task_line : (count task : ℕ) (line : List ℕ) → task_of count line ≡ Some task → IsLine count line
task_line count task line is = task_line_by count task line (own_line task line) (own_way task line) refl is (found_below count task line is)

-- Lines without a fault. ------------------------------------------------------------------------------------------

-- an empty line of its own has no fault
no_fault : (before : Schedule) (own : List ℕ) → size before ≤ most_statements → own ≡ [] → script.fault_at before own ≡ None
no_fault before own few empty = ap (script.fault_at before) empty ∙ empty_sound before few

-- where a line has no fault, it has none of a task's own
own_fault_by : (count task : ℕ) (before : ℕ → Schedule) (line : List ℕ) (found : Option ℕ) → task_of count line ≡ found → task < count → size (before task) ≤ most_statements
    → tasks.fault_of before line found ≡ None → script.fault_at (before task) (own_line task line) ≡ None
own_fault_by count task before line None is below few none = no_fault (before task) (own_line task line) few (none_own count task line is below)
own_fault_by count task before line (Some other) is below few none = elim (cases_eq other task) [
  | inl same ↦ subst (λ t. script.fault_at (before t) (own_line t line) ≡ None) same none
  | inr apart ↦ no_fault (before task) (own_line task line) few (other_own count other task line is apart)
]

own_sound : (count task number : ℕ) (before : ℕ → Schedule) (lines : List (List ℕ)) → task < count → size (before task) ≤ most_statements
    → first_fault (fault_at count) after number before lines ≡ None → first_fault script.fault_at script.after number (before task) (own_lines task lines) ≡ None
own_sound count task number before [] below few none = refl
own_sound count task number before (line ∷ lines) below few none =
    let parts = none_parts (fault_at count) after number before line lines none in
    let own = own_fault_by count task before line (task_of count line) refl below few parts.0 in
    fault_behind script.fault_at script.after number (before task) (own_line task line) (own_lines task (line ∷ lines)) (own_lines task lines) refl own
    ∙ own_sound count task (number + 1) (after before line) lines below (few_behind (before task) (own_line task line) own) parts.1

formed_by : (count : ℕ) (before : ℕ → Schedule) (line : List ℕ) (found : Option ℕ) (skipped : Bool) → task_of count line ≡ found → is_skipped line ≡ skipped
    → tasks.fault_of before line found ≡ None → IsLine count line
formed_by count before line (Some task) skipped is test none = task_line count task line is
formed_by count before line None true is test none = skipped_line count line test
formed_by count before line None false is test none = absurd (let no : cond false None (Some Form) ≡ None = rw test at none in cc)

lines_formed : (count number : ℕ) (before : ℕ → Schedule) (lines : List (List ℕ)) → first_fault (fault_at count) after number before lines ≡ None → AreLines count lines
lines_formed count number before [] none = tt
lines_formed count number before (line ∷ lines) none =
    let parts = none_parts (fault_at count) after number before line lines none in
    (formed_by count before line (task_of count line) (is_skipped line) refl refl parts.0, lines_formed count (number + 1) (after before line) lines parts.1)

-- lines with a form have no fault where no task's own lines have one
line_sound : (count : ℕ) (before : ℕ → Schedule) (line : List ℕ) (found : Option ℕ) → task_of count line ≡ found → IsLine count line
    → ((task : ℕ) → task < count → script.fault_at (before task) (own_line task line) ≡ None) → tasks.fault_of before line found ≡ None
line_sound count before line None is formed own = rw (line_skipped count line is formed) refl
line_sound count before line (Some task) is formed own = own task (found_below count task line is)

lines_sound : (count number : ℕ) (before : ℕ → Schedule) (lines : List (List ℕ)) → AreLines count lines
    → ((task : ℕ) → task < count → first_fault script.fault_at script.after number (before task) (own_lines task lines) ≡ None) → first_fault (fault_at count) after number before lines ≡ None
lines_sound count number before [] formed own = refl
lines_sound count number before (line ∷ lines) formed own =
    let parts : (task : ℕ) → task < count → (script.fault_at (before task) (own_line task line) ≡ None)
    × (first_fault script.fault_at script.after (number + 1) (script.after (before task) (own_line task line)) (own_lines task lines) ≡ None) =
    λ task below. none_parts script.fault_at script.after number (before task) (own_line task line) (own_lines task lines) (own task below) in
    fault_behind (fault_at count) after number before line (line ∷ lines) lines refl (line_sound count before line (task_of count line) refl formed.0 (λ task below. (parts task below).0))
    ∙ lines_sound count (number + 1) (after before line) lines formed.1 (λ task below. (parts task below).1)

lacks_front : (xs ys : List (List ℕ)) → All (Lacks 10) (xs ++ ys) → All (Lacks 10) xs
lacks_front [] ys lacks = All-nil (Lacks 10)
lacks_front (x ∷ xs) ys lacks = All-cons (Lacks 10) x xs (All-head (Lacks 10) x (xs ++ ys) lacks) (lacks_front xs ys (All-tail (Lacks 10) x (xs ++ ys) lacks))

-- nothing is scheduled before the first line
abbrev start : ℕ → Schedule
start = λ task. nothing

-- one fault of one line
one_fault : (number n : ℕ) (fault : ScriptFault) (found : Option ScriptFault) → option_or {T = ℕ × ScriptFault} (option_map (λ f. (number, f)) found) None ≡ Some (n, fault) → found ≡ Some fault
one_fault number n fault None is = absurd (cc)
one_fault number n fault (Some other) is = let same : other ≡ fault = (same_fault (Some (number, other)) number n other fault refl is).1 in ap (λ f. Some f) same

module _ (texts : law.TextsAgree) (faults : law.FaultsAgree) where
  -- A task's own lines. -----------------------------------------------------------------------------------------

  own_text : (task : ℕ) (lines : List (List ℕ)) → All (Lacks 10) lines → lines_of (text_of (own_lines task lines)) ≡ own_lines task lines
  own_text task lines lacks = ended_lines (own_lines task lines) (own_all task lines lacks)

  own_from : (task : ℕ) (lines : List (List ℕ)) → All (Lacks 10) lines → first_fault script.fault_at script.after 1 nothing (own_lines task lines) ≡ None
      → law.Accepts (own_lines task lines) (after_lines script.after nothing (own_lines task lines))
  own_from task lines lacks none =
      let text = text_of (own_lines task lines) in
      let cut = own_text task lines lacks in
      let schedule = after_lines script.after nothing (own_lines task lines) in
      let is : script.IsScript text schedule = record { sound = ap (first_fault script.fault_at script.after 1 nothing) cut ∙ none; schedule_is = ap (after_lines script.after nothing) (sym cut) } in
      subst (λ l. law.Accepts l schedule) cut ((texts text schedule).0 is)

  own_to : (task : ℕ) (lines : List (List ℕ)) (schedule : Schedule) → All (Lacks 10) lines → law.Accepts (own_lines task lines) schedule
      → (first_fault script.fault_at script.after 1 nothing (own_lines task lines) ≡ None) × (schedule ≡ after_lines script.after nothing (own_lines task lines))
  own_to task lines schedule lacks accepted =
      let text = text_of (own_lines task lines) in
      let cut = own_text task lines lacks in
      let is = (texts text schedule).1 (subst (λ l. law.Accepts l schedule) (sym cut) accepted) in (
        subst (λ l. first_fault script.fault_at script.after 1 nothing l ≡ None) cut is.sound,
        is.schedule_is ∙ ap (after_lines script.after nothing) cut,
      )

  -- Accepted texts. -----------------------------------------------------------------------------------------------

  accepts_from : (count : ℕ) (lines : List (List ℕ)) → All (Lacks 10) lines → first_fault (fault_at count) after 1 start lines ≡ None
      → Accepts count lines (map (after_lines after start lines) (range_with_len 0 count))
  accepts_from count lines lacks none =
      let last = after_lines after start lines in
      record {
        formed = lines_formed count 1 start lines none;
        size = length-map-range_with_len last 0 count;
        each = λ task below.
            let is = get_or-map-range_with_len last 0 count task task nothing below (omega arith) ∙ own_schedule task start lines in
            (own_lines task lines, are_own task lines, subst (law.Accepts (own_lines task lines)) (sym is) (own_from task lines lacks (own_sound count task 1 start lines below (omega arith) none)));
      }

  accepts_to : (count : ℕ) (lines : List (List ℕ)) (schedules : List Schedule) → All (Lacks 10) lines → Accepts count lines schedules
      → (first_fault (fault_at count) after 1 start lines ≡ None) × (schedules ≡ map (after_lines after start lines) (range_with_len 0 count))
  accepts_to count lines schedules lacks is =
      let own : (task : ℕ) → task < count → (first_fault script.fault_at script.after 1 nothing (own_lines task lines) ≡ None)
      × (get_or schedules task nothing ≡ after_lines script.after nothing (own_lines task lines)) =
      λ task below.
      let each = is.each task below in
      own_to task lines (get_or schedules task nothing) lacks (subst (λ l. law.Accepts l (get_or schedules task nothing)) (owns_are task lines each.0 each.1) each.2) in (
        lines_sound count 1 start lines is.formed (λ task below. (own task below).0),
        fill_by_all (after_lines after start lines) schedules count nothing is.size (λ task below. (own task below).1 ∙ sym (own_schedule task start lines)),
      )

  pub schedules_from : (count : ℕ) (text : List ℕ) (schedules : List Schedule) → Schedules count text schedules → Accepts count (lines_of text) schedules
  schedules_from count text schedules is = subst (Accepts count (lines_of text)) (sym is.schedules_are) (accepts_from count (lines_of text) (lines_lack text) is.sound)

  pub schedules_to : (count : ℕ) (text : List ℕ) (schedules : List Schedule) → Accepts count (lines_of text) schedules → Schedules count text schedules
  schedules_to count text schedules is = let both = accepts_to count (lines_of text) schedules (lines_lack text) is in record { sound = both.0; schedules_are = both.1 }

  -- Faulty texts. -------------------------------------------------------------------------------------------------

  few_in : (task : ℕ) (lines : List (List ℕ)) → first_fault script.fault_at script.after 1 nothing (own_lines task lines) ≡ None
      → size (after_lines script.after nothing (own_lines task lines)) ≤ most_statements
  few_in task lines none = (lines_schedule (own_lines task lines) 1 nothing nothing_schedule none).few

  wrong_from : (count : ℕ) (front : List (List ℕ)) (line : List ℕ) (fault : ScriptFault) (found : Option ℕ) (skipped : Bool) → All (Lacks 10) (front ++ line ∷ [])
      → first_fault (fault_at count) after 1 start front ≡ None → task_of count line ≡ found → is_skipped line ≡ skipped
      → tasks.fault_of (after_lines after start front) line found ≡ Some fault → IsWrong count front line fault
  wrong_from count front line fault None true lacks none is test found = absurd (let no : cond true None (Some Form) ≡ Some fault = rw test at found in cc)
  wrong_from count front line fault None false lacks none is test found =
      let form : Some Form ≡ Some fault = rw test at found in
      let its : fault ≡ Form = cc in
      inl (its, λ formed. let both : true ≡ false = sym (line_skipped count line is formed) ∙ test in absurd (cc))
  wrong_from count front line fault (Some task) skipped lacks none is test found =
      let below = found_below count task line is in
      let lines = front ++ line ∷ [] in
      let owns = own_lines task lines in
      let cut : owns ≡ own_lines task front ++ own_line task line ∷ [] = map-append (own_line task) front (line ∷ []) in
      let here = ap (λ s. script.fault_at s (own_line task line)) (sym (own_schedule task start front)) ∙ found in
      let first = ap (first_fault script.fault_at script.after 1 nothing) cut
      ∙ fault_here script.fault_at script.after 1 nothing (own_lines task front) [] (own_line task line) fault (own_sound count task 1 start front below (omega arith) none) here
      ∙ ap (λ n. Some (n, fault)) (omega (arith, length-map front (own_line task))) in
      let text = text_of owns in
      let read = own_text task lines lacks in
      let faulty = (faults text (length front + 1) fault).0 (ap (first_fault script.fault_at script.after 1 nothing) read ∙ first) in
      inr (task, below, (owns, are_own task lines, subst (λ l. law.IsFaulty l (length front + 1) fault) read faulty))

  pub faulty_from : (count : ℕ) (text : List ℕ) (number : ℕ) (fault : ScriptFault) → scripts_fault count text ≡ Some (number, fault) → IsFaulty count (lines_of text) number fault
  faulty_from count text number fault found =
      let is = first_at (fault_at count) after 1 number start (lines_of text) fault found in
      let more = subst (All (Lacks 10)) (is.cut ∙ sym (append_assoc is.front (is.line ∷ []) is.rest)) (lines_lack text) in
      let lacks = lacks_front (is.front ++ is.line ∷ []) is.rest more in
      record {
        front = is.front;
        line = is.line;
        rest = is.rest;
        cut = is.cut;
        number_is = omega (arith, is.number_is);
        before = map (after_lines after start is.front) (range_with_len 0 count);
        accepted = accepts_from count is.front (lacks_front is.front (is.line ∷ []) lacks) is.none;
        wrong = wrong_from count is.front is.line fault (task_of count is.line) (is_skipped is.line) lacks is.none refl refl is.is;
      }

  unformed_to : (count : ℕ) (before : ℕ → Schedule) (line : List ℕ) (found : Option ℕ) (skipped : Bool) → task_of count line ≡ found → is_skipped line ≡ skipped → ¬ IsLine count line
      → tasks.fault_of before line found ≡ Some Form
  unformed_to count before line (Some task) skipped is test none = absurd (none (task_line count task line is))
  unformed_to count before line None true is test none = absurd (none (skipped_line count line test))
  unformed_to count before line None false is test none = rw test refl

  own_fault_to : (count task : ℕ) (before : ℕ → Schedule) (line : List ℕ) (fault : ScriptFault) (found : Option ℕ) → task_of count line ≡ found → task < count
      → size (before task) ≤ most_statements → script.fault_at (before task) (own_line task line) ≡ Some fault → tasks.fault_of before line found ≡ Some fault
  own_fault_to count task before line fault None is below few its =
      let none = no_fault (before task) (own_line task line) few (none_own count task line is below) in
      absurd (cc)
  own_fault_to count task before line fault (Some other) is below few its = elim (cases_eq other task) [
    | inl same ↦ subst (λ t. script.fault_at (before t) (own_line t line) ≡ Some fault) (sym same) its
    | inr apart ↦ let none = no_fault (before task) (own_line task line) few (other_own count other task line is apart) in absurd (cc)
  ]

  wrong_to : (count : ℕ) (front : List (List ℕ)) (line : List ℕ) (fault : ScriptFault) → All (Lacks 10) (front ++ line ∷ [])
      → first_fault (fault_at count) after 1 start front ≡ None → IsWrong count front line fault → fault_at count (after_lines after start front) line ≡ Some fault
  wrong_to count front line fault lacks none (inl (form, unformed)) =
      unformed_to count (after_lines after start front) line (task_of count line) (is_skipped line) refl refl unformed ∙ ap (λ f. Some f) (sym form)
  wrong_to count front line fault lacks none (inr (task, below, (owns, are, faulty))) =
      let lines = front ++ line ∷ [] in
      let own = own_lines task lines in
      let cut : own ≡ own_lines task front ++ own_line task line ∷ [] = map-append (own_line task) front (line ∷ []) in
      let read = own_text task lines lacks in
      let told : law.IsFaulty (lines_of (text_of own)) (length front + 1) fault = subst (λ l. law.IsFaulty l (length front + 1) fault) (owns_are task lines owns are ∙ sym read) faulty in
      let first : first_fault script.fault_at script.after 1 nothing own ≡ Some (length front + 1, fault) =
      ap (first_fault script.fault_at script.after 1 nothing) (sym read) ∙ (faults (text_of own) (length front + 1) fault).1 told in
      let sound = own_sound count task 1 start front below (omega arith) none in
      let behind = sym (fault_behind_front script.fault_at script.after 1 nothing (own_lines task front) (own_line task line ∷ []) sound)
      ∙ ap (first_fault script.fault_at script.after 1 nothing) (sym cut) ∙ first in
      let before = own_schedule task start front in
      let here = one_fault _ (length front + 1) fault _ behind in
      own_fault_to count task (after_lines after start front) line fault (task_of count line) refl below (subst (λ s. size s ≤ most_statements) (sym before) (few_in task front sound))
      (ap (λ s. script.fault_at s (own_line task line)) before ∙ here)

  pub faulty_to : (count : ℕ) (text : List ℕ) (number : ℕ) (fault : ScriptFault) → IsFaulty count (lines_of text) number fault → scripts_fault count text ≡ Some (number, fault)
  faulty_to count text number fault is =
      let more = subst (All (Lacks 10)) (is.cut ∙ sym (append_assoc is.front (is.line ∷ []) is.rest)) (lines_lack text) in
      let lacks = lacks_front (is.front ++ is.line ∷ []) is.rest more in
      let none = (accepts_to count is.front is.before (lacks_front is.front (is.line ∷ []) lacks) is.accepted).0 in
      let place : 1 + length is.front ≡ number = omega (arith, is.number_is) in
      ap (first_fault (fault_at count) after 1 start) is.cut
      ∙ fault_here (fault_at count) after 1 start is.front is.rest is.line fault none (wrong_to count is.front is.line fault lacks none is.wrong)
      ∙ ap (λ n. Some (n, fault)) place
