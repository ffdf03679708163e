-- A line, as a task has it.
use Rattle.std.proofs.Common.{◌≡◌, ℕ, ◌≤◌, List, [], ◌∷◌, ◌++◌, length, arith, ap, refl, subst, ◌∙◌}
use Rattle.std.specs.Prelude.{Option, Some, None, option_map, unwrap_or}
use Rattle.std.proofs.lemmas.List.{length-append}
use Rattle.text_lines.specs.Cutting.{Lacks}
use Rattle.text_lines.specs.Stripping.{stripped}
use Rattle.text_lines.proofs.StripLaws.{stripped_front, front_stripped}
use Rattle.text_lines.specs.Pieces.{task_text}
use Rattle.task_input.specs.Scripts.{at_word, own_line}
use Rattle.task_input.specs.Reading.{ended}

-- what a task has of a line: nothing, or what stands behind its name
pub data OwnWay (task : ℕ) (line : List ℕ) : List ℕ → Type 0 where
  Not : OwnWay task line []
  Own : (rest : List ℕ) → line ≡ task_text task ++ at_word ++ rest → OwnWay task line (at_word ++ rest)

way_by : (task : ℕ) (line : List ℕ) (found : Option (List ℕ)) → stripped (task_text task ++ at_word) line ≡ found → OwnWay task line (unwrap_or (option_map (λ rest. at_word ++ rest) found) [])
way_by task line None is = Not
way_by task line (Some rest) is = Own rest (stripped_front (task_text task ++ at_word) line rest is)

pub own_way : (task : ℕ) (line : List ℕ) → OwnWay task line (own_line task line)
own_way task line = way_by task line (stripped (task_text task ++ at_word) line) refl

-- a line that begins with the task's name
pub own_named : (task : ℕ) (line rest : List ℕ) → line ≡ task_text task ++ at_word ++ rest → own_line task line ≡ at_word ++ rest
own_named task line rest is =
    ap (λ found. unwrap_or (option_map (λ behind. at_word ++ behind) found) []) (ap (stripped (task_text task ++ at_word)) is ∙ front_stripped (task_text task ++ at_word) rest)

lacks_by : (task : ℕ) (line own : List ℕ) → OwnWay task line own → Lacks 10 line → Lacks 10 own
lacks_by task line _ Not lacks = tt
lacks_by task line _ (Own rest is) lacks =
    let P : List ℕ → Type 0 = λ l. Lacks 10 l in
    (subst P is lacks).1.1.1.1.1.1.1

pub own_lacks : (task : ℕ) (line : List ℕ) → Lacks 10 line → Lacks 10 (own_line task line)
own_lacks task line lacks = lacks_by task line (own_line task line) (own_way task line) lacks

short_by : (task : ℕ) (line own : List ℕ) → OwnWay task line own → (n : ℕ) → 1 ≤ n → length line ≤ n → length (ended own) ≤ n
short_by task line _ Not n some most = omega arith
short_by task line _ (Own rest is) n some most = omega (arith, ap length is, length-append rest (13 ∷ 10 ∷ []))

-- a task's line with its end is no longer than the line's piece
pub own_short : (task : ℕ) (line : List ℕ) (n : ℕ) → 1 ≤ n → length line ≤ n → length (ended (own_line task line)) ≤ n
own_short task line n some most = short_by task line (own_line task line) (own_way task line) n some most
