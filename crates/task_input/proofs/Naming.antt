-- Which task a line names.
use Rattle.std.proofs.Common.{◌≡◌, ℕ, zero, suc, ◌+◌, ◌<◌, Bool, true, false, cond, ltb, List, [], ◌∷◌, ◌++◌, length, get_or, arith, ap, ◌∙◌, sym, refl, subst}
use Rattle.std.specs.Prelude.{◌≢◌, All, Option, Some, None, MatchOption, find, is_some}
use Rattle.std.specs.List.{range_with_len}
use denote.Ref.{Bor}
use Rattle.std.proofs.lemmas.Bool.Decides.{nat_tests}
use Rattle.std.proofs.lemmas.List.FromFn.{length-range_with_len, get_or-range_with_len}
use Rattle.std.proofs.lemmas.List.Elements.{All-head, All-tail}
use Rattle.text_lines.specs.Pieces.{task_text}
use Rattle.text_lines.proofs.FaultLaws.{not_found}
use Rattle.task_input.specs.Scripts.{at_word, own_line, task_of}
use Rattle.task_input.proofs.OwnLines.{OwnWay, Not, Own, own_named, own_way}

-- an item that a search finds passes the test, and is one of the items
found_first : {A : Type 0} (p : A → Bool) (P : A → Type 0) (y x : A) (rest : Option A) (test : Bool) → p y ≡ test → cond test (Some y) rest ≡ Some x → P y → (rest ≡ Some x → P x × (p x ≡ true))
    → P x × (p x ≡ true)
found_first p P y x rest true passes is here more =
    let same : y ≡ x = cc in
    subst (λ z. P z × (p z ≡ true)) same (here, passes)
found_first p P y x rest false passes is here more = more is

found_by : {A : Type 0} (p : A → Bool) (P : A → Type 0) (xs : List A) (x : A) → All P xs → find p xs ≡ Some x → P x × (p x ≡ true)
found_by p P [] x all is = absurd (cc)
found_by p P (y ∷ xs) x all is = found_first p P y x (find p xs) (p y) refl is (All-head P y xs all) (found_by p P xs x (All-tail P y xs all))

-- and where it finds none, none passes
none_by : {A : Type 0} (p : A → Bool) (xs : List A) → find p xs ≡ None → (k : ℕ) (d : A) → k < length xs → p (get_or xs k d) ≡ false
none_by p [] is k d below = absurd (omega arith)
none_by p (y ∷ xs) is zero d below = (not_found (p y) y (find p xs) is).0
none_by p (y ∷ xs) is (suc k) d below = none_by p xs (not_found (p y) y (find p xs) is).1 k d (omega arith)

abbrev has_own : List ℕ → ℕ → Bool
has_own line task = ltb 0 (length (own_line task line))

empty_by : (own : List ℕ) → ltb 0 (length own) ≡ false → own ≡ []
empty_by [] none = refl
empty_by (b ∷ own) none = absurd (let some : ltb 0 (length (b ∷ own)) ≡ true = grind (arith, nat_tests) in cc)

inside : (count : ℕ) → All (λ task. task < count) (range_with_len 0 count)
inside count k d below = omega (arith, get_or-range_with_len 0 count k d (omega (arith, length-range_with_len 0 count)), length-range_with_len 0 count)

-- the task that is found is one of them, and has the line
pub found_below : (count task : ℕ) (line : List ℕ) → task_of count line ≡ Some task → task < count
found_below count task line is = (found_by (has_own line) (λ t. t < count) (range_with_len 0 count) task (inside count) is).0

-- and it has something of it
pub found_own : (count task : ℕ) (line : List ℕ) → task_of count line ≡ Some task → own_line task line ≢ []
found_own count task line is empty =
    let some : has_own line task ≡ true = (found_by (has_own line) (λ t. t < count) (range_with_len 0 count) task (inside count) is).1 in
    let none : has_own line task ≡ false = ap (λ own. ltb 0 (length own)) empty in
    absurd (cc)

-- where none is found, none has it
pub none_own : (count task : ℕ) (line : List ℕ) → task_of count line ≡ None → task < count → own_line task line ≡ []
none_own count task line is below =
    let at : get_or (range_with_len 0 count) task 0 ≡ task = omega (arith, get_or-range_with_len 0 count task 0 below) in
    empty_by (own_line task line) (subst (λ t. has_own line t ≡ false) at (none_by (has_own line) (range_with_len 0 count) is task 0 (omega (arith, length-range_with_len 0 count))))

task_digit : (task other : ℕ) (rest more : List ℕ) → task_text task ++ at_word ++ rest ≡ task_text other ++ at_word ++ more → task ≡ other
task_digit task other rest more same =
    let digits : 48 + task ≡ 48 + other = ap (λ l. get_or l 5 0) same in
    omega arith

one_by : (task other : ℕ) (line a b : List ℕ) → OwnWay task line a → OwnWay other line b → ltb 0 (length a) ≡ true → task ≢ other → b ≡ []
one_by task other line _ _ Not way some apart = absurd (cc)
one_by task other line _ _ (Own rest is) Not some apart = refl
one_by task other line _ _ (Own rest is) (Own more is') some apart = absurd (apart (task_digit task other rest more (sym is ∙ is')))

-- no other has it
pub other_own : (count task other : ℕ) (line : List ℕ) → task_of count line ≡ Some task → task ≢ other → own_line other line ≡ []
other_own count task other line is apart =
    one_by task other line (own_line task line) (own_line other line) (own_way task line) (own_way other line)
    (found_by (has_own line) (λ t. t < count) (range_with_len 0 count) task (inside count) is).1 apart

some_by : (count task : ℕ) (line rest : List ℕ) (found : Option ℕ) → task_of count line ≡ found → task < count → own_line task line ≡ at_word ++ rest → is_some found ≡ true
some_by count task line rest None none below own = let both : [] ≡ at_word ++ rest = sym (none_own count task line none below) ∙ own in absurd (cc)
some_by count task line rest (Some found) is below own = refl

-- a line that begins with the name of a task is found
pub named_found : (count task : ℕ) (line : List ℕ) (behind : Option (Bor (List ℕ))) → task < count
    → MatchOption behind ((rest : List ℕ) → line ≢ task_text task ++ at_word ++ rest) (λ rest. line ≡ task_text task ++ at_word ++ rest.now)
    → is_some behind ≡ true → true ≡ is_some (task_of count line)
named_found count task line None below is some = absurd (cc)
named_found count task line (Some rest) below is some = sym (some_by count task line rest.now (task_of count line) refl below (own_named task line rest.now is))

no_way : (count task : ℕ) (line own : List ℕ) → OwnWay task line own → ltb 0 (length own) ≡ true → ((rest : List ℕ) → line ≢ task_text task ++ at_word ++ rest) → ⊥
no_way count task line _ Not some none = absurd (cc)
no_way count task line _ (Own rest is) some none = none rest is

none_named_by : (count : ℕ) (line : List ℕ) (found : Option ℕ) → task_of count line ≡ found → ((task : ℕ) (rest : List ℕ) → task < count → line ≢ task_text task ++ at_word ++ rest)
    → is_some found ≡ false
none_named_by count line None is none = refl
none_named_by count line (Some task) is none =
    let found = found_by (has_own line) (λ t. t < count) (range_with_len 0 count) task (inside count) is in
    absurd (no_way count task line (own_line task line) (own_way task line) found.1 (λ rest. none task rest found.0))

-- and one that begins with none isn't
pub none_found : (count : ℕ) (line : List ℕ) → ((task : ℕ) (rest : List ℕ) → task < count → line ≢ task_text task ++ at_word ++ rest) → false ≡ is_some (task_of count line)
none_found count line none = sym (none_named_by count line (task_of count line) refl none)
