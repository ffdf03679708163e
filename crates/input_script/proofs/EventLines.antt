-- Lines that are empty or begin as an event does list no operation that is to fail.
use Rattle.std.proofs.Common.{◌≡◌, ℕ, ◌⊎◌, eqb, false, List, [], ◌∷◌, ◌++◌, length, arith, ap, ◌∙◌, refl, inl, inr}
use Rattle.std.specs.Prelude.{codes, All, Option, Some, None, option_map, option_and_then}
use Rattle.std.proofs.lemmas.List.Elements.{All-head, All-tail}
use Rattle.std.proofs.lemmas.Bool.Decides.{nat_tests}
use Rattle.text_lines.specs.Faults.{after_lines}
use Rattle.input_script.specs.declared.input.Input.{Input}
use Rattle.input_script.specs.declared.line.Statement.TheVariants.{At}
use Rattle.input_script.specs.Grammar.{input_in, number_of, said_in, statement_of, words_of}
use Rattle.input_script.specs.Script.{Schedule, after, with_said}

-- a line that is empty or begins as an event does
abbrev pub IsEventLine : List ℕ → Type 0
IsEventLine line = (line ≡ []) ⊎ ((rest : List ℕ) × (line ≡ codes "at " ++ rest))

event_by : (before : Schedule) (number : Option ℕ) (input : Option Input) → (with_said before (option_and_then (λ n. option_map (At n) input) number)).failing ≡ before.failing
event_by before None input = refl
event_by before (Some n) None = refl
event_by before (Some n) (Some input) = refl

words_by : (before : Schedule) (words : List (List ℕ)) → (with_said before (said_in (codes "at" ∷ words))).failing ≡ before.failing
words_by before [] = refl
words_by before (number ∷ []) = refl
words_by before (number ∷ word ∷ []) = refl
words_by before (number ∷ word ∷ value ∷ []) = event_by before (number_of number) (input_in word value)
words_by before (number ∷ word ∷ value ∷ next ∷ more) = refl

at_says : (rest : List ℕ) → statement_of (codes "at " ++ rest) ≡ said_in (codes "at" ∷ words_of rest)
at_says rest =
    let some : eqb (length (codes "at " ++ rest)) 0 ≡ false = grind (arith, nat_tests) in
    rw some refl

line_alone : (before : Schedule) (line : List ℕ) → IsEventLine line → (after before line).failing ≡ before.failing
line_alone before line (inl empty) = ap (λ l. (after before l).failing) empty
line_alone before line (inr (rest, is)) = ap (λ l. (after before l).failing) is ∙ ap (λ s. (with_said before s).failing) (at_says rest) ∙ words_by before (words_of rest)

pub events_alone : (lines : List (List ℕ)) (before : Schedule) → All IsEventLine lines → (after_lines after before lines).failing ≡ before.failing
events_alone [] before all = refl
events_alone (line ∷ lines) before all = events_alone lines (after before line) (All-tail IsEventLine line lines all) ∙ line_alone before line (All-head IsEventLine line lines all)
