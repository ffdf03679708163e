-- The first faulty line, line by line.
use Rattle.std.proofs.Common.{◌≡◌, ℕ, ◌+◌, Bool, true, false, cond, List, [], ◌∷◌, ◌++◌, length, arith, ap, refl, subst, ◌∙◌}
use Rattle.std.specs.Prelude.{Option, Some, None, option_map}
use Rattle.std.specs.Option.{option_or}
use Rattle.text_lines.specs.Faults.{after_lines, first_fault}

or_both : {T : Type 0} (a b c : Option T) → option_or a (option_or b c) ≡ option_or (option_or a b) c
or_both None b c = refl
or_both (Some x) b c = refl

-- neither of two
pub neither : {T : Type 0} (a b : Option T) → option_or a b ≡ None → (a ≡ None) × (b ≡ None)
neither None b none = (refl, none)
neither (Some x) b none = absurd (cc)

-- where none is found, a test fails, and those behind it find none
pub not_found : {T : Type 0} (test : Bool) (a : T) (rest : Option T) → cond test (Some a) rest ≡ None → (test ≡ false) × (rest ≡ None)
not_found true a rest none = absurd (cc)
not_found false a rest none = (refl, none)

none_mapped : {T U : Type 0} (f : T → U) (a : Option T) → option_map f a ≡ None → a ≡ None
none_mapped f None none = refl
none_mapped f (Some x) none = absurd (cc)

module _ {S F : Type 0} (own : S → List ℕ → Option F) (after : S → List ℕ → S) where
  -- the first fault, where the first line has this one or none
  abbrev from_line : ℕ → S → List (List ℕ) → List ℕ → Option F → Option (ℕ × F)
  from_line number known behind line fault = option_or (option_map (λ f. (number, f)) fault) (first_fault own after (number + 1) (after known line) behind)

  -- a line without a fault leaves the first fault to those behind it
  pub fault_behind : (number : ℕ) (known : S) (line : List ℕ) (lines behind : List (List ℕ)) → lines ≡ line ∷ behind → own known line ≡ None
      → first_fault own after number known lines ≡ first_fault own after (number + 1) (after known line) behind
  fault_behind number known line lines behind cut none = ap (first_fault own after number known) cut ∙ ap (from_line number known behind line) none

  -- what is known behind a front and the lines behind it
  pub after_both : (known : S) (front lines : List (List ℕ)) → after_lines after known (front ++ lines) ≡ after_lines after (after_lines after known front) lines
  after_both known [] lines = refl
  after_both known (line ∷ front) lines = after_both (after known line) front lines

  -- the first fault of both is that of the front, or else that of the others
  pub first_of_both : (number : ℕ) (known : S) (front lines : List (List ℕ)) → first_fault own after number known (front ++ lines)
      ≡ option_or (first_fault own after number known front) (first_fault own after (number + length front) (after_lines after known front) lines)
  first_of_both number known [] lines = ap (λ n. first_fault own after n known lines) (omega arith)
  first_of_both number known (line ∷ front) lines =
      let here = option_map (λ fault. (number, fault)) (own known line) in
      let later = after_lines after (after known line) front in
      let first = first_fault own after (number + 1) (after known line) front in
      ap (option_or here) (first_of_both (number + 1) (after known line) front lines ∙ ap (λ n. option_or first (first_fault own after n later lines)) (omega arith))
      ∙ or_both here _ _

  -- a front without a fault leaves the first fault to the others
  pub fault_behind_front : (number : ℕ) (known : S) (front lines : List (List ℕ)) → first_fault own after number known front ≡ None
      → first_fault own after number known (front ++ lines) ≡ first_fault own after (number + length front) (after_lines after known front) lines
  fault_behind_front number known front lines none =
      first_of_both number known front lines ∙ ap (λ f. option_or f (first_fault own after (number + length front) (after_lines after known front) lines)) none

  -- .. and so to a line that has one
  pub fault_here : (number : ℕ) (known : S) (front lines : List (List ℕ)) (line : List ℕ) (fault : F) → first_fault own after number known front ≡ None
      → own (after_lines after known front) line ≡ Some fault
      → first_fault own after number known (front ++ line ∷ lines) ≡ Some (number + length front, fault)
  fault_here number known front lines line fault none is =
      fault_behind_front number known front (line ∷ lines) none ∙ ap (from_line (number + length front) (after_lines after known front) lines line) is

  -- a line more without one
  pub none_more : (number : ℕ) (known : S) (front : List (List ℕ)) (line : List ℕ) → first_fault own after number known front ≡ None → own (after_lines after known front) line ≡ None
      → first_fault own after number known (front ++ line ∷ []) ≡ None
  none_more number known front line none is =
      fault_behind_front number known front (line ∷ []) none ∙ ap (from_line (number + length front) (after_lines after known front) [] line) is

  -- where no line has a fault, neither the first has one nor those behind it
  pub none_parts : (number : ℕ) (known : S) (line : List ℕ) (lines : List (List ℕ)) → first_fault own after number known (line ∷ lines) ≡ None
      → (own known line ≡ None) × (first_fault own after (number + 1) (after known line) lines ≡ None)
  none_parts number known line lines none =
      let parts = neither _ (first_fault own after (number + 1) (after known line) lines) none in
      (none_mapped (λ fault. (number, fault)) (own known line) parts.0, parts.1)

-- there is one first fault
pub same_fault : {F : Type 0} (found : Option (ℕ × F)) (line other : ℕ) (a b : F) → found ≡ Some (line, a) → found ≡ Some (other, b) → (line ≡ other) × (a ≡ b)
same_fault {F} found line other a b first second =
    let pair : (line, a) ≡ (other, b) = cc in
    (ap (λ (p : ℕ × F). p.0) pair, ap (λ (p : ℕ × F). p.1) pair)

-- the first line that has a fault, counted on from `number`, and the lines before it, which have none
pub record IsFirst {S F : Type 0} (own : S → List ℕ → Option F) (after : S → List ℕ → S) (number : ℕ) (known : S) (lines : List (List ℕ)) (n : ℕ) (fault : F) : Type 0 where
  pub front : List (List ℕ)
  pub line : List ℕ
  pub rest : List (List ℕ)
  pub cut : lines ≡ front ++ line ∷ rest
  pub number_is : n ≡ number + length front
  pub none : first_fault own after number known front ≡ None
  pub is : own (after_lines after known front) line ≡ Some fault

module _ {S F : Type 0} (own : S → List ℕ → Option F) (after : S → List ℕ → S) where
  first_by : (number n : ℕ) (known : S) (line : List ℕ) (lines : List (List ℕ)) (fault : F) (found : Option F) → own known line ≡ found
      → from_line own after number known lines line found ≡ Some (n, fault)
      → (first_fault own after (number + 1) (after known line) lines ≡ Some (n, fault) → IsFirst own after (number + 1) (after known line) lines n fault)
      → IsFirst own after number known (line ∷ lines) n fault
  first_by number n known line lines fault (Some its) own_is is later =
      let same = same_fault (Some (number, its)) number n its fault refl is in
      record { front = []; line = line; rest = lines; cut = refl; number_is = omega (arith, same.0); none = refl; is = own_is ∙ ap Some same.1 }
  first_by number n known line lines fault None own_is is later =
      let more = later is in
      record {
        front = line ∷ more.front;
        line = more.line;
        rest = more.rest;
        cut = ap (λ z. line ∷ z) more.cut;
        number_is = omega (arith, more.number_is);
        none = ap (from_line own after number known more.front line) own_is ∙ more.none;
        is = more.is;
      }

  -- where a first fault is found
  pub first_at : (number n : ℕ) (known : S) (lines : List (List ℕ)) (fault : F) → first_fault own after number known lines ≡ Some (n, fault) → IsFirst own after number known lines n fault
  first_at number n known [] fault is = absurd (cc)
  first_at number n known (line ∷ lines) fault is = first_by number n known line lines fault (own known line) refl is (first_at (number + 1) n (after known line) lines fault)

-- what holds of a found one holds of the one that it is
pub found_is : {F : Type 0} (P : F → Type 0) (found fault : F) → Some found ≡ Some fault → P found → P fault
found_is P found fault same is =
    let its : found ≡ fault = cc in
    subst P its is

-- or none
pub not_both : {F : Type 0} (found : Option (ℕ × F)) (line : ℕ) (fault : F) → found ≡ None → found ≡ Some (line, fault) → ⊥
not_both found line fault none some = absurd (cc)
