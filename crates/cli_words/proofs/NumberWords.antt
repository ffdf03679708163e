-- The first words of a list choose a number in one way only.
use Rattle.std.proofs.Common.{◌≡◌, ℕ, ◌<◌, Bool, true, false, List, [], ◌∷◌, ◌++◌, append-nil, arith, sym, ap, ap₂, refl, ◌∙◌, inl, inr, subst, eqb}
use borrow.Author.Tests.{ne_eqb, eqb-true}
use Rattle.std.specs.Prelude.{Option, Some, None, IfSome, IsSome, MatchOption, option_map, if◌then◌else◌}
use Rattle.std.specs.Option.{option_map_or, option_or}
use Rattle.std.specs.Char.{digit_value}
use Rattle.std.specs.Str.Pattern.{FindsTextPrefix, StripsPrefix}
use denote.Ref.{Bor}
use Rattle.input_script.specs.Grammar.{number_of}
use Rattle.input_script.proofs.Digits.{number_digits}
use Rattle.text_lines.specs.Stripping.{stripped}
use Rattle.text_lines.proofs.StripLaws.{front_stripped, stripped_front}
use Rattle.cli_words.specs.declared.table.Row.{Row}
use Rattle.cli_words.specs.declared.table.Parameter.{Parameter}
use Rattle.cli_words.specs.declared.table.Parameter.TheVariants.{Seed, Count}
use Rattle.cli_words.specs.declared.options.Choice.{Choice}
use Rattle.cli_words.specs.Options.{BeginsWith, IsWritten, name_of, parameters, row_in}
use Rattle.cli_words.specs.OptionReading.{Found, behind, first_named, number_in, value_at}

-- what was found is the same part by part
parts : (p q : Parameter) (ds es : List ℕ) (r s : List (List ℕ)) → ◌≡◌ {A = Option Found} (Some (p, ds, r)) (Some (q, es, s)) → (p ≡ q) × (ds ≡ es) × (r ≡ s)
parts p q ds es r s same =
    let inner : ◌≡◌ {A = Found} (p, ds, r) (q, es, s) = cc in
    (ap (λ found. found.0) inner, ap (λ found. found.1) inner, ap (λ found. found.2) inner)

-- digits begin with no name
unnamed : (digits : List ℕ) (value : ℕ) → number_of digits ≡ Some value → first_named parameters digits ≡ None
unnamed [] value number = absurd (let some : 0 < 0 = (number_digits value [] number).0 in omega arith)
unnamed (c ∷ digits) value number =
    let apart : eqb 45 c ≡ false = ne_eqb 45 c (λ same. omega (arith, ap digit_value (sym same), (number_digits value (c ∷ digits) number).1.0)) in
    rw apart refl

-- words that write digits of a parameter are read so
pub is_read : (parameter : Parameter) (digits : List ℕ) (value : ℕ) (words rest : List (List ℕ)) → number_of digits ≡ Some value → IsWritten (name_of parameter) digits words rest
    → number_in words ≡ Some (parameter, digits, rest)
is_read Seed digits value words rest number is = ap number_in is
    ∙ ap (λ named. option_map_or (λ (n : Parameter × List ℕ). value_at n.0 n.1 rest) named (Some (Seed, digits, rest))) (unnamed digits value number)
is_read Count digits value words rest number (inl is) = ap number_in is
is_read Count digits value words rest number (inr is) = ap number_in is
is_read _ digits value words rest number (inl is) = ap number_in is
is_read _ digits value words rest number (inr is) = ap number_in is

-- and words that are read so write them
stripped_is : (front text : List ℕ) → IfSome (stripped front text) (λ behind. text ≡ front ++ behind)
stripped_is front text = is (stripped front text) refl where
  is : (found : Option (List ℕ)) → stripped front text ≡ found → IfSome found (λ behind. text ≡ front ++ behind)
  is None same = tt
  is (Some rest) same = stripped_front front text rest same

pub stripped_by : (front text : List ℕ) (found : Option (Bor (List ℕ))) → MatchOption found (FindsTextPrefix front text None) (λ x. StripsPrefix (FindsTextPrefix front) text x.now)
    → option_map (λ x. x.now) found ≡ stripped front text
stripped_by front text None lacks = none (stripped front text) (stripped_is front text) where
  none : (found : Option (List ℕ)) → IfSome found (λ behind. text ≡ front ++ behind) → None ≡ found
  none None is = refl
  none (Some rest) is = absurd (lacks rest is)
stripped_by front text (Some x) strips =
    let is : text ≡ front ++ x.now = strips.1.1 ∙ ap (λ z. front ++ z) (sym strips.2) in
    sym (ap (stripped front) is ∙ front_stripped front x.now)

-- the name of the parameter that a word begins with
abbrev IsNamed : List ℕ → Option (Parameter × List ℕ) → Type 0
IsNamed word found = IfSome found (λ f. (name : List ℕ) × (name_of f.0 ≡ Some name) × (word ≡ name ++ f.1))

behind_named : (parameter : Parameter) (word : List ℕ) (name : Option (List ℕ)) → name_of parameter ≡ name → IsNamed word (option_map (λ text. (parameter, text)) (behind name word))
behind_named parameter word None has = tt
behind_named parameter word (Some name) has = named (stripped name word) (stripped_is name word) where
  named : (found : Option (List ℕ)) → IfSome found (λ text. word ≡ name ++ text) → IsNamed word (option_map (λ text. (parameter, text)) found)
  named None is = tt
  named (Some text) is = (name, has, is)

either_named : (word : List ℕ) (found others : Option (Parameter × List ℕ)) → IsNamed word found → IsNamed word others → IsNamed word (option_or found others)
either_named word None others is are = are
either_named word (Some found) others is are = is

named_is : (among : List Parameter) (word : List ℕ) → IsNamed word (first_named among word)
named_is [] word = tt
named_is (parameter ∷ others) word = either_named word _ _ (behind_named parameter word (name_of parameter) refl) (named_is others word)

value_written : (found parameter : Parameter) (name word behind digits : List ℕ) (later rest : List (List ℕ)) → name_of found ≡ Some name → word ≡ name ++ behind
    → value_at found behind later ≡ Some (parameter, digits, rest) → IsWritten (name_of parameter) digits (word ∷ later) rest
value_written found parameter name word [] digits [] rest has is read = absurd (cc)
value_written found parameter name word [] digits (next ∷ later) rest has is read =
    let same = parts found parameter next digits later rest read in
    let front : word ≡ name = is ∙ append-nil name in
    subst (λ n. IsWritten n digits (word ∷ next ∷ later) rest) (sym has ∙ ap name_of same.0)
    (inl (ap₂ (λ w ws. w ∷ ws) front (ap₂ (λ w ws. w ∷ ws) same.1 same.2)))
value_written found parameter name word (c ∷ behind) digits later rest has is read = joined (eqb c 61) refl read where
  joined : (equals : Bool) → eqb c 61 ≡ equals → ◌≡◌ {A = Option Found} (if◌then◌else◌ {A = Option Found} equals (Some (found, behind, later)) None) (Some (parameter, digits, rest))
      → IsWritten (name_of parameter) digits (word ∷ later) rest
  joined true equals read =
      let same = parts found parameter behind digits later rest read in
      subst (λ n. IsWritten n digits (word ∷ later) rest) (sym has ∙ ap name_of same.0)
      (inr (ap₂ (λ w ws. w ∷ ws) (is ∙ ap₂ (λ x xs. name ++ (x ∷ xs)) (eqb-true c 61 equals) same.1) same.2))
  joined false equals read = absurd (cc)

pub is_written : (words : List (List ℕ)) (parameter : Parameter) (digits : List ℕ) (rest : List (List ℕ)) → number_in words ≡ Some (parameter, digits, rest)
    → IsWritten (name_of parameter) digits words rest
is_written [] parameter digits rest read = absurd (cc)
is_written (word ∷ later) parameter digits rest read = behind_name (first_named parameters word) (named_is parameters word) read where
  behind_name : (found : Option (Parameter × List ℕ)) → IsNamed word found
      → ◌≡◌ {A = Option Found} (option_map_or (λ (n : Parameter × List ℕ). value_at n.0 n.1 later) found (Some (Seed, word, later))) (Some (parameter, digits, rest))
      → IsWritten (name_of parameter) digits (word ∷ later) rest
  behind_name None is read =
      let same = parts Seed parameter word digits later rest read in
      subst (λ p. IsWritten (name_of p) digits (word ∷ later) rest) same.0 (ap₂ (λ w ws. w ∷ ws) same.1 same.2)
  behind_name (Some found) is read = value_written found.0 parameter is.0 word found.1 digits later rest is.1 is.2 read

-- words begin with one choice
pub one_choice : (rows : List Row) (words : List (List ℕ)) (a b : Choice) (rest rest' : List (List ℕ)) → BeginsWith rows a words rest → BeginsWith rows b words rest' → (a ≡ b) × (rest ≡ rest')
one_choice rows words a b rest rest' first second =
    let same = parts _ _ _ _ _ _ (sym (is_read a.parameter first.digits a.value words rest first.number first.written)
    ∙ is_read b.parameter second.digits b.value words rest' second.number second.written) in
    let both : Some a.value ≡ Some b.value = sym first.number ∙ ap number_of same.1 ∙ second.number in
    let value : a.value ≡ b.value = cc in
    (ap₂ (λ p v. record { parameter = p; value = v }) same.0 value, same.2)

-- words that are read as no number, or as one that can't be chosen
pub none_read : (rows : List Row) (words : List (List ℕ)) → number_in words ≡ None → (choice : Choice) (rest : List (List ℕ)) → ¬ BeginsWith rows choice words rest
none_read rows words none choice rest begins =
    let read = is_read choice.parameter begins.digits choice.value words rest begins.number begins.written in absurd (cc)

pub not_chosen : (rows : List Row) (words rest : List (List ℕ)) (parameter : Parameter) (digits : List ℕ) → number_in words ≡ Some (parameter, digits, rest)
    → ((value : ℕ) → number_of digits ≡ Some value → ¬ IsSome (row_in rows parameter))
    → (choice : Choice) (rest : List (List ℕ)) → ¬ BeginsWith rows choice words rest
not_chosen rows words rest parameter digits read never choice rest' begins =
    let same = parts _ _ _ _ _ _ (sym (is_read choice.parameter begins.digits choice.value words rest' begins.number begins.written) ∙ read) in
    never choice.value (sym (ap number_of same.1) ∙ begins.number) (subst (λ p. IsSome (row_in rows p)) same.0 begins.has)
