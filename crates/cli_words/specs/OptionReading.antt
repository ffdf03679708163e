-- Serves private functions: the numbers of a command while they are read.
use Rattle.std.specs.Prelude.{ℕ, ◌==◌, if◌then◌else◌, List, [], ◌∷◌, Option, Some, None, option_map}
use Rattle.std.specs.Option.{option_map_or, option_or}
use Rattle.text_lines.specs.Stripping.{stripped}
use Rattle.cli_words.specs.declared.table.Row.{Row}
use Rattle.cli_words.specs.declared.table.Parameter.{Parameter}
use Rattle.cli_words.specs.declared.table.Parameter.TheVariants.{Seed}
use Rattle.cli_words.specs.Options.{Choose, name_of, nothing, parameters}

-- a parameter, the digits of its value, and the words behind them
abbrev pub Found : Type 0
Found = Parameter × List ℕ × List (List ℕ)

-- the text behind a name, in a word that begins with it
abbrev pub behind : Option (List ℕ) → List ℕ → Option (List ℕ)
behind None word = None
behind (Some name) word = stripped name word

-- the first of these parameters whose name a word begins with, and the text behind the name
abbrev pub first_named : List Parameter → List ℕ → Option (Parameter × List ℕ)
first_named [] word = None
first_named (parameter ∷ others) word = option_or (option_map (λ text. (parameter, text)) (behind (name_of parameter) word)) (first_named others word)

-- the digits behind a name, in the next word or behind `=` (61)
abbrev pub value_at : Parameter → (behind : List ℕ) → (later : List (List ℕ)) → Option Found
value_at parameter [] [] = None
value_at parameter [] (digits ∷ rest) = Some (parameter, digits, rest)
value_at parameter (c ∷ digits) later = if c == 61 then Some (parameter, digits, later) else None

-- the parameter, the digits and the rest that words begin with: a word without a name is a number itself
abbrev pub number_in : List (List ℕ) → Option Found
number_in [] = None
number_in (word ∷ later) = option_map_or (λ named. value_at named.0 named.1 later) (first_named parameters word) (Some (Seed, word, later))

-- the words in front of the rest were read: the rest chooses on just as all of them choose
pub record HasRead (rows : List Row) (words rest : List (List ℕ)) (chosen : List (Option ℕ)) : Type 0 where
  pub on : (after : List (Option ℕ)) → Choose rows words nothing after → Choose rows rest chosen after
  pub back : (after : List (Option ℕ)) → Choose rows rest chosen after → Choose rows words nothing after
