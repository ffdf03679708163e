-- Which words ask for a view that has words of its own.
use Rattle.std.specs.Prelude.{⊤, ◌≡◌, ◌⊎◌, ℕ, ◌+◌, ◌≤◌, List, [], ◌∷◌, ◌++◌, length, codes, Some}
use Rattle.std.specs.Str.Parse.{digits_value, AllDigits}
use Rattle.input_script.specs.Grammar.{number_of}
use Rattle.tk_watch.specs.declared.view.View.{View}
use Rattle.tk_watch.specs.declared.view.View.TheVariants.{Trace, Visits, Changes, Accesses}

-- a word writes an address: 0x, and four hexadecimal digits of either case
pub record IsAddress (word : List ℕ) (a : ℕ) : Type 0 where
  pub number : List ℕ
  pub written : word ≡ codes "0x" ++ number
  pub digits : AllDigits 16 number
  pub width : length number ≡ 4
  pub value_is : a ≡ digits_value 16 number

-- words begin with no address
abbrev pub HasNoAddress : List (List ℕ) → Type 0
HasNoAddress [] = ⊤
HasNoAddress (word ∷ rest) = (a : ℕ) → ¬ IsAddress word a

-- words begin with these addresses, and with no more; the others stand behind
abbrev pub BeginWith : List (List ℕ) → (places : List ℕ) → (behind : List (List ℕ)) → Type 0
BeginWith words [] behind = (words ≡ behind) × HasNoAddress behind
BeginWith [] (a ∷ more) behind = ⊥
BeginWith (word ∷ rest) (a ∷ more) behind = IsAddress word a × BeginWith rest more behind

-- the words behind `trace`, `visits`, `changes` and `accesses`
abbrev pub AskForTrace : List (List ℕ) → (behind : List (List ℕ)) → View → Type 0
AskForTrace (from ∷ rows ∷ rest) behind view =
    (first : ℕ) × (count : ℕ) × (number_of from ≡ Some first) × (number_of rows ≡ Some count) × (count ≤ 65536) × (view ≡ Trace first count) × (behind ≡ rest)
AskForTrace _ behind view = ⊥

abbrev pub AskForVisits : List (List ℕ) → (behind : List (List ℕ)) → View → Type 0
AskForVisits words behind view = (places : List ℕ) × BeginWith words places behind × (1 ≤ length places) × (length places ≤ 16) × (view ≡ Visits (record { items = places }))

-- an address, not below one, and how many bytes: some, and not too many, nor beyond the last
abbrev pub AskForBytes : (lowest most : ℕ) → List (List ℕ) → (behind : List (List ℕ)) → (at count : ℕ) → Type 0
AskForBytes lowest most (first ∷ size ∷ rest) behind at count =
    IsAddress first at × (number_of size ≡ Some count) × (lowest ≤ at) × (1 ≤ count) × (count ≤ most) × (at + count ≤ 65536) × (behind ≡ rest)
AskForBytes lowest most _ behind at count = ⊥

-- below 0x0100 stand registers, which don't change as memory does
abbrev pub AskForChanges : List (List ℕ) → (behind : List (List ℕ)) → View → Type 0
AskForChanges words behind view = (at : ℕ) × (count : ℕ) × AskForBytes 0x100 64 words behind at count × (view ≡ Changes at count)

abbrev pub AskForAccesses : List (List ℕ) → (behind : List (List ℕ)) → View → Type 0
AskForAccesses words behind view = (at : ℕ) × (count : ℕ) × AskForBytes 0 65536 words behind at count × (view ≡ Accesses at count)

-- a word, and some of those behind it
abbrev pub AskWithWords : (word : List ℕ) → (rest behind : List (List ℕ)) → View → Type 0
AskWithWords word rest behind view = ((word ≡ codes "visits") × AskForVisits rest behind view)
    ⊎ (((word ≡ codes "changes") × AskForChanges rest behind view) ⊎ (((word ≡ codes "trace") × AskForTrace rest behind view) ⊎ ((word ≡ codes "accesses") × AskForAccesses rest behind view)))
