-- Bytes at their places.
use Rattle.std.proofs.Common.{◌≡◌, ◌≢◌, ℕ, suc, zero, ◌+◌, ◌<◌, ◌≤◌, ◌==◌, max, cond, true, false, Bool, ◌||◌, List, [], ◌∷◌, ◌++◌, length, get_or, take, refl, sym, ap, ◌∙◌, arith, inl, inr, Some}
use Rattle.std.proofs.Common.{None, Option}
use Rattle.std.specs.Prelude.{nat_lt, is_some, ◌⊎◌}
use Rattle.std.specs.Option.{option_or}
use Rattle.std.specs.List.{enumerate_from, list_any, range_with_len}
use Rattle.std.proofs.lemmas.Bool.{cases_eq}
use Rattle.std.proofs.lemmas.Bool.Decides.{nat_tests}
use Rattle.std.proofs.lemmas.List.{append_assoc, take_all, take_more}
use Rattle.std.proofs.lemmas.List.Folds.{list_any-append, list_any_at}
use Rattle.std.proofs.lemmas.List.FromFn.{get_or-enumerate_from, get_or-range_with_len, length-enumerate_from, length-range_with_len}
use Rattle.hex_image.specs.Image.{most_bytes}
use Rattle.hex_image.specs.declared.fault.HexFault.TheVariants.{Wrap, Twice, TooLarge}
use Rattle.hex_image.specs.Places.{Cell, byte_given, extent}
use Rattle.hex_image.specs.Reading.{AreSlots, place_fault}
use Rattle.base.proofs.Ranges.{range_with_len-push}

-- none of some places and not the next
pub any_more : (test : ℕ → Bool) (a n : ℕ) → list_any test (range_with_len a n) ≡ false → test (a + n) ≡ false → list_any test (range_with_len a (suc n)) ≡ false
any_more test a n before here =
    ap (list_any test) (range_with_len-push a n) ∙ list_any-append test (range_with_len a n) ((a + n) ∷ []) ∙ rw (before, here) refl

-- one of some places
pub any_at : (test : ℕ → Bool) (a n i : ℕ) → i < n → test (a + i) ≡ true → list_any test (range_with_len a n) ≡ true
any_at test a n i below here =
    list_any_at test (range_with_len a n) i 0 (omega (arith, length-range_with_len a n)) (ap test (get_or-range_with_len a n i 0 below) ∙ here)

-- none of some places
pub none_at : (test : ℕ → Bool) (a n i : ℕ) → i < n → list_any test (range_with_len a n) ≡ false → test (a + i) ≡ false
none_at test a n i below none =
    elim (cases_true (test (a + i))) [
      | inl here ↦ cc (any_at test a n i below here, none)
      | inr other ↦ other
    ]
  where
    cases_true : (b : Bool) → (b ≡ true) ⊎ (b ≡ false)
    cases_true true = inl refl
    cases_true false = inr refl

-- two tests that agree
any_same : (f g : ℕ → Bool) → ((place : ℕ) → f place ≡ g place) → (xs : List ℕ) → list_any f xs ≡ list_any g xs
any_same f g same [] = refl
any_same f g same (x ∷ xs) = ap (λ z. z || list_any f xs) (same x) ∙ ap (λ z. g x || z) (any_same f g same xs)

-- the places that slots hold are those that are given
pub any_given : (cells : List Cell) (slots : List (Option ℕ)) (xs : List ℕ) → AreSlots cells slots
    → list_any (λ place. is_some (byte_given cells place)) xs ≡ list_any (λ place. is_some (get_or slots place None)) xs
any_given cells slots xs are = any_same (λ place. is_some (byte_given cells place)) (λ place. is_some (get_or slots place None)) (λ place. ap is_some (sym (are.bytes place))) xs

-- a test of the places of bytes in a row
places_any : (test : ℕ → Bool) (start : ℕ) (content : List ℕ) → list_any (λ (cell : Cell). test cell.0) (enumerate_from start content) ≡ list_any test (range_with_len start (length content))
places_any test start [] = refl
places_any test start (byte ∷ bytes) = ap (λ z. test start || z) (places_any test (start + 1) bytes)

-- how far bytes in a row reach
pub extent-row : (start : ℕ) (byte : ℕ) (bytes : List ℕ) → extent (enumerate_from start (byte ∷ bytes)) ≡ start + length (byte ∷ bytes)
extent-row start byte [] = omega arith
extent-row start byte (next ∷ bytes) = omega (arith, extent-row (start + 1) next bytes)

row_large : (start : ℕ) (content : List ℕ) → nat_lt most_bytes (extent (enumerate_from start content)) ≡ nat_lt (max most_bytes start) (start + length content)
row_large start [] = grind (arith, nat_tests)
row_large start (byte ∷ bytes) = ap (nat_lt most_bytes) (extent-row start byte bytes) ∙ grind (arith, nat_tests)

-- the first fault, by the tests
pub fault_by : (cells : List Cell) (from address : ℕ) (content : List ℕ) (w t l : Bool) → nat_lt 65536 (address + length content) ≡ w
    → list_any (λ place. is_some (byte_given cells place)) (range_with_len (from + address) (length content)) ≡ t
    → nat_lt most_bytes (extent (enumerate_from (from + address) content)) ≡ l
    → place_fault cells from address content ≡ cond w (Some Wrap) (cond t (Some Twice) (cond l (Some TooLarge) None))
fault_by cells from address content w t l wraps given large =
    let twice : list_any (λ (cell : Cell). is_some (byte_given cells cell.0)) (enumerate_from (from + address) content) ≡ t =
    places_any (λ place. is_some (byte_given cells place)) (from + address) content ∙ given in
    rw (wraps, twice, large) refl

-- the first fault of a record whose addresses don't wrap, by the slots
pub fault_by_slots : (cells : List Cell) (slots : List (Option ℕ)) (from start address : ℕ) (content : List ℕ) (t l : Bool) → AreSlots cells slots
    → address + length content ≤ 65536 → start ≡ from + address
    → list_any (λ place. is_some (get_or slots place None)) (range_with_len start (length content)) ≡ t
    → nat_lt (max most_bytes start) (start + length content) ≡ l
    → place_fault cells from address content ≡ cond t (Some Twice) (cond l (Some TooLarge) None)
fault_by_slots cells slots from start address content t l are fits is free large =
    let wraps : nat_lt 65536 (address + length content) ≡ false = grind (arith, nat_tests) in
    let given : list_any (λ place. is_some (byte_given cells place)) (range_with_len (from + address) (length content)) ≡ t =
    rw (← is) (any_given cells slots (range_with_len start (length content)) are ∙ free) in
    let beyond : nat_lt most_bytes (extent (enumerate_from (from + address) content)) ≡ l =
    rw (← is) (row_large start content ∙ large) in
    fault_by cells from address content false t l wraps given beyond

chosen : (byte : ℕ) (b : Bool) (o p q : Option ℕ) → o ≡ option_or p q → cond b (Some byte) o ≡ option_or (cond b (Some byte) p) q
chosen byte true o p q e = refl
chosen byte false o p q e = e

pub byte_given-append : (xs ys : List Cell) (place : ℕ) → byte_given (xs ++ ys) place ≡ option_or (byte_given xs place) (byte_given ys place)
byte_given-append [] ys place = refl
byte_given-append (x ∷ xs) ys place = chosen x.1 (x.0 == place) _ _ _ (byte_given-append xs ys place)

pub extent-append : (xs ys : List Cell) → extent (xs ++ ys) ≡ max (extent xs) (extent ys)
extent-append [] ys = omega arith
extent-append (x ∷ xs) ys = omega (arith, extent-append xs ys)

-- the places of bytes in a row are below the next
pub fresh : (i start place : ℕ) (content : List ℕ) → start + i ≤ place → byte_given (take i (enumerate_from start content)) place ≡ None
fresh zero start place content above = refl
fresh (suc i) start place [] above = refl
fresh (suc i) start place (byte ∷ bytes) above =
    let other : (start == place) ≡ false = grind (arith, nat_tests) in
    rw other (fresh i (start + 1) place bytes (omega arith))

none_from_false : (o : Option ℕ) → is_some o ≡ false → o ≡ None
none_from_false None h = refl
none_from_false (Some x) h = cc h

-- one byte more
pub AreSlots-push : (cells : List Cell) (place byte : ℕ) (old new : List (Option ℕ)) → AreSlots cells old → byte_given cells place ≡ None
    → length new ≡ max (place + 1) (length old) → get_or new place None ≡ Some byte → ((p : ℕ) → p ≢ place → get_or new p None ≡ get_or old p None)
    → AreSlots (cells ++ (place, byte) ∷ []) new
AreSlots-push cells place byte old new are free size here others = record {
  size = omega (arith, extent-append cells ((place, byte) ∷ []), are.size);
  bytes = λ p. elim (cases_eq p place) [
    | inl same ↦
        let is : (place == p) ≡ true = grind (arith, nat_tests) in
        ap (λ z. get_or new z None) same ∙ here ∙ sym (rw (byte_given-append cells ((place, byte) ∷ []) p, ap (byte_given cells) same ∙ free, is) refl)
    | inr differ ↦
        let is : (place == p) ≡ false = grind (arith, nat_tests) in
        others p differ ∙ are.bytes p ∙ sym (byte_given-append cells ((place, byte) ∷ []) p ∙ rw is (kept (byte_given cells p)))
  ];
}
  where
    kept : (o : Option ℕ) → option_or o None ≡ o
    kept None = refl
    kept (Some x) = refl

-- one byte more of a record
pub put_more : (cells : List Cell) (old new : List (Option ℕ)) (start i byte : ℕ) (content : List ℕ) → i < length content → byte ≡ get_or content i 0
    → list_any (λ place. is_some (byte_given cells place)) (range_with_len start (length content)) ≡ false
    → AreSlots (cells ++ take i (enumerate_from start content)) old
    → length new ≡ max (start + i + 1) (length old) → get_or new (start + i) None ≡ Some byte → ((p : ℕ) → p ≢ start + i → get_or new p None ≡ get_or old p None)
    → AreSlots (cells ++ take (i + 1) (enumerate_from start content)) new
put_more cells old new start i byte content below is none are size here others =
    let front = take i (enumerate_from start content) in
    let inside : i < length (enumerate_from start content) = omega (arith, length-enumerate_from start content) in
    let cell : get_or (enumerate_from start content) i (0, 0) ≡ (start + i, byte) = get_or-enumerate_from start content i (0, 0) below ∙ ap (λ z. (start + i, z)) (sym is) in
    let more : take (i + 1) (enumerate_from start content) ≡ front ++ (start + i, byte) ∷ [] = take_more (enumerate_from start content) i (0, 0) inside ∙ ap (λ z. front ++ z ∷ []) cell in
    let first : byte_given cells (start + i) ≡ None = none_from_false _ (none_at (λ place. is_some (byte_given cells place)) start (length content) i below none) in
    let free : byte_given (cells ++ front) (start + i) ≡ None = byte_given-append cells front (start + i) ∙ rw (first, fresh i start (start + i) content (omega arith)) refl in
    rw (ap (λ z. cells ++ z) more ∙ sym (append_assoc cells front ((start + i, byte) ∷ []))) (AreSlots-push (cells ++ front) (start + i) byte old new are free size here others)

-- all bytes of a record
pub put_all : (cells : List Cell) (slots : List (Option ℕ)) (start i : ℕ) (content : List ℕ) → length content ≤ i
    → AreSlots (cells ++ take i (enumerate_from start content)) slots → AreSlots (cells ++ enumerate_from start content) slots
put_all cells slots start i content all are =
    rw (take_all i (enumerate_from start content) (omega (arith, length-enumerate_from start content))) at are
