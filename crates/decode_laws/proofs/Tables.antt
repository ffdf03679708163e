-- A claim about each number below a bound, by computing it at all of them.
use Rattle.std.proofs.Common.{◌≡◌, sym, ℕ, zero, suc, ◌+◌, ◌*◌, ◌<◌, Bool, true, cond, ◌&&◌, List, [], ◌∷◌, Option, Some, None, IsTrue, ◌⊎◌, inl, inr, arith}
use Rattle.std.proofs.lemmas.Bool.{and_parts}
use Rattle.avr_isa.specs.declared.form.Form.{Form}
use Rattle.avr_isa.specs.Instruction.{fields_in_range, is_valid}
use Rattle.avr_isa.specs.Encoding.{first_word}
use Rattle.avr_decode.specs.Decoding.{the_form}
use Rattle.decode_laws.proofs.Bounds.{Among, fields_fit}

-- the values of a function at the numbers below a bound
abbrev pub table : {A : Type 0} → ℕ → (ℕ → A) → List A
table zero f = []
table (suc n) f = f n ∷ table n f

last_or_below : (i n : ℕ) → i < suc n → (i ≡ n) ⊎ (i < n)
last_or_below i n h = grind arith

-- two functions with one table agree below its bound
pub table-same : {A : Type 0} (n : ℕ) (f g : ℕ → A) → table n f ≡ table n g → (i : ℕ) → i < n → f i ≡ g i
table-same zero f g e i h = absurd (omega arith)
table-same (suc n) f g e i h =
    let at_last : f n ≡ g n = cc in
    let before : table n f ≡ table n g = cc in
    elim (last_or_below i n h) as (λ _. f i ≡ g i) [ inl here ↦ rw here at_last | inr below ↦ table-same n f g before i below ]

-- a test holds of each number below a bound
abbrev pub below : (ℕ → Bool) → ℕ → Bool
below p zero = true
below p (suc n) = p n && below p n

pub below-at : (p : ℕ → Bool) (n : ℕ) → below p n ≡ true → (i : ℕ) → i < n → p i ≡ true
below-at p zero h i bound = absurd (omega arith)
below-at p (suc n) h i bound =
    let halves : (p n ≡ true) × (below p n ≡ true) = and_parts (p n) (below p n) h in
    elim (last_or_below i n bound) as (λ _. p i ≡ true) [ inl here ↦ rw here halves.0 | inr less ↦ below-at p n halves.1 i less ]

-- what the first word of a valid form of one operand means, and the form
abbrev pub meaning : (ℕ → Form) → ℕ → ℕ → Option Form
meaning form w a = cond (is_valid (form a)) (the_form (first_word (form a)) w) None

abbrev pub itself : (ℕ → Form) → ℕ → Option Form
itself form a = cond (is_valid (form a)) (Some (form a)) None

-- one operand
pub by_one : (n : ℕ) (form : ℕ → Form) (w : ℕ) → table n (meaning form w) ≡ table n (itself form) → (a : ℕ) → (IsTrue (fields_in_range (form a)) → a < n) → IsTrue (is_valid (form a))
    → the_form (first_word (form a)) w ≡ Some (form a)
by_one n form w same a bound valid =
    let at : meaning form w a ≡ itself form a = table-same n (meaning form w) (itself form) same a (bound (fields_fit (form a) valid)) in
    rw valid at at

-- two operands
pub by_two : (n m : ℕ) (form : ℕ → ℕ → Form) (w : ℕ) → table n (λ a. table m (meaning (form a) w)) ≡ table n (λ a. table m (itself (form a))) → (a b : ℕ)
    → (IsTrue (fields_in_range (form a b)) → (a < n) × (b < m)) → IsTrue (is_valid (form a b)) → the_form (first_word (form a b)) w ≡ Some (form a b)
by_two n m form w same a b bounds valid =
    let within : (a < n) × (b < m) = bounds (fields_fit (form a b) valid) in
    by_one m (form a) w (table-same n (λ a. table m (meaning (form a) w)) (λ a. table m (itself (form a))) same a within.0) b (λ fits. within.1) valid

-- two operands, each among numbers that are computed from their places
pub by_places : (low step n from by m : ℕ) (form : ℕ → ℕ → Form) (w : ℕ)
    → table n (λ i. table m (meaning (λ j. form (low + step * i) (from + by * j)) w)) ≡ table n (λ i. table m (itself (λ j. form (low + step * i) (from + by * j))))
    → (a b : ℕ) → Among low step n a × Among from by m b → IsTrue (is_valid (form a b)) → the_form (first_word (form a b)) w ≡ Some (form a b)
by_places low step n from by m form w same a b ((i, below, is), (j, under, also)) valid =
    let fits = rw (sym is, sym also) at valid in
    rw (sym is, sym also) (by_two n m (λ i j. form (low + step * i) (from + by * j)) w same i j (λ fits. (below, under)) fits)
