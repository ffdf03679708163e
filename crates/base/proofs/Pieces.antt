-- A list with n of its items from index i on replaced by others.
use Rattle.std.proofs.Common.{◌≡◌, ℕ, ◌+◌, ◌-◌, ◌<◌, ◌≤◌, List, ◌++◌, length, get_or, take, drop, arith, rules, sym, ap, ap₂, ◌∙◌}
use Rattle.std.proofs.lemmas.List.{places, take-append-le, take-take, length-append, append_assoc, drop_at, take_at, length-take-le, length-take, length-drop, get_or-take, get_or-drop}
use Rattle.std.proofs.lemmas.Grind.{same_number_lists}

pub length-replaced : (i n : ℕ) (m new : List ℕ) → length new ≡ n → i + n ≤ length m → length (take i m ++ new ++ drop (i + n) m) ≡ length m
length-replaced i n m new fits inside = search (rules, places)

pub replaced_in : (i n k : ℕ) (m new : List ℕ) → length new ≡ n → i + n ≤ length m → i ≤ k → k < i + n → get_or (take i m ++ new ++ drop (i + n) m) k 0 ≡ get_or new (k - i) 0
replaced_in i n k m new fits inside from to = grind (arith, places)

pub replaced_below : (i n k : ℕ) (m new : List ℕ) → length new ≡ n → i + n ≤ length m → k < i → get_or (take i m ++ new ++ drop (i + n) m) k 0 ≡ get_or m k 0
replaced_below i n k m new fits inside below = grind (arith, places)

pub replaced_above : (i n k : ℕ) (m new : List ℕ) → length new ≡ n → i + n ≤ length m → i + n ≤ k → get_or (take i m ++ new ++ drop (i + n) m) k 0 ≡ get_or m k 0
replaced_above i n k m new fits inside above = grind (arith, places)

-- the items themselves, from the index where they were put
pub part_replaced : (i n : ℕ) (m new : List ℕ) → length new ≡ n → i + n ≤ length m → take n (drop i (take i m ++ new ++ drop (i + n) m)) ≡ new
part_replaced i n m new fits inside =
    rw (append_assoc (take i m) new (drop (i + n) m), drop_at (take i m) (new ++ drop (i + n) m) i (length-take-le i m (omega arith))) (take_at new (drop (i + n) m) n fits)

-- two lists that agree on n items from index i on have the same part there
pub same_part : (i n : ℕ) (m m' : List ℕ) → length m ≡ length m' → ((k : ℕ) → i ≤ k → k < i + n → get_or m k 0 ≡ get_or m' k 0) → take n (drop i m) ≡ take n (drop i m')
same_part i n m m' lengths agree =
    same_number_lists _ _ (simp (length-take, length-drop, lengths)) (λ k within.
    let below : k < n = omega (arith, length-take n (drop i m)) in
    get_or-take n (drop i m) k 0 below ∙ get_or-drop i m k 0 ∙ agree (i + k) (omega arith) (omega arith) ∙ sym (get_or-take n (drop i m') k 0 below ∙ get_or-drop i m' k 0))

pub part_item : (i n k : ℕ) (m : List ℕ) → k < n → get_or (take n (drop i m)) k 0 ≡ get_or m (i + k) 0
part_item i n k m below = get_or-take n (drop i m) k 0 below ∙ get_or-drop i m k 0

pub length-part : (i n : ℕ) (m : List ℕ) → i + n ≤ length m → length (take n (drop i m)) ≡ n
length-part i n m inside = length-take-le n (drop i m) (omega (arith, length-drop i m))

-- the items in front of the place
pub front_replaced : (i k : ℕ) (m new rest : List ℕ) → i ≤ length m → k ≤ i → take k (take i m ++ new ++ rest) ≡ take k m
front_replaced i k m new rest inside in_front =
    ap (take k) (append_assoc (take i m) new rest) ∙ take-append-le k (take i m) (new ++ rest) (omega (arith, length-take-le i m inside)) ∙ take-take k i m in_front

-- the same items replaced a second time
pub replaced_twice : (i n : ℕ) (m new newer : List ℕ) → length new ≡ n → i + n ≤ length m
    → (let once = take i m ++ new ++ drop (i + n) m in take i once ++ newer ++ drop (i + n) once ≡ take i m ++ newer ++ drop (i + n) m)
replaced_twice i n m new newer fits inside =
    let back : drop (i + n) (take i m ++ new ++ drop (i + n) m) ≡ drop (i + n) m =
    drop_at (take i m ++ new) (drop (i + n) m) (i + n) (length-append (take i m) new ∙ ap₂ (λ x y. x + y) (length-take-le i m (omega arith)) fits) in
    ap₂ (λ x y. x ++ newer ++ y) (front_replaced i i m new (drop (i + n) m) (omega arith) (omega arith)) back
