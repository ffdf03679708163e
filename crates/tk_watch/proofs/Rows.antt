-- Texts with a part for each number, some of which were gathered.
use Rattle.std.proofs.Common.{◌≡◌, ℕ, zero, suc, ◌+◌, ◌-◌, ◌<◌, List, [], ◌++◌, refl, sym, ap, ap₂, ◌∙◌, append_assoc, arith}
use Rattle.std.specs.Prelude.{Option}
use Rattle.std.proofs.lemmas.List.{append-nil}
use Rattle.byte_streams.specs.Streams.{CutShort, IsSent}
use Rattle.byte_streams.proofs.KnownBytes.{nothing_sent}
use Rattle.printed_text.proofs.Gathered.{sent_on, cut_on, cut_less}
use Rattle.tk_watch.specs.Rows.{rows}

pub rows_begin : (row : ℕ → List ℕ) (gathered : List ℕ) (known : Option (List ℕ)) → IsSent (gathered ++ rows row 0) gathered known known
unfolding rows
rows_begin row gathered known = rw (append-nil gathered) (nothing_sent gathered known)

pub rows_on : (row : ℕ → List ℕ) (a m : ℕ) → m ≡ suc a → rows row m ≡ rows row a ++ row a
unfolding rows
rows_on row a m is = ap (rows row) is

-- behind some front, one more
one_more : (row : ℕ → List ℕ) (front : List ℕ) (at : ℕ) → (front ++ rows row at) ++ row at ≡ front ++ rows row (at + 1)
one_more row front at = append_assoc front (rows row at) (row at) ∙ ap (λ z. front ++ z) (sym (rows_on row at (at + 1) (omega arith)))

pub rows_next : {gathered left : List ℕ} {before after later : Option (List ℕ)} (row : ℕ → List ℕ) (front : List ℕ) (at : ℕ) → IsSent (front ++ rows row at) gathered before after
    → IsSent (gathered ++ row at) left after later → IsSent (front ++ rows row (at + 1)) left before later
rows_next {gathered} {left} {before} {after} {later} row front at first second = rw (one_more row front at) at (sent_on (front ++ rows row at) gathered (row at) left before after later first second)

-- those of more numbers begin with those of fewer
rows_front : (row : ℕ → List ℕ) (a k m : ℕ) → m ≡ k + a → (rest : List ℕ) × (rows row m ≡ rows row a ++ rest)
rows_front row a zero m is = ([], let same : m ≡ a = omega (arith, is) in ap (rows row) same ∙ sym (append-nil (rows row a)))
rows_front row a (suc k) m is =
    let earlier = rows_front row a k (k + a) refl in
    (earlier.0 ++ row (k + a), rows_on row (k + a) m (omega (arith, is)) ∙ ap (λ z. z ++ row (k + a)) earlier.1 ∙ append_assoc (rows row a) earlier.0 (row (k + a)))

-- one was cut short, and with it all
pub rows_cut : {gathered : List ℕ} {before after : Option (List ℕ)} (row : ℕ → List ℕ) (front : List ℕ) (at all : ℕ) (later : Option (List ℕ)) → at < all
    → IsSent (front ++ rows row at) gathered before after → CutShort after later (gathered ++ row at) → CutShort before later (front ++ rows row all)
rows_cut {gathered} {before} {after} row front at all later below first cut =
    let rest = rows_front row (at + 1) (all - (at + 1)) all (omega (arith, below)) in
    let shorter = rw (one_more row front at) at (cut_on (front ++ rows row at) gathered (row at) before after later first cut) in
    let whole : (front ++ rows row (at + 1)) ++ rest.0 ≡ front ++ rows row all = append_assoc front (rows row (at + 1)) rest.0 ∙ ap (λ z. front ++ z) (sym rest.1) in
    rw whole at (cut_less before later (front ++ rows row (at + 1)) rest.0 shorter)

-- equal parts
pub rows_same : (row other : ℕ → List ℕ) (n : ℕ) → ((a : ℕ) → a < n → row a ≡ other a) → rows row n ≡ rows other n
unfolding rows
rows_same row other zero same = refl
rows_same row other (suc n) same = ap₂ (λ a b. a ++ b) (rows_same row other n (λ a below. same a (omega arith))) (same n (omega arith))

-- A text behind some front, part by part. -----------------------------------------------------------------------

pub row_begins : (row : ℕ → List ℕ) (front text : List ℕ) → text ≡ front → text ≡ front ++ rows row 0
unfolding rows
row_begins row front text is = is ∙ sym (append-nil front)

pub row_goes_on : (row : ℕ → List ℕ) (i : ℕ) (front before after piece : List ℕ) → before ≡ front ++ rows row i → after ≡ before ++ piece → piece ≡ row i → after ≡ front ++ rows row (i + 1)
row_goes_on row i front before after piece was is same =
    is ∙ ap₂ (λ a b. a ++ b) was same ∙ one_more row front i
