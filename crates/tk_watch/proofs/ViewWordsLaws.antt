-- Words ask for one thing, or for nothing.
use Rattle.std.proofs.Common.{◌≡◌, ℕ, ◌<◌, ◌≤◌, List, [], ◌∷◌, ◌++◌, length, map, String, Global, string_bytes, codes, refl, sym, ap, ap₂, ◌∙◌, subst, arith, Bor, inl, inr}
use Rattle.std.specs.Prelude.{Option, Some, None, MatchOption}
use Rattle.std.specs.Str.Parse.{digits_value}
use Rattle.input_script.specs.Grammar.{number_of}
use Rattle.tk_watch.specs.ViewWords.{BeginWith, HasNoAddress, IsAddress, AskForAccesses, AskForBytes, AskForChanges, AskWithWords, AskForTrace, AskForVisits}
use Rattle.tk_watch.specs.Words.{AskForView, view_in, views}
use Rattle.tk_watch.specs.declared.view.View.{View}
use Rattle.tk_watch.specs.declared.view.View.TheVariants.{Visits, Changes, Trace, Accesses}
use Rattle.arrayvec.specs.ArrayVec.{ArrayVec}

pub one_number : (word : List ℕ) (a b : ℕ) → number_of word ≡ Some a → number_of word ≡ Some b → a ≡ b
one_number word a b first second = let both : Some a ≡ Some b = sym first ∙ second in cc

tail_same : (a b : List ℕ) → codes "0x" ++ a ≡ codes "0x" ++ b → a ≡ b
tail_same a b is = cc

pub one_address : (word : List ℕ) (a b : ℕ) → IsAddress word a → IsAddress word b → a ≡ b
one_address word a b first second =
    first.value_is ∙ ap (digits_value 16) (tail_same first.number second.number (sym first.written ∙ second.written)) ∙ sym second.value_is

-- no trace
pub trace_from : (from rows : List ℕ) (rest behind : List (List ℕ)) (view : View) → number_of from ≡ None → ¬ AskForTrace (from ∷ rows ∷ rest) behind view
trace_from from rows rest behind view none ask = let both : None ≡ Some ask.0 = sym none ∙ ask.2 in absurd (cc)

pub trace_rows : (from rows : List ℕ) (rest behind : List (List ℕ)) (view : View) → number_of rows ≡ None → ¬ AskForTrace (from ∷ rows ∷ rest) behind view
trace_rows from rows rest behind view none ask = let both : None ≡ Some ask.1 = sym none ∙ ask.3 in absurd (cc)

-- no bytes
pub bytes_first : (lowest most : ℕ) (first size : List ℕ) (rest behind : List (List ℕ)) (at count : ℕ) → ((a : ℕ) → ¬ IsAddress first a) → ¬ AskForBytes lowest most (first ∷ size ∷ rest) behind at count
bytes_first lowest most first size rest behind at count none ask = none at ask.0

pub bytes_size : (lowest most : ℕ) (first size : List ℕ) (rest behind : List (List ℕ)) (at count : ℕ) → number_of size ≡ None → ¬ AskForBytes lowest most (first ∷ size ∷ rest) behind at count
bytes_size lowest most first size rest behind at count none ask = let both : None ≡ Some count = sym none ∙ ask.1 in absurd (cc)

-- Addresses in front. -------------------------------------------------------------------------------------------

abbrev pub IsFront : (words : List (List ℕ)) → List ℕ → (rest : List (List ℕ)) → Type 0
IsFront words [] rest = words ≡ rest
IsFront [] (a ∷ more) rest = ⊥
IsFront (word ∷ words) (a ∷ more) rest = IsAddress word a × IsFront words more rest

pub front_on : (words : List (List ℕ)) (places : List ℕ) (w : List ℕ) (later : List (List ℕ)) (a : ℕ) → IsFront words places (w ∷ later) → IsAddress w a → IsFront words (places ++ (a ∷ [])) later
front_on words [] w later a same is = subst (λ ws. IsFront ws (a ∷ []) later) (sym same) (is, refl)
front_on [] (p ∷ more) w later a front is = absurd front
front_on (word ∷ words) (p ∷ more) w later a front is = (front.0, front_on words more w later a front.1 is)

front_begins : (words : List (List ℕ)) (places : List ℕ) (rest : List (List ℕ)) → IsFront words places rest → HasNoAddress rest → BeginWith words places rest
front_begins words [] rest same none = (same, none)
front_begins [] (p ∷ more) rest front none = absurd front
front_begins (word ∷ words) (p ∷ more) rest front none = (front.0, front_begins words more rest front.1 none)

has_none : (word : List ℕ) (words b : List (List ℕ)) (a : ℕ) → (word ∷ words) ≡ b → HasNoAddress b → IsAddress word a → ⊥
has_none word words b a same none is = subst HasNoAddress (sym same) none a is

pub begin_one : (words : List (List ℕ)) (p q : List ℕ) (b c : List (List ℕ)) → BeginWith words p b → BeginWith words q c → (p ≡ q) × (b ≡ c)
begin_one words [] [] b c first second = (refl, sym first.0 ∙ second.0)
begin_one [] [] (a ∷ q) b c first second = absurd second
begin_one (word ∷ words) [] (a ∷ q) b c first second = absurd (has_none word words b a first.0 first.1 second.0)
begin_one [] (a ∷ p) [] b c first second = absurd first
begin_one (word ∷ words) (a ∷ p) [] b c first second = absurd (has_none word words c a second.0 second.1 first.0)
begin_one [] (a ∷ p) (d ∷ q) b c first second = absurd first
begin_one (word ∷ words) (a ∷ p) (d ∷ q) b c first second =
    let more = begin_one words p q b c first.1 second.1 in
    (ap₂ (λ x xs. x ∷ xs) (one_address word a d first.0 second.0) more.0, more.1)

pub front_more : (words : List (List ℕ)) (places : List ℕ) (w : List ℕ) (later : List (List ℕ)) (a : ℕ) (q : List ℕ) (b : List (List ℕ)) → IsFront words places (w ∷ later) → IsAddress w a
    → BeginWith words q b → length places < length q
front_more words [] w later a [] b same is begins = absurd (has_none w later b a (sym same ∙ begins.0) begins.1 is)
front_more words [] w later a (d ∷ q) b same is begins = omega arith
front_more [] (p ∷ more) w later a q b front is begins = absurd front
front_more (word ∷ words) (p ∷ more) w later a [] b front is begins = absurd (has_none word words b p begins.0 begins.1 front.0)
front_more (word ∷ words) (p ∷ more) w later a (d ∷ q) b front is begins = let fewer = front_more words more w later a q b front.1 is begins.1 in omega (arith, fewer)

pub visits_many : (words : List (List ℕ)) (places : List ℕ) (w : List ℕ) (later : List (List ℕ)) (a : ℕ) (behind : List (List ℕ)) (view : View) → IsFront words places (w ∷ later) → IsAddress w a
    → 16 ≤ length places → ¬ AskForVisits words behind view
visits_many words places w later a behind view front is full ask = let fewer = front_more words places w later a ask.0 behind front is ask.1 in absurd (omega (arith, fewer, full, ask.3))

pub no_address : (words : List (List ℕ)) (w : List ℕ) (later : List (List ℕ)) → words ≡ w ∷ later → ((a : ℕ) → ¬ IsAddress w a) → HasNoAddress words
no_address words w later is none = subst HasNoAddress (sym is) none

pub visits_told : (words : List (List ℕ)) (places : ArrayVec ℕ) (rest : List (String Global)) (found : Option (View × Bor (List (String Global)))) → IsFront words places.items (map string_bytes rest)
    → HasNoAddress (map string_bytes rest) → length places.items ≤ 16
    → MatchOption found (length places.items ≡ 0) (λ f. (f.0 ≡ Visits places) × (f.1.now ≡ rest) × (1 ≤ length places.items))
    → MatchOption found ((behind : List (List ℕ)) (view : View) → ¬ AskForVisits words behind view) (λ f. AskForVisits words (map string_bytes f.1.now) f.0)
visits_told words places rest None front none few empty = λ behind view ask.
    let same = begin_one words places.items ask.0 (map string_bytes rest) behind (front_begins words places.items (map string_bytes rest) front none) ask.1 in
    absurd (omega (arith, empty, ap length same.0, ask.2))
visits_told words places rest (Some f) front none few is =
    (places.items, subst (λ r. BeginWith words places.items (map string_bytes r)) (sym is.1) (front_begins words places.items (map string_bytes rest) front none), is.2, few, is.0)

-- Views. ----------------------------------------------------------------------------------------------------------

one_bytes : (lowest most : ℕ) (words b c : List (List ℕ)) (a n d m : ℕ) → AskForBytes lowest most words b a n → AskForBytes lowest most words c d m → (a ≡ d) × (n ≡ m) × (b ≡ c)
one_bytes lowest most [] b c a n d m first second = absurd first
one_bytes lowest most (word ∷ []) b c a n d m first second = absurd first
one_bytes lowest most (word ∷ size ∷ rest) b c a n d m first second =
    (one_address word a d first.0 second.0, one_number size n m first.1 second.1, first.6 ∙ sym second.6)

one_changes : (rest b c : List (List ℕ)) (x y : View) → AskForChanges rest b x → AskForChanges rest c y → (x ≡ y) × (b ≡ c)
one_changes rest b c x y first second =
    let same = one_bytes 0x100 64 rest b c first.0 first.1 second.0 second.1 first.2 second.2 in
    (first.3 ∙ ap₂ Changes same.0 same.1 ∙ sym second.3, same.2)

one_accesses : (rest b c : List (List ℕ)) (x y : View) → AskForAccesses rest b x → AskForAccesses rest c y → (x ≡ y) × (b ≡ c)
one_accesses rest b c x y first second =
    let same = one_bytes 0 65536 rest b c first.0 first.1 second.0 second.1 first.2 second.2 in
    (first.3 ∙ ap₂ Accesses same.0 same.1 ∙ sym second.3, same.2)

one_trace : (rest b c : List (List ℕ)) (x y : View) → AskForTrace rest b x → AskForTrace rest c y → (x ≡ y) × (b ≡ c)
one_trace [] b c x y first second = absurd first
one_trace (word ∷ []) b c x y first second = absurd first
one_trace (word ∷ rows ∷ rest) b c x y first second =
    (first.5 ∙ ap₂ Trace (one_number word first.0 second.0 first.2 second.2) (one_number rows first.1 second.1 first.3 second.3) ∙ sym second.5, first.6 ∙ sym second.6)

-- a view's word is told by its own words alone
only_visits : (word : List ℕ) (rest behind : List (List ℕ)) (view : View) → word ≡ codes "visits" → AskWithWords word rest behind view → AskForVisits rest behind view
only_visits word rest behind view is (inl ask) = ask.1
only_visits word rest behind view is (inr (inl ask)) = let e : codes "visits" ≡ codes "changes" = sym is ∙ ask.0 in absurd (cc)
only_visits word rest behind view is (inr (inr (inl ask))) = let e : codes "visits" ≡ codes "trace" = sym is ∙ ask.0 in absurd (cc)
only_visits word rest behind view is (inr (inr (inr ask))) = let e : codes "visits" ≡ codes "accesses" = sym is ∙ ask.0 in absurd (cc)

only_changes : (word : List ℕ) (rest behind : List (List ℕ)) (view : View) → word ≡ codes "changes" → AskWithWords word rest behind view → AskForChanges rest behind view
only_changes word rest behind view is (inl ask) = let e : codes "changes" ≡ codes "visits" = sym is ∙ ask.0 in absurd (cc)
only_changes word rest behind view is (inr (inl ask)) = ask.1
only_changes word rest behind view is (inr (inr (inl ask))) = let e : codes "changes" ≡ codes "trace" = sym is ∙ ask.0 in absurd (cc)
only_changes word rest behind view is (inr (inr (inr ask))) = let e : codes "changes" ≡ codes "accesses" = sym is ∙ ask.0 in absurd (cc)

only_trace : (word : List ℕ) (rest behind : List (List ℕ)) (view : View) → word ≡ codes "trace" → AskWithWords word rest behind view → AskForTrace rest behind view
only_trace word rest behind view is (inl ask) = let e : codes "trace" ≡ codes "visits" = sym is ∙ ask.0 in absurd (cc)
only_trace word rest behind view is (inr (inl ask)) = let e : codes "trace" ≡ codes "changes" = sym is ∙ ask.0 in absurd (cc)
only_trace word rest behind view is (inr (inr (inl ask))) = ask.1
only_trace word rest behind view is (inr (inr (inr ask))) = let e : codes "trace" ≡ codes "accesses" = sym is ∙ ask.0 in absurd (cc)

only_accesses : (word : List ℕ) (rest behind : List (List ℕ)) (view : View) → word ≡ codes "accesses" → AskWithWords word rest behind view → AskForAccesses rest behind view
only_accesses word rest behind view is (inl ask) = let e : codes "accesses" ≡ codes "visits" = sym is ∙ ask.0 in absurd (cc)
only_accesses word rest behind view is (inr (inl ask)) = let e : codes "accesses" ≡ codes "changes" = sym is ∙ ask.0 in absurd (cc)
only_accesses word rest behind view is (inr (inr (inl ask))) = let e : codes "accesses" ≡ codes "trace" = sym is ∙ ask.0 in absurd (cc)
only_accesses word rest behind view is (inr (inr (inr ask))) = ask.1

one_with_words : (word : List ℕ) (rest b c : List (List ℕ)) (x y : View) → AskWithWords word rest b x → AskWithWords word rest c y → (x ≡ y) × (b ≡ c)
one_with_words word rest b c x y (inl (is, first)) other =
    let second = only_visits word rest c y is other in
    let same = begin_one rest first.0 second.0 b c first.1 second.1 in
    (first.4 ∙ ap (λ p. Visits (record { items = p })) same.0 ∙ sym second.4, same.1)
one_with_words word rest b c x y (inr (inl (is, first))) other = one_changes rest b c x y first (only_changes word rest c y is other)
one_with_words word rest b c x y (inr (inr (inl (is, first)))) other = one_trace rest b c x y first (only_trace word rest c y is other)
one_with_words word rest b c x y (inr (inr (inr (is, first)))) other = one_accesses rest b c x y first (only_accesses word rest c y is other)

plain_with_words : (word : List ℕ) (rest b : List (List ℕ)) (view other : View) → view_in views word ≡ Some view → AskWithWords word rest b other → ⊥
plain_with_words word rest b view other plain (inl steps) = let e = subst (λ w. view_in views w ≡ Some view) steps.0 plain in absurd (cc)
plain_with_words word rest b view other plain (inr (inl steps)) = let e = subst (λ w. view_in views w ≡ Some view) steps.0 plain in absurd (cc)
plain_with_words word rest b view other plain (inr (inr (inl steps))) = let e = subst (λ w. view_in views w ≡ Some view) steps.0 plain in absurd (cc)
plain_with_words word rest b view other plain (inr (inr (inr steps))) = let e = subst (λ w. view_in views w ≡ Some view) steps.0 plain in absurd (cc)

pub one_view : (words b c : List (List ℕ)) (v w : View) → AskForView words b v → AskForView words c w → (v ≡ w) × (b ≡ c)
one_view [] b c v w first second = absurd first
one_view (word ∷ rest) b c v w (inl first) (inl second) = (let e : Some v ≡ Some w = sym first.0 ∙ second.0 in cc, first.1 ∙ sym second.1)
one_view (word ∷ rest) b c v w (inl first) (inr second) = absurd (plain_with_words word rest c v w first.0 second)
one_view (word ∷ rest) b c v w (inr first) (inl second) = absurd (plain_with_words word rest b w v second.0 first)
one_view (word ∷ rest) b c v w (inr first) (inr second) = one_with_words word rest b c v w first second

-- an answer tells whether something is asked for, and what
abbrev pub Tells : (Ask : List (List ℕ) → View → Type 0) → Option (View × Bor (List (String Global))) → Type 0
Tells Ask found = MatchOption found ((behind : List (List ℕ)) (view : View) → ¬ Ask behind view) (λ f. Ask (map string_bytes f.1.now) f.0)

tells_also : (Own Ask : List (List ℕ) → View → Type 0) (found : Option (View × Bor (List (String Global)))) → ((behind : List (List ℕ)) (view : View) → Own behind view → Ask behind view)
    → ((behind : List (List ℕ)) (view : View) → Ask behind view → Own behind view) → Tells Own found → Tells Ask found
tells_also Own Ask None to from none = λ behind view ask. none behind view (from behind view ask)
tells_also Own Ask (Some f) to from ask = to (map string_bytes f.1.now) f.0 ask

-- what each word's own words ask for is what is asked for
pub by_visits : (word : List ℕ) (rest : List (List ℕ)) (found : Option (View × Bor (List (String Global)))) → word ≡ codes "visits" → Tells (AskForVisits rest) found
    → Tells (AskWithWords word rest) found
by_visits word rest found is = tells_also (AskForVisits rest) (AskWithWords word rest) found (λ behind view ask. inl (is, ask)) (λ behind view ask. only_visits word rest behind view is ask)

pub by_changes : (word : List ℕ) (rest : List (List ℕ)) (found : Option (View × Bor (List (String Global)))) → word ≡ codes "changes" → Tells (AskForChanges rest) found
    → Tells (AskWithWords word rest) found
by_changes word rest found is = tells_also (AskForChanges rest) (AskWithWords word rest) found (λ behind view ask. inr (inl (is, ask))) (λ behind view ask. only_changes word rest behind view is ask)

pub by_trace : (word : List ℕ) (rest : List (List ℕ)) (found : Option (View × Bor (List (String Global)))) → word ≡ codes "trace" → Tells (AskForTrace rest) found
    → Tells (AskWithWords word rest) found
by_trace word rest found is = tells_also (AskForTrace rest) (AskWithWords word rest) found (λ behind view ask. inr (inr (inl (is, ask)))) (λ behind view ask. only_trace word rest behind view is ask)

pub by_accesses : (word : List ℕ) (rest : List (List ℕ)) (found : Option (View × Bor (List (String Global)))) → word ≡ codes "accesses" → Tells (AskForAccesses rest) found
    → Tells (AskWithWords word rest) found
by_accesses word rest found is =
    tells_also (AskForAccesses rest) (AskWithWords word rest) found (λ behind view ask. inr (inr (inr (is, ask)))) (λ behind view ask. only_accesses word rest behind view is ask)

no_front : (w : List ℕ) (rest behind : List (List ℕ)) (view : View) → None ≡ view_in views w → ((b : List (List ℕ)) (v : View) → ¬ AskWithWords w rest b v) → ¬ AskForView (w ∷ rest) behind view
no_front w rest behind view plain none (inl ask) = let e : None ≡ Some view = plain ∙ ask.0 in absurd (cc)
no_front w rest behind view plain none (inr ask) = none behind view ask

pub no_view : (words : List (List ℕ)) (w : List ℕ) (rest : List (List ℕ)) → words ≡ w ∷ rest → None ≡ view_in views w → ((b : List (List ℕ)) (v : View) → ¬ AskWithWords w rest b v)
    → (behind : List (List ℕ)) (view : View) → ¬ AskForView words behind view
no_view words w rest cut plain none behind view ask = no_front w rest behind view plain none (subst (λ ws. AskForView ws behind view) cut ask)

pub wordy_view : (words : List (List ℕ)) (w : List ℕ) (rest behind : List (List ℕ)) (view : View) → words ≡ w ∷ rest → AskWithWords w rest behind view → AskForView words behind view
wordy_view words w rest behind view cut ask = subst (λ ws. AskForView ws behind view) (sym cut) (inr ask)

pub plain_view : (words : List (List ℕ)) (w : List ℕ) (rest : List (List ℕ)) (view : View) → words ≡ w ∷ rest → Some view ≡ view_in views w → AskForView words rest view
plain_view words w rest view cut plain = subst (λ ws. AskForView ws rest view) (sym cut) (inl (sym plain, refl))
