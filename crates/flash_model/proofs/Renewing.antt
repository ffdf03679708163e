-- What is decoded follows the words: an address that is decoded again or forgotten, and what a page leaves that changed.
use Rattle.std.proofs.Common.{◌≡◌, ℕ, ◌+◌, ◌-◌, ◌*◌, ◌%◌, ◌<◌, ◌≤◌, ◌⊎◌, List, ◌++◌, length, get_or, take, drop, arith, rules, refl, ◌∙◌, sym, ap, ap₂, subst, inl, inr}
use Rattle.std.specs.Prelude.{◌≢◌, replicate, slice_set, slice_index, slice_index_or}
use Rattle.std.proofs.lemmas.List.{places, length-take-le, get_or-take, length-set, get_or-set_same, get_or-set_other, length-replicate, get_or-replicate, take-replicate}
use Rattle.std.proofs.lemmas.Bool.{cases_lt, cases_eq}
use Rattle.flash_model.specs.declared.micro_ops.MicroOp.{MicroOp}
use Rattle.flash_model.specs.declared.micro_ops.MicroOp.TheVariants.{Undecoded}
use Rattle.flash_model.specs.MicroOps.{CanStandFor}
use Rattle.flash_model.proofs.UndecodedLaws.{stands_for_any}
use Rattle.flash_model.specs.declared.decoded.Decoded.{Decoded}
use Rattle.flash_model.specs.declared.decode_cache.DecodeCache.{DecodeCache}
use Rattle.flash_words.specs.Pages.{word_count, page_count, page_words, word_at, page_of, set_page}
use Rattle.flash_model.specs.Code.{behind, decoded_of, decoded_at}
use Rattle.flash_model.specs.DecodeCache.{HasDecoded, HasMicroOp, StandsAt, IsOutside, IsCache, IsCacheBeside, AreDecoded, AreDecodedOutside, AreDecodedBeside, AreMicroOps, AreMicroOpsOutside}
use Rattle.flash_model.specs.DecodeCache.{AreMicroOpsBeside, StandForPage}
use Rattle.flash_words.proofs.PageLaws.{word_in_page, word_out_of_page, page_word}

-- What is decoded at the first addresses. ---------------------------------------------------------

-- an address that is decoded again, and each other, which stays
decoded_here : (words : List ℕ) (old : List Decoded) (a : ℕ) → a < length old → HasDecoded words (slice_set old a (decoded_at words a)) a
decoded_here words old a inside d = get_or-set_same old a (decoded_at words a) d inside

decoded_else : (words : List ℕ) (old : List Decoded) (a b : ℕ) → b ≢ a → HasDecoded words old b → HasDecoded words (slice_set old a (decoded_at words a)) b
decoded_else words old a b apart has d = get_or-set_other old a b (decoded_at words a) d apart ∙ has d

-- the next address of a range
pub decoded_step : (words : List ℕ) (old new : List Decoded) (a to : ℕ) → a < length old → new ≡ slice_set old a (decoded_at words a) → AreDecodedOutside words old a to
    → AreDecodedOutside words new (a + 1) to
decoded_step words old new a to inside is h =
    let size = length-set old a (decoded_at words a) in
    rw is (record {
      sized = omega (arith, size, h.sized);
      each = λ b within out. elim (cases_eq b a) [
        | inl same ↦ rw same (decoded_here words old a inside)
        | inr apart ↦ decoded_else words old a b apart (h.each b (omega (arith, size, within)) (elim out [ inl below ↦ inl (omega arith) | inr above ↦ inr above ]))
      ];
    })

-- a range that is done
pub decoded_all : (words : List ℕ) (decoded : List Decoded) (from to : ℕ) → to ≤ from → AreDecodedOutside words decoded from to → AreDecoded words decoded
decoded_all words decoded from to done h = record {
  sized = h.sized;
  each = λ a within. h.each a within (elim (cases_lt a from) [ inl below ↦ inl below | inr above ↦ inr (omega arith) ]);
}

-- a range that has all of them
pub decoded_none : (words : List ℕ) (decoded : List Decoded) (count : ℕ) → length decoded ≡ count → count < word_count → AreDecodedOutside words decoded 0 count
decoded_none words decoded count size few = record { sized = omega arith; each = λ a within out. absurd (omega arith) }

-- the addresses that read a range of words, from the one before on
pub decoded_before : (words : List ℕ) (decoded : List Decoded) (from to first last : ℕ) → AreDecodedBeside words decoded from to
    → ((a : ℕ) → a < length decoded → IsOutside a first last → (a + 1 < from) ⊎ (to ≤ a)) → AreDecodedOutside words decoded first last
decoded_before words decoded from to first last h out = record {
  sized = h.sized;
  each = λ b within outside. elim (out b within outside) [
    | inl below ↦ h.each b within (inl (omega arith)) (inl (omega (arith, h.sized)))
    | inr above ↦ h.each b within (inr above) (inr (omega (arith, h.sized)))
  ];
}

-- a range of words that none of them reads
pub decoded_above : (words : List ℕ) (decoded : List Decoded) (from to : ℕ) → length decoded < from → AreDecodedBeside words decoded from to → AreDecoded words decoded
decoded_above words decoded from to above h = record { sized = h.sized; each = λ a within. h.each a within (inl (omega arith)) (inl (omega (arith, h.sized))) }

-- Micro-operations. -------------------------------------------------------------------------------

-- an address whose micro-operation may stand there, and each other, which stays
micro_op_here : (words : List ℕ) (old : List MicroOp) (a : ℕ) (op : MicroOp) → a < length old → StandsAt words a op → HasMicroOp words (slice_set old a op) a
micro_op_here words old a op inside stands d = rw (get_or-set_same old a op d inside) stands

micro_op_else : (words : List ℕ) (old : List MicroOp) (a b : ℕ) (op : MicroOp) → b ≢ a → HasMicroOp words old b → HasMicroOp words (slice_set old a op) b
micro_op_else words old a b op apart has d = rw (get_or-set_other old a b op d apart) (has d)

-- one that is kept
pub micro_op_set : (words : List ℕ) (old : List MicroOp) (a : ℕ) (op : MicroOp) → a < word_count → StandsAt words a op → AreMicroOps words old → AreMicroOps words (slice_set old a op)
micro_op_set words old a op few stands h = record {
  sized = length-set old a op ∙ h.sized;
  each = λ b within. elim (cases_eq b a) [
    | inl same ↦ rw same (micro_op_here words old a op (omega (arith, h.sized)) stands)
    | inr apart ↦ micro_op_else words old a b op apart (h.each b within)
  ];
}

-- none anywhere
pub no_micro_op : (words : List ℕ) (micro_ops : List MicroOp) → length micro_ops ≡ word_count → ((a : ℕ) (op : MicroOp) → a < word_count → slice_index_or micro_ops a op ≡ Undecoded)
    → AreMicroOps words micro_ops
no_micro_op words micro_ops sized none = record { sized = sized; each = λ a within op. rw (none a op within) (stands_for_any _ _) }

-- a list with n of its items from place i on replaced by others
module _ (i n : ℕ) (m new : List MicroOp) (fits : length new ≡ n) (inside : i + n ≤ length m) where
  put_in : (k : ℕ) (d : MicroOp) → i ≤ k → k < i + n → get_or (take i m ++ new ++ drop (i + n) m) k d ≡ get_or new (k - i) d
  put_in k d from to = grind (arith, places)

  put_below : (k : ℕ) (d : MicroOp) → k < i → get_or (take i m ++ new ++ drop (i + n) m) k d ≡ get_or m k d
  put_below k d below = grind (arith, places)

  put_above : (k : ℕ) (d : MicroOp) → i + n ≤ k → get_or (take i m ++ new ++ drop (i + n) m) k d ≡ get_or m k d
  put_above k d above = grind (arith, places)

  length-put : length (take i m ++ new ++ drop (i + n) m) ≡ length m
  length-put = search (rules, places)

-- a range that gets other micro-operations, which may stand there
put_range : (words : List ℕ) (old new : List MicroOp) (from : ℕ) → from + length new ≤ word_count → ((i : ℕ) (op : MicroOp) → i < length new → StandsAt words (from + i) (slice_index_or new i op))
    → AreMicroOpsOutside words old from (from + length new) → AreMicroOps words (take from old ++ new ++ drop (from + length new) old)
put_range words old new from end stand h =
    let n = length new in
    let inside : from + n ≤ length old = omega (arith, h.sized) in
    record {
      sized = length-put from n old new refl inside ∙ h.sized;
      each = λ a within op. elim (cases_lt a from) [
        | inl below ↦ rw (put_below from n old new refl inside a op below) (h.each a within (inl below) op)
        | inr start ↦ elim (cases_lt a (from + n)) [
          | inl before ↦
              let place : from + (a - from) ≡ a = omega arith in
              rw (put_in from n old new refl inside a op start before) (subst (λ (b : ℕ). StandsAt words b (slice_index_or new (a - from) op)) place (stand (a - from) op (omega arith)))
          | inr above ↦ rw (put_above from n old new refl inside a op above) (h.each a within (inr above) op)
        ]
      ];
    }

-- those of a page's words but the last
pub told_words : (words : List ℕ) (old told new : List MicroOp) (first : ℕ) → length told ≡ page_words → first + page_words ≤ word_count
    → ((i : ℕ) (op : MicroOp) → i + 1 < page_words → StandsAt words (first + i) (slice_index_or told i op))
    → new ≡ take first old ++ take 127 told ++ drop (first + length (take 127 told)) old → AreMicroOps words old → AreMicroOps words new
told_words words old told new first size end stand is h =
    let count : length (take 127 told) ≡ 127 = length-take-le 127 told (omega (arith, size)) in
    rw is (put_range words old (take 127 told) first (omega (arith, count)) (λ i op near. rw (get_or-take 127 told i op (omega arith)) (stand i op (omega arith)))
    (record { sized = h.sized; each = λ a within out. h.each a within }))

-- a range in whose place as many of none are put
pub none_put : (items none : List MicroOp) (from to : ℕ) → from ≤ to → to ≤ from + page_words → none ≡ take (to - from) (replicate page_words Undecoded)
    → take from items ++ none ++ drop (from + length none) items ≡ take from items ++ replicate (to - from) Undecoded ++ drop to items
none_put items none from to order few is =
    let same : none ≡ replicate (to - from) Undecoded = is ∙ take-replicate (to - from) page_words Undecoded (omega arith) in
    let count : length none ≡ to - from = ap length same ∙ length-replicate (to - from) Undecoded in
    let behind : from + length none ≡ to = omega arith in
    ap₂ (λ n k. take from items ++ n ++ drop k items) same behind

pub forgotten_range : (words : List ℕ) (old new : List MicroOp) (from to : ℕ) → from ≤ to → to ≤ word_count → new ≡ take from old ++ replicate (to - from) Undecoded ++ drop to old
    → AreMicroOpsOutside words old from to → AreMicroOps words new
forgotten_range words old new from to order end is h =
    let none = replicate (to - from) Undecoded in
    let count = length-replicate (to - from) Undecoded in
    let there : from + length none ≡ to = omega (arith, count) in
    let all = subst (AreMicroOpsOutside words old from) (sym there) h in
    let forgotten = put_range words old none from (omega (arith, there)) (λ i op below. rw (get_or-replicate (to - from) i Undecoded op (omega (arith, count))) (stands_for_any _ _)) all in
    rw is (subst (λ b. AreMicroOps words (take from old ++ none ++ drop b old)) there forgotten)

-- a word address outside of a range whose first word isn't the one behind it
not_behind : (a before from to : ℕ) → a < word_count → from < word_count → before ≡ (from + 65536 - 1) % 65536 → a ≢ before → IsOutside a from to → to ≤ word_count
    → IsOutside (behind a) from to
not_behind a before from to within start is apart out end = elim (cases_lt (behind a) from) [
  | inl below ↦ inl below
  | inr above ↦ elim (cases_lt (behind a) to) [ inl inside ↦ absurd (apart (omega arith)) | inr higher ↦ inr higher ]
]

-- the address before a range, whose second word is the range's first
pub forgotten_before : (words : List ℕ) (old new : List MicroOp) (from to before : ℕ) → AreMicroOpsBeside words old from to → new ≡ slice_set old before Undecoded → from < word_count → to ≤ word_count
    → before ≡ (from + 65536 - 1) % 65536 → AreMicroOpsOutside words new from to
forgotten_before words old new from to before h is start end place = rw is (record {
  sized = length-set old before Undecoded ∙ h.sized;
  each = λ a within out. elim (cases_eq a before) [
    | inl same ↦ rw same (micro_op_here words old before Undecoded (omega (arith, h.sized)) (stands_for_any _ _))
    | inr apart ↦ micro_op_else words old before a Undecoded apart (h.each a within out (not_behind a before from to within start place apart out end))
  ];
})

-- Both. -------------------------------------------------------------------------------------------

-- words that are the same outside of a range leave what is decoded of others
pub cache_beside : (words words' : List ℕ) (cache : DecodeCache) (from to : ℕ) → IsCache words cache → ((a : ℕ) → IsOutside a from to → word_at words a ≡ word_at words' a)
    → IsCacheBeside words' cache from to
cache_beside words words' cache from to h same = record {
  decoded = record {
    sized = h.decoded.sized;
    each = λ a within out out' d. h.decoded.each a within d ∙ ap₂ decoded_of (same a out) (same (behind a) out');
  };
  micro_ops = record {
    sized = h.micro_ops.sized;
    each = λ a within out out' op. subst (λ (d : Decoded). CanStandFor (slice_index_or cache.micro_ops.items a op) d.instr d.next_size) (ap₂ decoded_of (same a out) (same (behind a) out'))
        (h.micro_ops.each a within op);
  };
}

-- an erased page
pub erased_beside : (words new : List ℕ) (cache : DecodeCache) (page : ℕ) → IsCache words cache → length words ≡ word_count → page < page_count → length new ≡ page_words
    → IsCacheBeside (set_page words page new) cache (page_words * page) (page_words * page + page_words)
erased_beside words new cache page h size few long =
    let inside : page_words * page + page_words ≤ length words = omega (arith, size) in
    cache_beside words (set_page words page new) cache (page_words * page) (page_words * page + page_words) h (λ a out. sym (word_out_of_page words new page a long inside out))

-- a page with its words, whose micro-operations are told
pub told_page : (words new : List ℕ) (micro_ops : List MicroOp) (page : ℕ) → length words ≡ word_count → page < page_count → length new ≡ page_words → StandForPage new micro_ops
    → (i : ℕ) (op : MicroOp) → i + 1 < page_words → StandsAt (set_page words page new) (page_words * page + i) (slice_index_or micro_ops i op)
told_page words new micro_ops page size few long stand i op near =
    let first = page_words * page in
    let next : behind (first + i) ≡ first + (i + 1) = omega arith in
    let word = λ (k : ℕ) (below : k < page_words). word_in_page words new page (first + k) long (omega (arith, size)) (omega arith) (omega arith)
    ∙ ap (word_at new) (let place : first + k - first ≡ k = omega arith in place) in
    let one : word_at (set_page words page new) (first + i) ≡ word_at new i = word i (omega arith) in
    let two : word_at (set_page words page new) (behind (first + i)) ≡ word_at new (i + 1) = rw next (word (i + 1) near) in
    subst (λ (d : Decoded). CanStandFor (slice_index_or micro_ops i op) d.instr d.next_size) (ap₂ decoded_of (sym one) (sym two)) (stand i op near)

-- a word of a page that is the same in the words that the page gets
word_kept : (words new : List ℕ) (page a : ℕ) → length new ≡ page_words → page_words * page + page_words ≤ length words → page_words * page ≤ a → a < page_words * page + page_words
    → slice_index (page_of words page) (a - page_words * page) ≡ slice_index new (a - page_words * page) → word_at words a ≡ word_at (set_page words page new) a
word_kept words new page a long inside above below same =
    let k = a - page_words * page in
    let there : page_words * page + k ≡ a = omega arith in
    ap (word_at words) (sym there) ∙ sym (page_word words page k (omega arith)) ∙ same ∙ sym (word_in_page words new page a long inside above below)

-- a page that gets words which outside of a range are its own
pub rewritten_beside : (words new : List ℕ) (cache : DecodeCache) (page from to : ℕ) → IsCache words cache → length words ≡ word_count → page < page_count → length new ≡ page_words → to ≤ page_words
    → ((k : ℕ) → k < from → slice_index (page_of words page) k ≡ slice_index new k)
    → ((k : ℕ) → to ≤ k → k < page_words → slice_index (page_of words page) k ≡ slice_index new k)
    → IsCacheBeside (set_page words page new) cache (page_words * page + from) (page_words * page + to)
rewritten_beside words new cache page from to h size few long within before behind =
    let first = page_words * page in
    let inside : first + page_words ≤ length words = omega (arith, size) in
    cache_beside words (set_page words page new) cache (first + from) (first + to) h (λ a out. elim (cases_lt a first) [
      | inl below ↦ sym (word_out_of_page words new page a long inside (inl below))
      | inr start ↦ elim (cases_lt a (first + page_words)) [
        | inl there ↦ word_kept words new page a long inside start there (elim out [ inl lower ↦ before (a - first) (omega arith) | inr higher ↦ behind (a - first) (omega arith) (omega arith) ])
        | inr above ↦ sym (word_out_of_page words new page a long inside (inr above))
      ]
    ])

-- what stays as it was
pub micro_ops_stay : (words : List ℕ) (old new : List MicroOp) → new ≡ old → AreMicroOps words old → AreMicroOps words new
micro_ops_stay words old new is h = rw is h
