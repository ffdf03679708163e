-- What several reads took, one after another, and what several writes added.
use Rattle.std.proofs.Common.{◌≡◌, ℕ, ◌+◌, ◌<◌, ◌≤◌, List, [], ◌++◌, length, take, drop, refl, sym, ◌∙◌, ap, subst, append_assoc, append-nil, length-append, arith, min, Option, None, Some}
use Rattle.std.proofs.lemmas.List.{take-append-drop, take_at, drop-drop, drop_all}
use Rattle.std.proofs.Math.Seq.{take-append-add}
use Rattle.std.specs.Io.KnownBytes.{Appends, Consumes, Keeps}
use Rattle.byte_streams.specs.Streams.{CutShort, IsSent, Input, Gives}

pub appends-nothing : (known : Option (List ℕ)) → Appends known known []
appends-nothing None = tt
appends-nothing (Some xs) = sym (append-nil xs)

pub appends-both : (old mid new : Option (List ℕ)) (xs ys : List ℕ) → Appends old mid xs → Appends mid new ys → Appends old new (xs ++ ys)
appends-both None mid new xs ys first second = tt
appends-both (Some a) None new xs ys first second = absurd first
appends-both (Some a) (Some b) None xs ys first second = absurd second
appends-both (Some a) (Some b) (Some c) xs ys first second = second ∙ ap (λ z. z ++ ys) first ∙ append_assoc a xs ys

pub appends-kept : (old mid new : Option (List ℕ)) (xs : List ℕ) → Appends old mid xs → Keeps mid new → Appends old new xs
appends-kept None mid new xs first kept = tt
appends-kept (Some a) None new xs first kept = absurd first
appends-kept (Some a) (Some b) None xs first kept = absurd kept
appends-kept (Some a) (Some b) (Some c) xs first kept = kept ∙ first

-- bytes went out, and of others behind them a shorter part
pub cut_behind : (old mid new : Option (List ℕ)) (a b : List ℕ) → Appends old mid a → CutShort mid new b → CutShort old new (a ++ b)
cut_behind old mid new a b first cut =
    let both = appends-both old mid new a (take cut.0 b) first cut.2 in
    (length a + cut.0, omega (arith, length-append a b, cut.1), subst (λ z. Appends old new z) (sym (take-append-add a b cut.0)) both)

pub nothing_sent : (bytes : List ℕ) (known : Option (List ℕ)) → IsSent bytes bytes known known
nothing_sent bytes known = record { sent = []; parts = refl; appended = appends-nothing known }

pub more_sent : (bytes rest left : List ℕ) (old mid new : Option (List ℕ)) (n : ℕ) → left ≡ drop n rest → IsSent bytes rest old mid → Appends mid new (take n rest) → IsSent bytes left old new
more_sent bytes rest left old mid new n is before more = record {
  sent = before.sent ++ take n rest;
  parts = before.parts ∙ ap (λ z. before.sent ++ z) (sym (take-append-drop n rest) ∙ ap (λ z. take n rest ++ z) (sym is)) ∙ sym (append_assoc before.sent (take n rest) left);
  appended = appends-both old mid new before.sent (take n rest) before.appended more;
}

-- where the sink failed with bytes left, what went out is a shorter part from the front
pub part_sent : (bytes rest : List ℕ) (old mid new : Option (List ℕ)) → IsSent bytes rest old mid → 0 < length rest → Keeps mid new → (n : ℕ) × (n < length bytes) × Appends old new (take n bytes)
part_sent bytes rest old mid new before some kept =
    let front : take (length before.sent) bytes ≡ before.sent = ap (λ z. take (length before.sent) z) before.parts ∙ take_at before.sent rest (length before.sent) refl in
    let size : length bytes ≡ length before.sent + length rest = ap length before.parts ∙ length-append before.sent rest in
    (length before.sent, omega arith, subst (λ z. Appends old new z) (sym front) (appends-kept old mid new before.sent before.appended kept))

consumes-both : (old mid new : Option (List ℕ)) (xs ys : List ℕ) → Consumes old mid xs → Consumes mid new ys → Consumes old new (xs ++ ys)
consumes-both None mid new xs ys first second = tt
consumes-both (Some a) None new xs ys first second = absurd first
consumes-both (Some a) (Some b) None xs ys first second = absurd second
consumes-both (Some a) (Some b) (Some c) xs ys first second = first ∙ ap (λ z. xs ++ z) second ∙ sym (append_assoc xs ys c)

-- a read of `count` bytes at `at`, out of all the items, leaves those behind
pub read_goes_on : (items left got : List ℕ) (at count : ℕ) → drop at items ≡ left → got ≡ take count left → left ≡ got ++ drop (at + count) items
read_goes_on items left got at count is copied =
    sym (ap (λ z. z ++ drop (at + count) items) copied ∙ ap (λ z. take count left ++ z) (sym (drop-drop count at items) ∙ ap (λ z. drop count z) is) ∙ take-append-drop count left)

-- a read of no byte into some room means that none is left
pub read_at_end : (items left : List ℕ) (at count room : ℕ) → drop at items ≡ left → count ≡ min room (length left) → count ≡ 0 → 0 < room → drop (at + count) items ≡ []
read_at_end items left at count room is counted none some =
    let empty : length left ≤ count = omega arith in
    sym (drop-drop count at items) ∙ ap (λ z. drop count z) is ∙ drop_all count left empty

consumes-kept : (old mid new : Option (List ℕ)) (xs : List ℕ) → Consumes old mid xs → Keeps mid new → Consumes old new xs
consumes-kept None mid new xs first kept = tt
consumes-kept (Some a) None new xs first kept = absurd first
consumes-kept (Some a) (Some b) None xs first kept = absurd kept
consumes-kept (Some a) (Some b) (Some c) xs first kept = first ∙ ap (λ z. xs ++ z) (sym kept)

-- a source that gives more, or no more, or fails
pub gives_both : (old mid new : Input) (xs ys : List ℕ) → Gives old mid xs → Gives mid new ys → Gives old new (xs ++ ys)
gives_both old mid new xs ys first second = record {
  left = consumes-both old.left mid.left new.left xs ys first.left second.left;
  given = appends-both old.given mid.given new.given xs ys first.given second.given;
}

pub gives_no_more : (old mid new : Input) (xs : List ℕ) → Gives old mid xs → Gives mid new [] → Gives old new xs
gives_no_more old mid new xs first second = subst (λ z. Gives old new z) (append-nil xs) (gives_both old mid new xs [] first second)

pub gives_kept : (old mid new : Input) (xs : List ℕ) → Gives old mid xs → Keeps mid.left new.left → Keeps mid.given new.given → Gives old new xs
gives_kept old mid new xs first left given =
    record { left = consumes-kept old.left mid.left new.left xs first.left left; given = appends-kept old.given mid.given new.given xs first.given given }
