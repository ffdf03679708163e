-- A text of which some went out, and the rest is gathered, with more behind it.
use Rattle.std.proofs.Common.{ℕ, ◌≡◌, ◌≤◌, List, ◌++◌, length, sym, ap, ◌∙◌, subst, arith, append_assoc}
use Rattle.std.specs.Prelude.{Option, Result, Ok, Err}
use Rattle.std.proofs.lemmas.List.{length-append, take-append-le}
use Rattle.std.specs.Io.KnownBytes.{Appends}
use Rattle.byte_streams.specs.Streams.{CutShort, IsSent}
use Rattle.byte_streams.specs.declared.failure.Failed.{Failed}
use Rattle.printed_text.specs.Gathering.{Gathers}
use Rattle.byte_streams.proofs.KnownBytes.{appends-both, cut_behind}

-- some bytes went out, and then others
pub sent_on : (text gathered more left : List ℕ) (before after later : Option (List ℕ)) → IsSent text gathered before after → IsSent (gathered ++ more) left after later
    → IsSent (text ++ more) left before later
sent_on text gathered more left before after later first second = record {
  sent = first.sent ++ second.sent;
  parts = ap (λ z. z ++ more) first.parts ∙ append_assoc first.sent gathered more ∙ ap (λ z. first.sent ++ z) second.parts ∙ sym (append_assoc first.sent second.sent left);
  appended = appends-both before after later first.sent second.sent first.appended second.appended;
}

-- some bytes went out, and then the sink failed
pub cut_on : (text gathered more : List ℕ) (before after later : Option (List ℕ)) → IsSent text gathered before after → CutShort after later (gathered ++ more) → CutShort before later (text ++ more)
cut_on text gathered more before after later first cut =
    let parts : text ++ more ≡ first.sent ++ (gathered ++ more) = ap (λ z. z ++ more) first.parts ∙ append_assoc first.sent gathered more in
    subst (CutShort before later) (sym parts) (cut_behind before after later first.sent (gathered ++ more) first.appended cut)

-- the rest went out, or the sink failed
pub all_on : (text gathered : List ℕ) (before after later : Option (List ℕ)) → IsSent text gathered before after → Appends after later gathered → Appends before later text
all_on text gathered before after later first rest = subst (Appends before later) (sym first.parts) (appends-both before after later first.sent gathered first.appended rest)

pub rest_cut : (text gathered : List ℕ) (before after later : Option (List ℕ)) → IsSent text gathered before after → CutShort after later gathered → CutShort before later text
rest_cut text gathered before after later first cut = subst (CutShort before later) (sym first.parts) (cut_behind before after later first.sent gathered first.appended cut)

pub cut_less : (old new : Option (List ℕ)) (a b : List ℕ) → CutShort old new a → CutShort old new (a ++ b)
cut_less old new a b cut =
    let shorter : cut.0 ≤ length a = omega (arith, cut.1) in
    (cut.0, omega (arith, length-append a b, cut.1), subst (λ z. Appends old new z) (sym (take-append-le cut.0 a b shorter)) cut.2)

-- the first of two was cut
pub cut_first : (gathered a b : List ℕ) (before after : Option (List ℕ)) → CutShort before after (gathered ++ a) → CutShort before after (gathered ++ (a ++ b))
cut_first gathered a b before after cut = subst (CutShort before after) (append_assoc gathered a b) (cut_less before after (gathered ++ a) b cut)

-- one was gathered behind the other
pub gathers_on : (result : Result (Unit {0}) Failed) (gathered mid left a b : List ℕ) (before after later : Option (List ℕ)) → IsSent (gathered ++ a) mid before after
    → Gathers mid left after later result b → Gathers gathered left before later result (a ++ b)
gathers_on (Ok done) gathered mid left a b before after later first second =
    subst (λ z. IsSent z left before later) (append_assoc gathered a b) (sent_on (gathered ++ a) mid b left before after later first second)
gathers_on (Err e) gathered mid left a b before after later first second = subst (CutShort before later) (append_assoc gathered a b) (cut_on (gathered ++ a) mid b before after later first second)
