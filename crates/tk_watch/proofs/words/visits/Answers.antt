use Rattle.std.proofs.Common.{◌≡◌, List, ◌-◌, [], ◌∷◌, take, drop, map, length, string_bytes, String, Global, refl, sym, ap, subst, arith}
use Rattle.cli_words.proofs.FirstWord.{first_bytes}
use Rattle.tk_watch.specs.ViewWords.{HasNoAddress}
use Rattle.tk_watch.proofs.ViewWordsLaws.{IsFront, front_on, no_address, visits_many, visits_told}
use Rattle.tk_watch.proofs.words.visits.Goals as goal

empty : (words : List (String Global)) → length words ≡ 0 → HasNoAddress (map string_bytes words)
empty [] is = tt
empty (word ∷ words) is = absurd (omega arith)

pub places-init : goal.places-init
places-init c = record {
  front = subst (λ p. IsFront (map string_bytes c.args.words.now) p (map string_bytes c.args.words.now)) (sym c.new-places.ensures) refl;
  few = omega (arith, ap length c.new-places.ensures);
}

pub returns-in-None-clause-cases : goal.returns-in-None-clause-cases
returns-in-None-clause-cases c =
    let cut = first_bytes c.places.rest.now c.word-item.result _ c.in-len1-up.len_at_least c.word-item.is c.as_str.ensures.value in
    visits_told _ c.places.places c.places.rest.now _ c.places.invariant.front (no_address _ _ _ cut c.in-None.ensures.cases) c.places.invariant.few c.some_visits.ensures.cases

pub returns-then-len-eq-MOST_PLACES-clause-cases : goal.returns-then-len-eq-MOST_PLACES-clause-cases
returns-then-len-eq-MOST_PLACES-clause-cases c = λ behind view.
    let cut = first_bytes c.places.rest.now c.word-item.result _ c.in-len1-up.len_at_least c.word-item.is c.as_str.ensures.value in
    visits_many _ c.places.places.items _ _ c.in-Some.place behind view
    (subst (IsFront (map string_bytes c.args.words.now) c.places.places.items) cut c.places.invariant.front) c.in-Some.ensures.cases
    (omega (arith, c.if-len-eq-MOST_PLACES.true, c.len.ensures.value))

pub places-preserved : goal.places-preserved
places-preserved c =
    let cut = first_bytes c.places.rest.now c.word-item.result _ c.in-len1-up.len_at_least c.word-item.is c.as_str.ensures.value in
    let front = front_on _ c.places.places.items _ _ c.in-Some.place (subst (IsFront (map string_bytes c.args.words.now) c.places.places.items) cut c.places.invariant.front) c.in-Some.ensures.cases in
    record {
      front = subst (λ p. IsFront (map string_bytes c.args.words.now) p (map string_bytes (take (length c.places.rest.now - 1) (drop 1 c.places.rest.now)))) (sym c.push.ensures.items) front;
      few = omega (arith, c.places.invariant.few, c.if-len-eq-MOST_PLACES.false, c.len.ensures.value, c.push.ensures.len);
    }

pub returns-clause-cases : goal.returns-clause-cases
returns-clause-cases c =
    visits_told _ c.places.places c.places.rest.now _ c.places.invariant.front (empty c.places.rest.now (omega (arith, c.in_default.len_below))) c.places.invariant.few c.some_visits-2.ensures.cases
