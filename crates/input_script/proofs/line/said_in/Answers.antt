use Rattle.std.proofs.Common.{◌≡◌, ◌∙◌, ◌∷◌, ◌&&◌, ℕ, List, ap, ap₂, sym, refl, codes, true, false}
use Rattle.std.specs.Prelude.{bytes_eq}
use Rattle.input_script.specs.Grammar.{said_in, words_of}
use Rattle.input_script.proofs.Words.{one_word, cut_word, two_words, fail_words, other_words, same_word}
use Rattle.input_script.proofs.line.said_in.Goals as goal

pub returns-in_err-first : goal.returns-in_err-first
returns-in_err-first c = rw (c.from_residual.ensures, one_word c.args.line.now c.in_err-first.ensures.cases) (record { value = refl })

pub returns-in_err-second : goal.returns-in_err-second
returns-in_err-second c =
    let cut = c.in_ok-first.ensures.cases in
    rw (c.from_residual-in_err-second.ensures, cut_word c.args.line.now c.in_ok-first.first.now c.in_ok-first.rest.now cut.0 cut.1, one_word c.in_ok-first.rest.now c.in_err-second.ensures.cases)
    (record { value = refl })

pub returns-then-is_same : goal.returns-then-is_same
returns-then-is_same c =
    let first = c.in_ok-first.first.now in
    let second = c.in_ok-second.second.now in
    let behind = c.in_ok-second.rest.now in
    let words = two_words c.args.line.now first c.in_ok-first.rest.now second behind c.in_ok-first.ensures.cases c.in_ok-second.ensures.cases in
    let at = same_word first (codes "at") (sym c.is_same.ensures.value ∙ c.if-is_same.true) in
    record { value = c.event_in.ensures.value ∙ ap (λ (word : List ℕ). said_in (word ∷ second ∷ words_of behind)) (sym at) ∙ ap said_in (sym words) }

pub returns-then-not-is_same : goal.returns-then-not-is_same
returns-then-not-is_same c =
    let first = c.in_ok-first.first.now in
    let second = c.in_ok-second.second.now in
    let behind = c.in_ok-second.rest.now in
    let words = two_words c.args.line.now first c.in_ok-first.rest.now second behind c.in_ok-first.ensures.cases c.in_ok-second.ensures.cases in
    let fail : bytes_eq first (codes "fail") ≡ false = sym c.is_same-2.ensures.value ∙ c.if-not-is_same.true in
    record {
      value = sym (ap said_in words ∙ other_words first second (words_of behind) (sym c.is_same.ensures.value ∙ c.if-is_same.false) (ap (λ b. b && bytes_eq second (codes "flash")) fail));
    }

pub returns-then-not-is_same-2 : goal.returns-then-not-is_same-2
returns-then-not-is_same-2 c =
    let first = c.in_ok-first.first.now in
    let second = c.in_ok-second.second.now in
    let behind = c.in_ok-second.rest.now in
    let words = two_words c.args.line.now first c.in_ok-first.rest.now second behind c.in_ok-first.ensures.cases c.in_ok-second.ensures.cases in
    let fail : bytes_eq first (codes "fail") ≡ true = sym c.is_same-2.ensures.value ∙ c.if-not-is_same.false in
    let flash : bytes_eq second (codes "flash") ≡ false = sym c.is_same-3.ensures.value ∙ c.if-not-is_same-2.true in
    record {
      value = sym (ap said_in words ∙ other_words first second (words_of behind) (sym c.is_same.ensures.value ∙ c.if-is_same.false) (ap₂ (λ a b. a && b) fail flash));
    }

pub returns : goal.returns
returns c =
    let first = c.in_ok-first.first.now in
    let second = c.in_ok-second.second.now in
    let behind = c.in_ok-second.rest.now in
    let words = two_words c.args.line.now first c.in_ok-first.rest.now second behind c.in_ok-first.ensures.cases c.in_ok-second.ensures.cases in
    let fail = same_word first (codes "fail") (sym c.is_same-2.ensures.value ∙ c.if-not-is_same.false) in
    let flash = same_word second (codes "flash") (sym c.is_same-3.ensures.value ∙ c.if-not-is_same-2.false) in
    record { value = c.fail_of.ensures.value ∙ sym (fail_words behind) ∙ ap₂ (λ (a b : List ℕ). said_in (a ∷ b ∷ words_of behind)) (sym fail) (sym flash) ∙ ap said_in (sym words) }
