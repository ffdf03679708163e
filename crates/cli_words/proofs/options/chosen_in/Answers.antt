use Rattle.std.proofs.Common.{◌≡◌, ◌≢◌, ℕ, List, [], ◌∷◌, length, arith, sym, subst, refl, map, string_bytes, String, Global}
use Rattle.std.proofs.lemmas.Bool.Decides.{nat_tests}
use Rattle.std.specs.Prelude.{Option}
use Rattle.cli_words.specs.Commands.{entry_of}
use Rattle.cli_words.specs.OptionReading.{HasRead}
use Rattle.cli_words.proofs.NumberChoices.{read_more, says_none, says_twice}
use Rattle.cli_words.proofs.options.chosen_in.Goals as goal

empty : (words : List (String Global)) → length words ≡ 0 → map string_bytes words ≡ []
empty [] is = refl
empty (word ∷ words) is = absurd (omega arith)

some : (words : List (String Global)) → length words ≢ 0 → map string_bytes words ≢ []
some [] apart is = apart refl
some (word ∷ words) apart is = absurd (cc)

pub returns-in_err-choice : goal.returns-in_err-choice
returns-in_err-choice c =
    rw c.from_residual.ensures (record {
      cases = says_none _ _ _ _ c.loop-rest.invariant
          (some c.loop-rest.rest.now (λ e. grind (arith, nat_tests, e, c.loop-rest-test.ensures))) c.in_err-choice.ensures.cases;
    })

pub returns-in_err-chosen : goal.returns-in_err-chosen
returns-in_err-chosen c =
    rw c.from_residual-in_err-chosen.ensures (record { cases = says_twice _ _ _ _ _ c.in_ok-choice.choice c.loop-rest.invariant c.in_ok-choice.ensures.cases c.in_err-chosen.ensures.cases })

pub loop-rest-preserved : goal.loop-rest-preserved
loop-rest-preserved c =
    let more = c.in_ok-chosen.ensures.cases in
    let P : List (Option ℕ) → Type 0 = λ chosen. HasRead (entry_of c.args.kind).1 (map string_bytes c.args.words.now) (map string_bytes c.in_ok-choice.behind.now) chosen in
    subst P (sym more.1) (read_more _ _ _ _ _ c.in_ok-choice.choice c.loop-rest.invariant c.in_ok-choice.ensures.cases more.0)

pub returns : goal.returns
returns c =
    let none = empty c.loop-rest.rest.now (grind (arith, nat_tests, c.loop-rest-test.ensures)) in
    record { cases = c.loop-rest.invariant.back c.loop-rest.chosen.values ([], (none, refl)) }
