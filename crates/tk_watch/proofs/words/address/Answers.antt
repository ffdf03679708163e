use Rattle.std.proofs.Common.{ℕ, subst}
use Rattle.std.specs.Prelude.{MatchOption}
use Rattle.tk_watch.specs.ViewWords.{IsAddress}
use Rattle.tk_watch.proofs.words.address.Goals as goal

pub returns : goal.returns
returns c = record { cases = subst (λ w. MatchOption c.address_in.result ((a : ℕ) → ¬ IsAddress w a) (IsAddress w)) c.as_bytes.ensures.value c.address_in.ensures.cases }
