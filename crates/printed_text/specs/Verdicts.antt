-- What `check` says (docs/CHECKING.md).
use Rattle.std.specs.Prelude.{ℕ, List, ◌++◌, codes, decimal}
use Rattle.pool_check.specs.declared.checking.Verdict.{Verdict}
use Rattle.pool_check.specs.declared.checking.Verdict.TheVariants.{Faithful, Form, Links}

unfoldable pub verdict_text : Verdict → List ℕ
verdict_text (Faithful pages) = codes "faithful pages " ++ decimal pages ++ codes "\n"
verdict_text (Form page) = codes "not faithful page " ++ decimal page ++ codes " form\n"
verdict_text (Links page) = codes "not faithful page " ++ decimal page ++ codes " links\n"
