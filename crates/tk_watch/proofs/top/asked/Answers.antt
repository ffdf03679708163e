use Rattle.std.proofs.Common.{◌∷◌, codes, map, string_bytes, subst}
use Rattle.cli_words.specs.declared.command.Command.TheVariants.{Run}
use Rattle.cli_words.specs.Commands.{IsCommand}
use Rattle.tk_watch.proofs.ViewWordsLaws.{one_view}
use Rattle.tk_watch.proofs.top.asked.Goals as goal

pub returns-in_err-options : goal.returns-in_err-options
returns-in_err-options c = rw c.from_residual-in_err-options.ensures (record {
  cases = λ view options ask.
      let same = one_view _ ask.0 _ view _ ask.1 c.in_ok-view.ensures.cases in
      c.in_err-options.ensures.cases options (subst (λ b. IsCommand (codes "run" ∷ b) (Run options)) same.1 ask.2);
})

pub returns : goal.returns
returns c = record { cases = ((map string_bytes c.in_ok-view.behind.now, c.in_ok-view.ensures.cases, c.in_ok-options.ensures.cases), c.in_ok-options.ensures.possible, c.in_ok-view.ensures.possible) }
