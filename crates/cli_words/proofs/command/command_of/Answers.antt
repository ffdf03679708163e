use Rattle.cli_words.proofs.FirstWord.{first_bytes}
use Rattle.cli_words.proofs.OneCommand.{command_told, no_choice}
use Rattle.cli_words.proofs.command.command_of.Goals as goal

pub returns-in_err-chosen-clause-cases : goal.returns-in_err-chosen-clause-cases
returns-in_err-chosen-clause-cases c =
    let cut = first_bytes c.args.words.now c.word-item.result _ c.in-len1-up.len_at_least c.word-item.is c.as_str.ensures.value in
    rw c.from_residual-in_err-chosen.ensures (no_choice _ _ _ c.in_ok-kind.kind cut c.in_ok-kind.ensures.named c.in_err-chosen.ensures.cases)

pub returns-clause-cases : goal.returns-clause-cases
returns-clause-cases c =
    let cut = first_bytes c.args.words.now c.word-item.result _ c.in-len1-up.len_at_least c.word-item.is c.as_str.ensures.value in
    command_told _ _ _ c.in_ok-kind.kind c.in_ok-chosen.chosen.values c.command_with.result cut c.in_ok-kind.ensures.named c.in_ok-chosen.ensures.cases c.command_with.ensures.cases
