use Rattle.std.proofs.Common.{ap, ◌∙◌}
use Rattle.cli_words.specs.OptionReading.{behind}
use Rattle.cli_words.proofs.NumberWords.{stripped_by}
use Rattle.cli_words.proofs.options.behind_name.Goals as goal

pub returns : goal.returns
returns c = record { behind = stripped_by _ _ _ c.strip_prefix.ensures.cases ∙ ap (λ name. behind name c.args.word.now) c.in_ok-name.ensures.name }
