use Rattle.std.proofs.Common.{◌-◌, length, take, drop, map, string_bytes, ap, sym, ◌∙◌}
use Rattle.std.specs.Prelude.{Some}
use Rattle.std.specs.Option.{option_map_or}
use Rattle.cli_words.specs.declared.table.Parameter.TheVariants.{Seed}
use Rattle.cli_words.specs.OptionReading.{number_in, value_at}
use Rattle.cli_words.proofs.FirstWord.{first_bytes}
use Rattle.cli_words.proofs.options.first_number.Goals as goal

pub returns-in-Some-clause-number : goal.returns-in-Some-clause-number
returns-in-Some-clause-number c =
    let word = c.as_str.result.now in
    let words = c.args.words.now in
    let later = map string_bytes (take (length words - 1) (drop 1 words)) in
    c.value_behind.ensures.value
    ∙ ap (λ named. option_map_or (λ n. value_at n.0 n.1 later) named (Some (Seed, word, later))) c.in-Some.ensures.named
    ∙ sym (ap number_in (first_bytes words c.word-item.result _ c.in-len1-up.len_at_least c.word-item.is c.as_str.ensures.value))
