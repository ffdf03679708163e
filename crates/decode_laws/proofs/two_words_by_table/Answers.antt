use Rattle.std.proofs.Common.{rules, ◌≡◌, arith}
use Rattle.avr_decode.specs.Decoding.{is_long}
use Rattle.decode_laws.proofs.Lengths.{is_long_iff}
use Rattle.decode_laws.proofs.two_words_by_table.Goals as goal

pub returns : goal.returns
returns c =
    let same : c.two_words.result ≡ is_long c.args.w = search rules in
    record { rows = rw same (is_long_iff c.args.w (omega arith)) }
