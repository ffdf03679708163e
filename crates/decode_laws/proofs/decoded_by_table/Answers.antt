use Rattle.std.proofs.Common.{rules, ◌≡◌, arith}
use Rattle.avr_decode.specs.Decoding.{the_form}
use Rattle.decode_laws.proofs.Decoded.{decoded_of}
use Rattle.decode_laws.proofs.decoded_by_table.Goals as goal

pub returns : goal.returns
returns c =
    let same : c.decode.result ≡ the_form c.args.w0 c.args.w1 = search rules in
    record { decoded = decoded_of c.args.w0 c.args.w1 _ (omega arith) (omega arith) same }
