use Rattle.std.proofs.Common.{sym, ◌∙◌, arith}
use Rattle.std.proofs.lemmas.Grind.{common_steps}
use Rattle.hex_image.proofs.LineLemmas.{record_from_bytes, too_long, undecoded}
use Rattle.hex_image.proofs.line.from_digits.Goals as goal

pub returns-then-count-gt-MOST_BYTES : goal.returns-then-count-gt-MOST_BYTES
returns-then-count-gt-MOST_BYTES c =
    record { answer = too_long c.args.digits.now c.requires (omega arith) }

pub returns-then-is_err : goal.returns-then-is_err
returns-then-is_err c =
    record { answer = undecoded c.args.digits.now _ _ _ c.requires (grind (arith, common_steps)) c.decode_to_slice.ensures.value (sym c.is_err.ensures.value ∙ c.if-is_err.true) }

pub returns : goal.returns
returns c = record { answer = record_from_bytes c.args.digits.now _ _ c.requires (grind (arith, common_steps)) c.from_bytes.ensures.answer }
