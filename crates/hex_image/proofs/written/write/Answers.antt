use Rattle.std.proofs.Common.{length, sym, ap, ◌∙◌, subst}
use Rattle.hex_image.specs.HexText.{HexText}
use Rattle.hex_image.specs.Written.{written}
use Rattle.hex_image.proofs.BackLemmas.{image_written}
use Rattle.hex_image.proofs.written.write.Goals as goal

pub returns-clause-read_back : goal.returns-clause-read_back
returns-clause-read_back c =
    subst (λ z. HexText z c.args.image.now (length z)) (sym (c.in_ok-text_of.ensures.text ∙ ap written c.words.ensures.words)) (image_written c.args.image.now c.words.ensures.image)
