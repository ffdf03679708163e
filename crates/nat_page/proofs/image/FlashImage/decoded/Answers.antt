use Rattle.std.proofs.Common.{arith, sym, ap, ◌∙◌}
use Rattle.std.proofs.lemmas.Option.{IfSome_then}
use Rattle.nat_page.proofs.DecodedLaws.{decoded_in_image}
use Rattle.nat_page.proofs.image.FlashImage.decoded.Goals as goal

pub returns-in-Some : goal.returns-in-Some
returns-in-Some c =
    let layout = c.args.self.now.layout.now in
    let words = c.args.self.now.flash.now.words in
    record {
      value = IfSome_then c.told.result c.told.ensures.value (λ instr is.
          decoded_in_image layout words c.args.a instr c.word.ensures.whole.words (omega arith) (omega arith) (is.0 ∙ ap (λ d. d.instr) c.in-Some.ensures.value)
          (λ nop. sym c.word.ensures.value ∙ is.1 nop));
    }
