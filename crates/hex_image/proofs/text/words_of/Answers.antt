use Rattle.std.proofs.Common.{◌≡◌, ◌<◌, ◌^◌, ◌∷◌, [], ◌++◌, sym, subst, arith}
use Rattle.std.specs.List.{All}
use Rattle.std.proofs.lemmas.Grind.{common_steps}
use Rattle.std.proofs.lemmas.List.Elements.{All-push}
use Rattle.std.proofs.lemmas.List.FromFn.{map-range_with_len_more}
use Rattle.hex_image.specs.Reading.{word_of_slots}
use Rattle.hex_image.proofs.text.words_of.Goals as goal

pub words-preserved : goal.words-preserved
words-preserved c =
    let more = map-range_with_len_more (word_of_slots c.args.slots.now) 0 c.words.address c.words.address (omega arith) in
    let pushed : c.push.new.self.items ≡ c.words.words.items ++ c.word_at.result ∷ [] = grind (arith, common_steps) in
    record {
      said = rw more (grind (arith, common_steps));
      small = subst (λ z. All (λ word. word < 2 ^ 16) z) (sym pushed) (All-push (λ word. word < 2 ^ 16) c.words.words.items c.word_at.result c.words.invariant.small c.word_at.ensures.small);
    }
