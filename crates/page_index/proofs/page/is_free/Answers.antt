use Rattle.std.proofs.Common.{◌∙◌, sym, eq-eqb, arith}
use Rattle.std.proofs.lemmas.Bool.{eqb-true}
use Rattle.page_index.proofs.MapLaws.{free_word, free_by_word}
use Rattle.page_index.proofs.page.is_free.Goals as goal

pub returns : goal.returns
returns c =
    let words = c.args.flash.now.words in
    let page = c.args.page in
    record {
      value = (
        λ same. free_by_word words page c.requires.mapped (sym c.word.ensures.value ∙ eqb-true c.word.result 0xFFFF same),
        λ free. eq-eqb c.word.result 0xFFFF (c.word.ensures.value ∙ free_word words page 0 (omega arith) free),
      );
    }
