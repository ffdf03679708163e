use Rattle.flash_words.proofs.WordLaws.{words_fit}
use Rattle.flash_words.proofs.paged_words.put_words.Goals as goal

pub returns-clause-fit : goal.returns-clause-fit
returns-clause-fit c = words_fit _ c.type_inv.words
