use Rattle.flash_words.proofs.JumpLaws.{lowest_source, none_source}
use Rattle.flash_words.proofs.jumps.Jumps.page_jumping_into.Goals as goal

pub returns-clause-lowest : goal.returns-clause-lowest
returns-clause-lowest c =
    λ words are. lowest_source words c.args.self.now c.args.from c.args.to c.args.target c.index.result.now c.next.result c.index.ensures are c.requires.end c.next.ensures.range c.next.ensures.lowest

pub returns-clause-none : goal.returns-clause-none
returns-clause-none c = λ words are. none_source words c.args.self.now c.args.from c.args.to c.args.target c.index.result.now c.next.result c.index.ensures are c.requires.end c.next.ensures.none
