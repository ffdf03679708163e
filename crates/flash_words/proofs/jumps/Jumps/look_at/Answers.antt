use Rattle.flash_words.proofs.JumpLaws.{jump_passed}
use Rattle.flash_words.proofs.jumps.Jumps.look_at.Goals as goal

pub returns-then-words-k-clause-outside : goal.returns-then-words-k-clause-outside
returns-then-words-k-clause-outside c = λ all to own at. jump_passed all c.args.words.now c.args.self.now c.args.page c.args.k to c.requires.second own (λ jump s. absurd (c.if-words-k.true jump)) at

pub returns-clause-outside : goal.returns-clause-outside
returns-clause-outside c = λ all to own at. jump_passed all c.args.words.now _ c.args.page c.args.k to c.requires.second own (λ jump s. c.note.ensures.here s) (c.note.ensures.kept all c.args.k to at)
