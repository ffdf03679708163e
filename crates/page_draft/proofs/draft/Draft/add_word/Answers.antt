use Rattle.std.proofs.Common.{arith}
use Rattle.page_draft.proofs.WidthLaws.{few_pieces}
use Rattle.page_draft.proofs.draft.Draft.add_word.Goals as goal

pub push-requires-2 : goal.push-requires-2
push-requires-2 c = (omega arith, omega (arith, few_pieces c.args.self.now.code.items, c.requires.sized, c.requires.room))
