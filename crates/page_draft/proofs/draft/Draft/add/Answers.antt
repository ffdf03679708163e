use Rattle.std.proofs.Common.{arith}
use Rattle.page_draft.proofs.WidthLaws.{few_pieces}
use Rattle.page_draft.proofs.draft.Draft.add.Goals as goal

pub add_code-requires : goal.add_code-requires
add_code-requires c = record { room = omega (arith, few_pieces c.args.self.now.code.items, c.requires.sized, c.requires.read, c.requires.room) }
