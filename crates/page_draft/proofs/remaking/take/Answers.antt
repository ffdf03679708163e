use Rattle.std.proofs.Common.{arith}
use Rattle.page_draft.proofs.RunLaws.{template_at-range}
use Rattle.page_draft.proofs.remaking.take.Goals as goal

pub overflow_add-count-3 : goal.overflow_add-count-3
overflow_add-count-3 g c =
    omega (arith, (template_at-range (g.I.ImageWords.words c.args.image.now) c.read-here.result.pc).1, c.read-here.ensures.read.code_size, c.requires.room)
