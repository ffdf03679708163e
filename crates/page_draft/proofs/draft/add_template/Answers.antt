use Rattle.std.proofs.Common.{length, arith, ap}
use Rattle.page_draft.specs.Drafts.{code_of}
use Rattle.page_draft.proofs.WidthLaws.{few_pieces}
use Rattle.page_draft.proofs.draft.add_template.Goals as goal

pub unwrap-requires : goal.unwrap-requires
unwrap-requires c =
    c.try_extend_from_slice.ensures.variant.1 (omega (arith, few_pieces (code_of c.args.here.now), ap length c.deref.ensures.0, ap length c.code.ensures.pieces, c.requires.room))
