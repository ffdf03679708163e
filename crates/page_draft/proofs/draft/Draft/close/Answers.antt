use Rattle.std.proofs.Common.{length, arith, ap}
use Rattle.page_draft.specs.Drafts.{closing_of}
use Rattle.page_draft.proofs.WidthLaws.{few_pieces}
use Rattle.page_draft.proofs.draft.Draft.close.Goals as goal

pub unwrap-requires : goal.unwrap-requires
unwrap-requires c =
    c.try_extend_from_slice.ensures.variant.1 (omega (
      arith,
      few_pieces c.args.self.now.code.items,
      few_pieces (closing_of c.args.last.now),
      ap length c.deref.ensures.0,
      ap length c.closing.ensures.pieces,
      c.requires.sized,
      c.requires.read,
      c.requires.room,
    ))
