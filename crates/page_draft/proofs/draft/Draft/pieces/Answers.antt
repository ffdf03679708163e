use Rattle.std.proofs.Common.{◌+◌, length, map, arith, ap}
use Rattle.std.proofs.lemmas.List.{length-append, length-map}
use Rattle.nat_template.specs.declared.piece.Piece.TheVariants.{Fixed}
use Rattle.page_draft.proofs.WidthLaws.{few_pieces}
use Rattle.page_draft.proofs.draft.Draft.pieces.Goals as goal

pub unwrap-requires : goal.unwrap-requires
unwrap-requires c =
    let entries = ap length c.deref.ensures.0 in
    let code = ap length c.deref-2.ensures.0 in
    let none = ap length c.new-pieces.ensures in
    let before = ap length c.push_map.ensures.pieces in
    let all = length-append c.push-2.new.self.items (map (λ entry. Fixed (entry + (2 + c.len-count.result))) c.deref.result.now) in
    c.try_extend_from_slice.ensures.variant.1 (omega (
      arith,
      few_pieces c.args.self.now.code.items,
      entries,
      code,
      none,
      before,
      all,
      length-map c.deref.result.now (λ entry. Fixed (entry + (2 + c.len-count.result))),
      c.push.ensures.len,
      c.push-2.ensures.len,
      c.requires.sized,
      c.requires.fits,
    ))
