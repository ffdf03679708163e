use Rattle.std.proofs.Common.{arith}
use Rattle.page_index.proofs.MapLaws.{map_by_word}
use Rattle.page_index.proofs.page.place_if_listed.Goals as goal

pub entries-requires-clause-map : goal.entries-requires-clause-map
entries-requires-clause-map c = map_by_word c.args.flash.now.words c.args.page c.requires.mapped (λ blank. omega arith)

pub returns : goal.returns
returns c =
    let map = map_by_word c.args.flash.now.words c.args.page c.requires.mapped (λ blank. omega arith) in
    record { found = record { used = map.original; near = omega arith; listed = omega arith; address = omega arith; place = omega arith } }
