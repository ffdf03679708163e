use Rattle.branch_bridge.proofs.KnownLaws.{known_inside, known_finds, known_arrives, known_kept}
use Rattle.branch_bridge.proofs.through.arrive_at_known_place.Goals as goal

pub returns : goal.returns
returns c =
    let old = c.args.sram.now in
    let new = c.note.new.sram in
    let t = c.args.t in
    let place = c.args.place in
    record {
      arrives = λ layout flash known. known_arrives layout flash old new t place (known_inside layout flash old t place known) (known_finds layout flash old new t place known c.note.ensures.after);
      kept = λ layout flash known. known_kept _ _ _ _ _ _ known.right known.code known.ring (known_inside _ _ _ _ _ known) (known_finds _ _ _ _ _ _ known c.note.ensures.after)
          (c.note.ensures.tables layout flash.words known.entry known.tables) known.entry;
    }
