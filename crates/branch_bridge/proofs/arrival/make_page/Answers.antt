use Rattle.std.proofs.Common.{◌≡◌, ℕ, List, ◌+◌, ◌*◌, ap}
use Rattle.flash_words.specs.declared.failing.FlashStop.{FlashStop}
use Rattle.addr_tables.proofs.NoteLaws.{rest_noted}
use Rattle.sram_layout.proofs.RegionLaws.{outside_same}
use Rattle.branch_bridge.proofs.RestLaws.{others_rest}
use Rattle.branch_bridge.proofs.MakeLaws.{makes_made, makes_refused, make_kept, makes_used}
use Rattle.flash_words.specs.declared.layout.Layout.{Layout}
use Rattle.nat_page.specs.Making.{IsPrepared}
use Rattle.branch_bridge.proofs.arrival.make_page.Goals as goal

-- the words and the place are the draft's
prepared_by : (layout : Layout) (image old words drafted : List ℕ) (page t front begins : ℕ) → words ≡ drafted → front ≡ begins
    → IsPrepared layout image old page t drafted (128 * page + begins) → IsPrepared layout image old page t words (128 * page + front)
prepared_by layout image old words drafted page t front begins same at prepared = rw (same, at) prepared

pub returns-in-Ok : goal.returns-in-Ok
returns-in-Ok c =
    let prepared = prepared_by _ _ _ _ _ _ _ _ _ c.words-words.ensures.words c.front.ensures.front (c.draft-draft.ensures.serves c.args.page c.requires.free) in
    let makes = makes_made c.args.layout.now _ c.program_known.new.self c.args.sram.now _ _ _ c.args.again _ _ prepared c.in-Ok.ensures.free c.in-Ok.ensures.done c.note.ensures.after in
    rw c.recycled.ensures.value (record {
      rest = rw c.note.ensures.after (others_rest _ _ (rest_noted c.args.sram.now c.args.t (128 * c.args.page + c.front.result)));
      makes = makes;
      kept = make_kept _ _ _ _ _ _ _ c.requires.right c.requires.code c.requires.pool c.requires.free c.note.ensures.size.0 makes;
      used = makes_used _ _ _ _ _ _ _ c.requires.right c.requires.code c.requires.pool c.requires.free makes;
    })

pub returns-in-Err : goal.returns-in-Err
returns-in-Err c =
    let prepared = prepared_by _ _ _ _ _ _ _ _ _ c.words-words.ensures.words c.front.ensures.front (c.draft-draft.ensures.serves c.args.page c.requires.free) in
    let op = ap (λ (s : FlashStop). s.op) c.in-Err.ensures.stop in
    let makes = makes_refused c.args.layout.now _ c.program_known.new.self c.args.sram.now _ _ _ c.args.again _ _ prepared c.in-Err.ensures.listed c.in-Err.ensures.refused op in
    rw (c.from.ensures, c.lacking.ensures.value) (record {
      rest = outside_same c.args.sram.now;
      makes = makes;
      kept = make_kept _ _ _ _ _ _ _ c.requires.right c.requires.code c.requires.pool c.requires.free c.requires.size makes;
      used = makes_used _ _ _ _ _ _ _ c.requires.right c.requires.code c.requires.pool c.requires.free makes;
    })
