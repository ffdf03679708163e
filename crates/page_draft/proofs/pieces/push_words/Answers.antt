use Rattle.std.proofs.Common.{length, take, ap, arith}
use Rattle.std.proofs.lemmas.List.{length-append}
use Rattle.nat_template.specs.Stubs.{words_of}
use Rattle.nat_template.proofs.Sizes.{words_room}
use Rattle.page_draft.proofs.pieces.push_words.Goals as goal

pub push-requires : goal.push-requires
push-requires c =
    let room = words_room c.args.pieces.now c.loop-piece.piece-index _ c.loop-piece-test.true c.in-Fixed.is in
    let so_far = ap length c.loop-piece.invariant in
    let added = length-append c.args.words.now.items (words_of (take c.loop-piece.piece-index c.args.pieces.now)) in
    (omega arith, omega arith)

pub push-requires-in-Link : goal.push-requires-in-Link
push-requires-in-Link c =
    let room = words_room c.args.pieces.now c.loop-piece.piece-index _ c.loop-piece-test.true c.in-Link.is in
    let so_far = ap length c.loop-piece.invariant in
    let added = length-append c.args.words.now.items (words_of (take c.loop-piece.piece-index c.args.pieces.now)) in
    (omega arith, omega arith)

pub push-requires-in-Link-2 : goal.push-requires-in-Link-2
push-requires-in-Link-2 c =
    let room = words_room c.args.pieces.now c.loop-piece.piece-index _ c.loop-piece-test.true c.in-Link.is in
    let so_far = ap length c.loop-piece.invariant in
    let added = length-append c.args.words.now.items (words_of (take c.loop-piece.piece-index c.args.pieces.now)) in
    (omega arith, omega arith)

pub push-requires-in-Link-3 : goal.push-requires-in-Link-3
push-requires-in-Link-3 c =
    let room = words_room c.args.pieces.now c.loop-piece.piece-index _ c.loop-piece-test.true c.in-Link.is in
    let so_far = ap length c.loop-piece.invariant in
    let added = length-append c.args.words.now.items (words_of (take c.loop-piece.piece-index c.args.pieces.now)) in
    (omega arith, omega arith)
