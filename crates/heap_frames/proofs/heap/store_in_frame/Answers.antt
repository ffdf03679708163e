use Rattle.std.proofs.Common.{◌≡◌, ◌/◌, ◌%◌, rules, sym, ap, ◌∙◌}
use Rattle.std.specs.Prelude.{Some}
use Rattle.heap_frames.specs.Frames.{frame_of}
use Rattle.heap_frames.specs.Paging.{with_byte_in_frame}
use Rattle.heap_frames.specs.InFrame.{stored_in_frame}
use Rattle.heap_frames.proofs.HitLaws.{store_hit}
use Rattle.heap_frames.proofs.SeatLaws.{frame_there}
use Rattle.heap_frames.proofs.heap.store_in_frame.Goals as goal

pub returns-in-Some-clause-hit : goal.returns-in-Some-clause-hit
returns-in-Some-clause-hit c =
    let m = c.args.sram.now in
    let found : frame_of m (c.args.a / 256) ≡ Some c.in-Some.frame = search rules in
    λ yes w paged. store_hit m w c.args.a c.args.v c.in-Some.frame paged found

pub returns-in-Some-clause-after : goal.returns-in-Some-clause-after
unfolding stored_in_frame
returns-in-Some-clause-after c =
    let m = c.args.sram.now in
    let found : frame_of m (c.args.a / 256) ≡ Some c.in-Some.frame = search rules in
    λ yes. c.put_byte.ensures.after ∙ ap (λ i. with_byte_in_frame m i (c.args.a / 256) (c.args.a % 256) c.args.v) (sym (frame_there m (c.args.a / 256) c.in-Some.frame found))
