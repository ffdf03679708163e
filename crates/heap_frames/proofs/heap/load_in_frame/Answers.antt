use Rattle.std.proofs.Common.{◌≡◌, ◌+◌, ◌/◌, ◌%◌, rules, sym, ap, ◌∙◌}
use Rattle.std.specs.Prelude.{Some}
use Rattle.sram_layout.specs.Bytes.{byte_at}
use Rattle.heap_frames.specs.Frames.{frame_bytes, frame_of}
use Rattle.heap_frames.specs.Paging.{store_of}
use Rattle.heap_frames.proofs.HitLaws.{load_hit}
use Rattle.heap_frames.proofs.heap.load_in_frame.Goals as goal

pub returns-in-Some : goal.returns-in-Some
returns-in-Some c =
    let m = c.args.sram.now in
    let found : frame_of m (c.args.a / 256) ≡ Some c.in-Some.frame = search rules in
    let value : c.byte.result ≡ byte_at m (frame_bytes c.in-Some.frame + c.args.a % 256) = search rules in
    record { hit = λ w paged. load_hit m w c.args.a c.in-Some.frame paged found ∙ ap (λ b. (b, store_of m w)) (sym value) }
