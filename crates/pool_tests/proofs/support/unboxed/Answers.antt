use Rattle.std.proofs.Common.{◌≡◌, take, sym, ap, ◌∙◌}
use Rattle.flash_words.specs.Memory.{Memory, loaded}
use Rattle.flash_words.proofs.LoadedLaws.{loaded_image}
use Rattle.nat_page.proofs.FaithfulLaws.{new_flash_held}
use Rattle.pool_tests.proofs.support.unboxed.Goals as goal

pub returns-in-Ok : goal.returns-in-Ok
returns-in-Ok c =
    let layout = c.args.layout.now in
    let image = c.args.image.now in
    let words : c.in-Ok.flash.words ≡ loaded image = ap (λ (m : Memory). m.words) c.in-Ok.ensures.new in
    record {
      faithful = new_flash_held layout image c.in-Ok.flash.words c.requires.right c.requires.long words;
      fresh = ap (λ (m : Memory). m.ops) c.in-Ok.ensures.new;
      image = ap (take layout.image_words) words ∙ ap (λ n. take n (loaded image)) (sym c.requires.long) ∙ loaded_image image;
    }
