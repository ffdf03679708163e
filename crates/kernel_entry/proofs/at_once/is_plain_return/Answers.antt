use Rattle.std.proofs.Common.{◌≡◌, rules}
use Rattle.avr_isa.specs.Image.{word}
use Rattle.kernel_entry.specs.Parts.{descriptor, image_held}
use Rattle.kernel_entry.proofs.AtOnce.{ret_read}
use Rattle.kernel_entry.proofs.at_once.is_plain_return.Goals as goal

pub returns : goal.returns
returns c = record {
  is = λ yes.
      let k = c.args.k.now in
      let same : word (image_held k) (descriptor k) ≡ 0x9508 = search rules in
      ret_read (image_held k) (descriptor k) same;
}
