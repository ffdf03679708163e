use Rattle.std.proofs.Common.{◌≡◌, rules}
use Rattle.avr_isa.specs.Image.{byte}
use Rattle.avr_exec.specs.Registers.{pair}
use Rattle.kernel_entry.specs.Parts.{image_held}
use Rattle.kernel_entry.proofs.AtOnce.{lpm_is}
use Rattle.kernel_entry.proofs.at_once.read_program.Goals as goal

pub returns-clause-executed : goal.returns-clause-executed
returns-clause-executed c =
    let k = c.args.k.now in
    let there : c.pair-z.result ≡ pair k.mote.cpu 30 = search rules in
    let read : c.byte_in_image-byte.result ≡ byte (image_held k) c.pair-z.result = search rules in
    λ yes. lpm_is k c.keep_byte.new.k c.args.d.now c.pair-z.result c.byte_in_image-byte.result c.args.increment c.raise_z.new.cpu there read c.keep_byte.ensures.after c.raise_z.ensures.after
