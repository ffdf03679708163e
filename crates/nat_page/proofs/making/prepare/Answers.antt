use Rattle.flash_words.specs.Layouts.{image_of}
use Rattle.nat_page.proofs.FaithfulLaws.{faithful_mapped}
use Rattle.nat_page.proofs.making.prepare.Goals as goal

pub known_offsets-known-requires-clause-mapped : goal.known_offsets-known-requires-clause-mapped
known_offsets-known-requires-clause-mapped c =
    faithful_mapped c.args.layout.now (image_of c.args.layout.now c.args.flash.now.words) c.args.flash.now.words c.requires.right c.requires.code
