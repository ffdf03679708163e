use Rattle.std.proofs.Common.{◌≡◌, ◌<◌}
use Rattle.std.specs.Prelude.{flat_map}
use Rattle.flash_words.specs.Memory.{IsWhole}
use Rattle.text_lines.specs.Written.{fed}
use Rattle.flash_dump.specs.WrittenDumps.{lines_of_pages}
use Rattle.flash_dump.proofs.dump_writing.text_of.Given as goal

-- the lines so far
abbrev pub invariant-pages : goal.invariant-pages
invariant-pages l = record {
  said : l.text.items ≡ flat_map fed (lines_of_pages l.flash.words 0 l.page);
  whole : 0 < l.page → IsWhole l.flash;
}
