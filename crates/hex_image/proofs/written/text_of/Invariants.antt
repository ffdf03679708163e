use Rattle.std.proofs.Common.{◌≡◌, map}
use Rattle.std.specs.Prelude.{flat_map}
use Rattle.std.specs.List.{range_with_len}
use Rattle.text_lines.specs.Written.{fed}
use Rattle.hex_image.specs.Written.{data_line}
use Rattle.hex_image.proofs.written.text_of.Given as goal

-- the lines so far
abbrev pub invariant-records : goal.invariant-records
invariant-records l = l.text.items ≡ flat_map fed (map (data_line l.words) (range_with_len 0 l.number))
