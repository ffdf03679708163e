-- Serves private functions: the code of each kind of record (Intel's "Hexadecimal Object File Format
-- Specification", section on the general record format).
use Rattle.std.specs.Prelude.{ℕ}
use Rattle.hex_image.specs.declared.kind.Kind.{Kind}
use Rattle.hex_image.specs.declared.kind.Kind.TheVariants.{Data, EndOfFile, ExtendedSegmentAddress, StartSegmentAddress, ExtendedLinearAddress, StartLinearAddress}

abbrev pub code_of : Kind → ℕ
code_of Data = 0
code_of EndOfFile = 1
code_of ExtendedSegmentAddress = 2
code_of StartSegmentAddress = 3
code_of ExtendedLinearAddress = 4
code_of StartLinearAddress = 5
