use Rattle.std.proofs.Common.{◌≡◌, ◌<◌, ◌^◌, take}
use Rattle.std.specs.Str.Parse.{digits_value, AllDigits}
use Rattle.text_lines.proofs.digits.value_of.Given as goal

-- the digits so far, and the number that they write
abbrev pub invariant-loop-b : goal.invariant-loop-b
invariant-loop-b l = record {
  digits : AllDigits l.radix (take l.b-index l.text);
  value : l.value ≡ digits_value l.radix (take l.b-index l.text);
  small : l.value < 16 ^ l.b-index;
}
