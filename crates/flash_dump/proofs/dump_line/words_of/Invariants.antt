use Rattle.std.proofs.Common.{◌≡◌, ℕ, ◌<◌, length, slice_index}
use Rattle.std.specs.Str.Parse.{digits_value, AllDigits}
use Rattle.flash_dump.specs.DumpLines.{word_digits}
use Rattle.flash_dump.proofs.dump_line.words_of.Given as goal

abbrev pub invariant-words : goal.invariant-words
invariant-words l = record {
  long : length l.words ≡ 128;
  digits : (j : ℕ) → j < l.k → AllDigits 16 (word_digits l.line j);
  done : (j : ℕ) → j < l.k → slice_index l.words j ≡ digits_value 16 (word_digits l.line j);
}
