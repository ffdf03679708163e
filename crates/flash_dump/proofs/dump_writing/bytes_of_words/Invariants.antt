use Rattle.std.proofs.Common.{◌≡◌, ◌*◌, length, take}
use Rattle.flash_dump.specs.WrittenDumps.{bytes_of_words}
use Rattle.flash_dump.proofs.dump_writing.bytes_of_words.Given as goal

-- the bytes so far
abbrev pub invariant-loop-word : goal.invariant-loop-word
invariant-loop-word l = record {
  said : l.bytes.items ≡ bytes_of_words (take l.word-index l.words);
  size : length l.bytes.items ≡ 2 * l.word-index;
}
