use Rattle.std.proofs.Common.{◌≡◌, length, map}
use Rattle.std.specs.List.{range_with_len}
use Rattle.avr_isa.specs.Image.{word}
use Rattle.task_input.proofs.image.task_image.Given as goal

-- the words so far
abbrev pub invariant-words : goal.invariant-words
invariant-words l = record {
  said : l.words.items ≡ map (word l.image) (range_with_len 0 l.address);
  long : length l.words.items ≡ l.address;
}
