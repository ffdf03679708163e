use Rattle.std.proofs.Common.{◌≡◌, ◌<◌, ◌^◌, map}
use Rattle.std.specs.List.{All, range_with_len}
use Rattle.hex_image.specs.Reading.{word_of_slots}
use Rattle.hex_image.proofs.text.words_of.Given as goal

-- the words so far
abbrev pub invariant-words : goal.invariant-words
invariant-words l = record {
  said : l.words.items ≡ map (word_of_slots l.slots) (range_with_len 0 l.address);
  small : All (λ word. word < 2 ^ 16) l.words.items;
}
