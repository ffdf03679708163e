use Rattle.std.proofs.Common.{◌≤◌, ◌+◌, ◌/◌, length, ap, arith, ◌∙◌}
use Rattle.std.proofs.lemmas.List.FromFn.{length-map-range_with_len}
use Rattle.hex_image.specs.Image.{most_bytes}
use Rattle.hex_image.specs.Reading.{word_of_slots}
use Rattle.hex_image.proofs.LawLemmas.{image_read, slots_few, words_wanted}
use Rattle.hex_image.proofs.text.read_image.Goals as goal

pub words_of-requires : goal.words_of-requires
words_of-requires c = rw c.as_slice.ensures.value (slots_few _ _ _ c.in_ok-slots.ensures.answer)

pub new-requires : goal.new-requires
new-requires c =
    let slots = c.as_slice.result.now in
    let few : length slots ≤ most_bytes = rw c.as_slice.ensures.value (slots_few _ _ _ c.in_ok-slots.ensures.answer) in
    record {
      few = omega (arith, ap length c.in-Ok.ensures.words, length-map-range_with_len (word_of_slots slots) 0 ((length slots + 1) / 2));
      small = c.in-Ok.ensures.small;
    }

pub returns-in-Ok : goal.returns-in-Ok
returns-in-Ok c = record {
  answer = image_read _ _ _ _ c.in_ok-slots.ensures.answer (c.new.ensures.words ∙ rw (← c.as_slice.ensures.value) c.in-Ok.ensures.words);
}

pub returns : goal.returns
returns c = record {
  answer = words_wanted _ _ _ c.in_ok-slots.ensures.answer (rw c.as_slice.ensures.value at c.in-Err.ensures.some);
}
