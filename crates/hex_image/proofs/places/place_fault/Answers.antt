use Rattle.std.proofs.Common.{◌≡◌, ◌+◌, max, true, false, length, refl, sym, ◌∙◌, arith}
use Rattle.std.specs.Prelude.{nat_lt}
use Rattle.std.proofs.lemmas.Bool.Decides.{nat_tests}
use Rattle.hex_image.specs.Image.{most_bytes}
use Rattle.hex_image.proofs.PlaceLemmas.{fault_by_slots}
use Rattle.hex_image.proofs.places.place_fault.Goals as goal
use Rattle.hex_image.proofs.places.place_fault.Goals.{else-not-is_empty-via-then-not-is_empty+else-start-content-gt-MOST_BYTES, else-not-is_empty-via-else-not-is_empty}

pub returns-then-is_any_given : goal.returns-then-is_any_given
returns-then-is_any_given c =
    let start = c.args.base + c.from-2.result in
    record {
      value = λ cells are.
          sym (fault_by_slots cells c.args.slots.now c.args.base start c.args.address c.args.content.now true _ are
          (omega arith) (omega arith) (sym c.is_any_given.ensures.value ∙ c.if-is_any_given.true) refl);
    }

pub returns-then-start-content-gt-MOST_BYTES : goal.returns-then-start-content-gt-MOST_BYTES
returns-then-start-content-gt-MOST_BYTES c =
    let start = c.args.base + c.from-2.result in
    let large : nat_lt (max most_bytes start) (start + length c.args.content.now) ≡ true = grind (arith, nat_tests) in
    record {
      value = λ cells are.
          sym (fault_by_slots cells c.args.slots.now c.args.base start c.args.address c.args.content.now false true are
          (omega arith) (omega arith) (sym c.is_any_given.ensures.value ∙ c.if-is_any_given.false) large);
    }

pub returns : goal.returns
returns c =
    let start = c.args.base + c.from-2.result in
    let small : nat_lt (max most_bytes start) (start + length c.args.content.now) ≡ false =
    elim c.else-not-is_empty.branch [
      | else-not-is_empty-via-then-not-is_empty+else-start-content-gt-MOST_BYTES w ↦ grind (arith, nat_tests)
      | else-not-is_empty-via-else-not-is_empty w ↦ grind (arith, nat_tests)
    ] in
    record {
      value = λ cells are.
          sym (fault_by_slots cells c.args.slots.now c.args.base start c.args.address c.args.content.now false false are
          (omega arith) (omega arith) (sym c.is_any_given.ensures.value ∙ c.if-is_any_given.false) small);
    }
