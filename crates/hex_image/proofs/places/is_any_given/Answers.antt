use Rattle.std.proofs.Common.{◌≡◌, ◌+◌, ◌-◌, suc, true, false, None, get_or, sym, ap, ◌∙◌, arith}
use Rattle.std.specs.Prelude.{is_some}
use Rattle.hex_image.proofs.PlaceLemmas.{any_at, any_more}
use Rattle.hex_image.proofs.places.is_any_given.Goals as goal

pub returns-then-is_given : goal.returns-then-is_given
returns-then-is_given c =
    let slots = c.args.slots.now in
    let here : is_some (get_or slots (c.args.start + (c.places.place - c.args.start)) None) ≡ true =
    ap (λ z. is_some (get_or slots z None)) (omega arith) ∙ sym c.is_given.ensures.value ∙ c.if-is_given.true in
    record { value = sym (any_at (λ place. is_some (get_or slots place None)) c.args.start c.args.count (c.places.place - c.args.start) (omega arith) here) }

pub places-preserved : goal.places-preserved
places-preserved c =
    let slots = c.args.slots.now in
    let next : c.places.place + 1 - c.args.start ≡ suc (c.places.place - c.args.start) = omega arith in
    let here : is_some (get_or slots (c.args.start + (c.places.place - c.args.start)) None) ≡ false =
    ap (λ z. is_some (get_or slots z None)) (omega arith) ∙ sym c.is_given.ensures.value ∙ c.if-is_given.false in
    rw next (any_more (λ place. is_some (get_or slots place None)) c.args.start (c.places.place - c.args.start) c.places.invariant here)
