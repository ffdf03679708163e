use Rattle.std.proofs.Common.{ℕ, ◌∙◌, ap₂, sym}
use Rattle.input_script.specs.declared.input.Event.{Event}
use Rattle.input_script.specs.declared.input.Input.TheVariants.{Pin}
use Rattle.input_script.specs.Script.{is_late}
use Rattle.input_script.proofs.Order.{late_by_last}
use Rattle.input_script.proofs.Schedules.{event_number, fail_number}
use Rattle.input_script.proofs.script.Script.is_late.Goals as goal

pub returns-in-len1-up : goal.returns-in-len1-up
returns-in-len1-up c =
    let i = c.self.inside in
    let n = c.in-At.number in
    let m = c.from.result in
    let none : Event = record { at = 0; input = Pin 0 0 } in
    let tells = late_by_last Event event_number i.events.items n m none c.self.invariant.ordered (rw c.as_slice.ensures.value at c.in-len1-up.len_at_least)
    (rw c.as_slice.ensures.value at c.from.ensures) in
    record { value = tells ∙ ap₂ (λ s t. is_late s t) c.self.view_is (sym c.in-At.is) }

pub returns-in-len1-up-as_slice : goal.returns-in-len1-up-as_slice
returns-in-len1-up-as_slice c =
    let i = c.self.inside in
    let n = c.in-FailFlash.number in
    let m = c.from-in-len1-up-as_slice.result in
    let tells =
    late_by_last ℕ fail_number i.failing.items n m 0 c.self.invariant.failing_ordered (rw c.as_slice-in-FailFlash.ensures.value at c.in-len1-up-as_slice.len_at_least)
    (rw c.as_slice-in-FailFlash.ensures.value at c.from-in-len1-up-as_slice.ensures) in
    record { value = tells ∙ ap₂ (λ s t. is_late s t) c.self.view_is (sym c.in-FailFlash.is) }
