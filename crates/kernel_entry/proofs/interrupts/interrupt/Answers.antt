use Rattle.std.proofs.Common.{sym, ap, ◌∙◌}
use Rattle.std.specs.Int.{bit_at}
use Rattle.mote_devices.specs.Waking.{enabled}
use Rattle.kernel_entry.specs.declared.kernel.Taken.TheVariants as answers
use Rattle.kernel_entry.proofs.InterruptLaws.{taken_off, taken_none, taken_stops, taken_goes}
use Rattle.kernel_entry.proofs.TakingRows.{taking_row}
use Rattle.kernel_entry.proofs.interrupts.interrupt.Goals as goal

pub returns-then-enabled-eq0 : goal.returns-then-enabled-eq0
returns-then-enabled-eq0 c =
    let k = c.args.k.now in
    let taken = taken_none k c.args.target (sym c.enabled-enabled.ensures.value ∙ c.if-enabled-eq0.true) in
    record { taken = taken; row = taking_row k c.args.target _ _ taken c.requires.paged }

pub returns-then-not-has_interrupts : goal.returns-then-not-has_interrupts
returns-then-not-has_interrupts c =
    let k = c.args.k.now in
    let taken = taken_off k c.args.target (sym c.has_interrupts.ensures.value ∙ c.if-not-has_interrupts.true) in
    record { taken = taken; row = taking_row k c.args.target _ _ taken c.requires.paged }

pub push-requires : goal.push-requires
push-requires c = record { paged = c.requires.paged; room = c.requires.room }

pub lowest-number-requires : goal.lowest-number-requires
lowest-number-requires c = record { some = c.if-enabled-eq0.false }

pub vector-place-requires : goal.vector-place-requires
vector-place-requires c = record { small = c.lowest-number.ensures.small }

pub take-requires : goal.take-requires
take-requires c = record {
  number = c.lowest-number.ensures.small;
  enabled = ap (λ d. bit_at (enabled d) c.lowest-number.result) c.push.ensures.devices
      ∙ ap (λ n. bit_at n c.lowest-number.result) (sym c.enabled-enabled.ensures.value) ∙ c.lowest-number.ensures.bit;
}

pub returns-in-Err : goal.returns-in-Err
returns-in-Err c =
    let k = c.args.k.now in
    let taken = ap (λ s. (answers.Stopped s, c.push.new.k)) c.stop_of.ensures.value
    ∙ taken_stops k c.push.new.k c.args.target c.enabled-enabled.result c.in-Err.stop c.enabled-enabled.ensures.value c.if-enabled-eq0.false
    (sym c.has_interrupts.ensures.value ∙ c.if-not-has_interrupts.false) (ap (λ r. (r, c.push.new.k)) (sym c.in-Err.is) ∙ c.push.ensures.pushed) in
    record { taken = taken; row = taking_row k c.args.target _ _ taken c.requires.paged }

pub returns-in-Ok : goal.returns-in-Ok
returns-in-Ok c =
    let k = c.args.k.now in
    let next = c.push.new.k in
    let enabled = c.enabled-enabled in
    let taken = taken_goes k next c.args.target enabled.result c.lowest-number.result c.vector-place.result c.without_interrupts-k.result c.take.new.self enabled.ensures.value c.if-enabled-eq0.false
    (sym c.has_interrupts.ensures.value ∙ c.if-not-has_interrupts.false) c.lowest-number.ensures.value c.vector-place.ensures.value
    (ap (λ r. (r, next)) (sym c.in-Ok.is) ∙ c.push.ensures.pushed) c.without_interrupts-k.ensures.value c.take.ensures.taken in
    record { taken = taken; row = taking_row k c.args.target _ _ taken c.requires.paged }
