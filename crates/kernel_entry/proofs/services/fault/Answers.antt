use Rattle.std.proofs.Common.{sym, ◌∙◌}
use Rattle.kernel_entry.proofs.Sleeping.{stop_is, asleep_is, awake_is}
use Rattle.kernel_entry.proofs.services.fault.Goals as goal

pub sleep-requires : goal.sleep-requires
sleep-requires c = record { at = c.requires.at; count = c.requires.count }

pub returns-in-Asleep : goal.returns-in-Asleep
returns-in-Asleep c =
    let k = c.args.k.now in
    let is = stop_is k c.args.at _ c.fault_of-stop.result c.fault_of-stop.ensures.value (c.as_ref.ensures.value ∙ c.instruction_in_image-instr.ensures.value) c.requires.at in
    record { served = c.sleep.ensures.served ∙ asleep_is k c.in-Asleep.field-0 (sym is ∙ c.in-Asleep.is) }

pub returns : goal.returns
returns c =
    let k = c.args.k.now in
    let is = stop_is k c.args.at _ c.fault_of-stop.result c.fault_of-stop.ensures.value (c.as_ref.ensures.value ∙ c.instruction_in_image-instr.ensures.value) c.requires.at in
    record { served = awake_is k c.fault_of-stop.result is c.in_default.not-Asleep }
