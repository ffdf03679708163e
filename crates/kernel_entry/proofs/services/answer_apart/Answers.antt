use Rattle.std.proofs.Common.{ap, sym, ◌∙◌}
use Rattle.kernel_entry.specs.Conditions.{executes}
use Rattle.nat_template.specs.Stubs.{bridge_entry, quantum_entry}
use Rattle.kernel_entry.proofs.ServedLaws.{at_entry}
use Rattle.kernel_entry.proofs.Answering.{called}
use Rattle.kernel_entry.proofs.Running.{refuses, refused_is, halted_is}
use Rattle.kernel_entry.proofs.services.answer_apart.Goals as goal

pub refuse-requires : goal.refuse-requires
refuse-requires c =
    let k = c.args.k.now in
    record { at = c.requires.at; called = called k c.requires.can (ap executes c.in-61444.is); foreign = refuses k c.in-61444.is c.requires.apart }

pub returns-in-61444 : goal.returns-in-61444
returns-in-61444 c = record { served = c.refuse.ensures.served ∙ sym (refused_is c.args.k.now c.in-61444.is) }

pub returns-in-61452 : goal.returns-in-61452
returns-in-61452 c = record { served = c.halt.ensures.served ∙ sym (halted_is c.args.k.now c.in-61452.is c.requires.apart) }

pub returns-in-61440 : goal.returns-in-61440
returns-in-61440 c = record { served = c.bridge.ensures.served ∙ sym (at_entry c.args.k.now bridge_entry c.in-61440.is) }

pub returns-in-61442 : goal.returns-in-61442
returns-in-61442 c = record { served = c.end_quantum.ensures.served ∙ sym (at_entry c.args.k.now quantum_entry c.in-61442.is) }

pub bridge-requires : goal.bridge-requires
bridge-requires c = record { at = c.requires.at }

pub end_quantum-requires : goal.end_quantum-requires
end_quantum-requires c = record { at = c.requires.at }

pub halt-requires : goal.halt-requires
halt-requires c = record { at = c.requires.at }
