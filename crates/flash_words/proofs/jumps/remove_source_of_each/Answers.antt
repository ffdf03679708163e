use Rattle.flash_words.proofs.jumps.remove_source_of_each.Goals as goal

pub targets-init : goal.targets-init
targets-init c = record { size = c.requires.sized; others = λ target other apart has. has }

pub targets-preserved : goal.targets-preserved
targets-preserved c = record {
  size = c.remove_source.ensures.size;
  others = λ target other apart has. c.remove_source.ensures.others target other apart (c.targets.invariant.others target other apart has);
}
