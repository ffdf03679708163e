use Rattle.std.proofs.Common.{rules}
use Rattle.avr_asm.proofs.first_pass.Pass.take.Goals as goal

pub returns-then-self-size-gt-MOST_WORDS-clause-refused : goal.returns-then-self-size-gt-MOST_WORDS-clause-refused
returns-then-self-size-gt-MOST_WORDS-clause-refused c = search rules

pub returns-in-Ok-add_label-clause-taken : goal.returns-in-Ok-add_label-clause-taken
returns-in-Ok-add_label-clause-taken c = search rules
