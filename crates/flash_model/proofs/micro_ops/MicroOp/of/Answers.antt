use Rattle.std.proofs.Common.{sym, subst, ◌∙◌}
use Rattle.flash_model.specs.MicroOps.{CanStandFor}
use Rattle.flash_model.proofs.micro_ops.MicroOp.of.Goals as goal

pub returns-in-Two : goal.returns-in-Two
returns-in-Two c = record { stands = subst (λ form. CanStandFor c.two.result form c.args.next_size) (sym c.in-Two.is ∙ c.form.ensures.value) (c.two.ensures.stands c.args.next_size) }

pub returns-in-Imm : goal.returns-in-Imm
returns-in-Imm c = record { stands = subst (λ form. CanStandFor c.immediate.result form c.args.next_size) (sym c.in-Imm.is ∙ c.form.ensures.value) (c.immediate.ensures.stands c.args.next_size) }

pub returns-in-Word : goal.returns-in-Word
returns-in-Word c = record { stands = subst (λ form. CanStandFor c.word.result form c.args.next_size) (sym c.in-Word.is ∙ c.form.ensures.value) (c.word.ensures.stands c.args.next_size) }

pub returns-in-One : goal.returns-in-One
returns-in-One c = record { stands = subst (λ form. CanStandFor c.one.result form c.args.next_size) (sym c.in-One.is ∙ c.form.ensures.value) (c.one.ensures.stands c.args.next_size) }
