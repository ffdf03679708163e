use Rattle.std.proofs.Common.{ap, sym, ◌∙◌}
use Rattle.avr_asm.specs.Cuts.{before}
use Rattle.avr_asm.proofs.CutLaws.{before_lacking, before_cut}
use Rattle.avr_asm.proofs.text.up_to.Goals as goal

pub returns-in-Some : goal.returns-in-Some
returns-in-Some c =
    record { value = sym (ap (before c.args.byte) c.in-Some.ensures.cases.1 ∙ before_cut c.args.byte c.in-Some.front.now _ c.in-Some.ensures.cases.0) }

pub returns-in-None : goal.returns-in-None
returns-in-None c = record { value = sym (before_lacking c.args.byte c.args.text.now c.in-None.ensures.cases) }
