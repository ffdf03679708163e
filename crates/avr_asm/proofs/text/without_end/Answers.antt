use Rattle.std.proofs.Common.{sym, ◌∙◌}
use Rattle.avr_asm.proofs.CutLaws.{skip_blank_last, keep_last}
use Rattle.avr_asm.proofs.text.without_end.Goals as goal

pub returns-then-not-is_blank : goal.returns-then-not-is_blank
returns-then-not-is_blank c =
    record { value = keep_last c.loop-rest.rest.now c.in-len1-up.len_at_least (sym c.is_blank.ensures.value ∙ c.if-not-is_blank.true) ∙ c.loop-rest.invariant }

pub loop-rest-preserved : goal.loop-rest-preserved
loop-rest-preserved c =
    skip_blank_last c.loop-rest.rest.now c.in-len1-up.len_at_least (sym c.is_blank.ensures.value ∙ c.if-not-is_blank.false) ∙ c.loop-rest.invariant
