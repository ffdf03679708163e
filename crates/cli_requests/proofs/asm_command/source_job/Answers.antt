use Rattle.std.proofs.Common.{◌∙◌, ap, inl, refl, subst}
use Rattle.avr_asm.specs.AsmText.{IsRefusal, asm_word}
use Rattle.cli_words.specs.declared.job.Job.TheVariants.{Write}
use Rattle.cli_requests.specs.Reading.{Bad, Good}
use Rattle.cli_requests.proofs.asm_command.source_job.Goals as goal

pub returns-in-Err-Bad-clause-asks : goal.returns-in-Err-Bad-clause-asks
returns-in-Err-Bad-clause-asks c =
    let bad = subst (IsRefusal c.args.text.now) c.in-Err-Bad.field-0-is c.in-Err-Bad.ensures.bad in
    inl (Bad c.in-Err-Bad.line (asm_word c.in-Err-Bad.fault) (c.in-Err-Bad.fault, bad, refl) (cc (c.bad_asm.ensures.job, c.in-Err-Bad.line-is, c.in-Err-Bad.fault-is)))

pub returns-in-Ok-write-clause-asks : goal.returns-in-Ok-write-clause-asks
returns-in-Ok-write-clause-asks c =
    inl (Good c.in-Ok.image (c.in-Ok.ensures.sound, c.in-Ok.ensures.words) (ap (λ text. Write text) (c.new.ensures.bytes ∙ c.in-Ok-write.ensures.text)))
