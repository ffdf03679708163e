use Rattle.std.proofs.Common.{ℕ, List, ◌∙◌, inl, inr, subst}
use Rattle.cli_words.specs.declared.status.Status.TheVariants.{Done}
use Rattle.cli_words.specs.Stream.{stream}
use Rattle.tkernel_cli.specs.Runs.{Says}
use Rattle.tkernel_cli.proofs.dumping.put_dump.Goals as goal

pub returns-in-Ok : goal.returns-in-Ok
returns-in-Ok g c =
    let before = stream g.K.Sink.taken g.K.Sink.faults c.args.out.now in
    let now = stream g.K.Sink.taken g.K.Sink.faults c.say.new.out in
    let Said : List ℕ → Type 0 = λ text. Says Done text before now c.say.result in
    record { said = inl (subst Said (c.deref.ensures.value ∙ c.in-Ok.ensures.text) c.say.ensures.said) }

pub returns-in-Err : goal.returns-in-Err
returns-in-Err g c = record { said = inr c.say-in-Err.ensures.said }
