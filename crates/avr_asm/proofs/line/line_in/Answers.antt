use Rattle.std.proofs.Common.{ap, ◌∙◌}
use Rattle.avr_asm.specs.Cuts.{trimmed}
use Rattle.avr_asm.specs.Operands.{name_of}
use Rattle.avr_asm.specs.SourceLines.{with_label}
use Rattle.avr_asm.proofs.LineLaws.{labelled, named, unlabelled, unnamed}
use Rattle.avr_asm.proofs.line.line_in.Goals as goal

pub returns-in-Some : goal.returns-in-Some
returns-in-Some c =
    let code = c.trimmed-code.ensures.value ∙ ap trimmed c.up_to.ensures.value in
    let lacks = c.in-Some.ensures.cases.0 in
    let cut = c.in-Some.ensures.cases.1 in
    record {
      value = c.with_label.ensures.value ∙ ap (with_label (name_of c.in-Some.front.now)) c.trimmed.ensures.value ∙ labelled c.args.line.now _ c.in-Some.front.now c.in-Some.behind.now code lacks cut;
      named = named c.args.line.now _ c.in-Some.front.now c.in-Some.behind.now _ code lacks cut c.with_label.ensures.named;
    }

pub returns-in-None : goal.returns-in-None
returns-in-None c =
    let code = c.trimmed-code.ensures.value ∙ ap trimmed c.up_to.ensures.value in
    record {
      value = c.with_statement.ensures.value ∙ unlabelled c.args.line.now _ code c.in-None.ensures.cases;
      named = unnamed c.args.line.now _ c.with_statement.ensures.label;
    }
