use Rattle.std.proofs.Common.{ap₂, ◌∙◌}
use Rattle.std.specs.Prelude.{◌==◌}
use Rattle.kernel_entry.specs.Services.{due_by}
use Rattle.kernel_entry.proofs.Running.{due_is}
use Rattle.kernel_entry.proofs.services.serve_apart.Goals as goal

pub answer_apart-answer-requires : goal.answer_apart-answer-requires
answer_apart-answer-requires c = record { can = c.requires.can; at = c.requires.at; apart = c.requires.apart }

pub returns : goal.returns
returns c =
    let k = c.args.k.now in
    let answer = c.answer_apart-answer.result in
    let told = c.answer_apart-answer.ensures.served in
    record {
      served = told;
      due = c.is_due_by.ensures.due ∙ ap₂ (λ a n. due_by k.mote.cpu.pc a (n == 1) answer) c.requires.at c.count-last.ensures.value ∙ due_is k (answer, c.answer_apart-answer.new.k) told;
    }
