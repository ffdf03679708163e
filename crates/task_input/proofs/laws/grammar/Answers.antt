use Rattle.task_input.proofs.TextAgreement.{faulty_from, faulty_to, schedules_from, schedules_to}
use Rattle.task_input.proofs.laws.grammar.Goals as goal

pub returns : goal.returns
returns c =
    let texts = c.grammar.ensures.text in
    let faults = c.grammar.ensures.fault in
    record {
      text = λ count text schedules. (schedules_from texts faults count text schedules, schedules_to texts faults count text schedules);
      fault = λ count text number fault. (faulty_from texts faults count text number fault, faulty_to texts faults count text number fault);
    }
