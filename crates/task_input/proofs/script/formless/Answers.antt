use Rattle.task_input.proofs.FirstFaults.{far_formless}
use Rattle.task_input.proofs.script.formless.Goals as goal

pub returns-in-Some : goal.returns-in-Some
returns-in-Some c = record { far = far_formless c.args.count c.args.text.now _ (rw c.in-Some.is at c.first_formless.ensures.value) }

pub returns-in-None : goal.returns-in-None
returns-in-None c = record { far = far_formless c.args.count c.args.text.now _ (rw c.in-None.is at c.first_formless.ensures.value) }
