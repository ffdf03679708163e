use Rattle.program_steps.proofs.Entered.{entered_none}
use Rattle.program_steps.proofs.step.followed.Goals as goal

pub returns-then-is_followed-clause-followed : goal.returns-then-is_followed-clause-followed
returns-then-is_followed-clause-followed c =
    let free = rw c.in-Some.is at c.requires.led in
    let ready = c.requires.going free.2 in
    record { ready = ready.0; undue = free.3; entered = entered_none ready.0 ready.1 free.1; still = free.3 }
