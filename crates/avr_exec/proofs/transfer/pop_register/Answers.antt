use Rattle.std.proofs.Common.{rules}
use Rattle.avr_exec.specs.Asks.{ask_of, finish_of}
use Rattle.avr_exec.specs.Execution.{answer_of, exec_of}
use Rattle.avr_exec.proofs.transfer.pop_register.Goals as goal

pub returns-in_err-value-clause-outcome : goal.returns-in_err-value-clause-outcome
unfolding exec_of answer_of ask_of finish_of
returns-in_err-value-clause-outcome g c = search rules

pub returns-in_err-value-clause-stop : goal.returns-in_err-value-clause-stop
returns-in_err-value-clause-stop g c = search rules

pub returns-clause-outcome : goal.returns-clause-outcome
unfolding exec_of answer_of ask_of finish_of
returns-clause-outcome g c = search rules
