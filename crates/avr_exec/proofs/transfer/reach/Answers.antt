use Rattle.std.proofs.Common.{rules}
use Rattle.avr_exec.specs.Asks.{ask_of, finish_of}
use Rattle.avr_exec.specs.Execution.{answer_of, exec_of}
use Rattle.avr_exec.specs.Kinds.{kind_of}
use Rattle.avr_exec.proofs.transfer.reach.Goals as goal

pub returns-in-Rcall-clause-outcome : goal.returns-in-Rcall-clause-outcome
unfolding kind_of exec_of answer_of ask_of finish_of
returns-in-Rcall-clause-outcome g c = search rules

pub returns-in_ok-pop_ret-in-Reti-clause-outcome : goal.returns-in_ok-pop_ret-in-Reti-clause-outcome
unfolding kind_of exec_of answer_of ask_of finish_of
returns-in_ok-pop_ret-in-Reti-clause-outcome g c = search rules
