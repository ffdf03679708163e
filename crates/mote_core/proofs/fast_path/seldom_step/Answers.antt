use Rattle.std.proofs.Common.{rules}
use Rattle.avr_exec.specs.Asks.{ask_of, finish_of}
use Rattle.avr_exec.specs.Execution.{answer_of, exec_of}
use Rattle.flash_model.specs.MicroOps.{form_of, next_size_in}
use Rattle.mote_core.proofs.fast_path.seldom_step.Goals as goal

pub returns-in-Sbrs-clause-went : goal.returns-in-Sbrs-clause-went
unfolding ask_of finish_of answer_of exec_of form_of next_size_in
returns-in-Sbrs-clause-went c = search rules
