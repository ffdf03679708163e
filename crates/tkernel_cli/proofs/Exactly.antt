-- What words and input ask for is what is answered.
use Rattle.std.proofs.Common.{ℕ, List, subst, inl, inr, ◌⊎◌}
use Rattle.cli_words.specs.declared.job.Job.{Job}
use Rattle.cli_requests.specs.Asking.{IsAsked}
use Rattle.cli_words.specs.Commands.{RunsAProgram}
use Rattle.cli_words.specs.Printed.{no_memory}
use Rattle.cli_words.specs.Stream.{Stream}
use Rattle.byte_streams.specs.Streams.{Input}
use Rattle.cli_requests.proofs.Judging.{memory_asked}
use Rattle.cli_requests.proofs.Reasons.{Wanting, Same, why, usage_asked}
use Rattle.tkernel_cli.specs.declared.top.Exit.{Exit}
use Rattle.tkernel_cli.specs.Answer.{Does, IsAnswer, IsExact}

-- a job that is asked for, and done or not for want of memory
pub answer_done : (words : List (List ℕ)) (source source' : Input) (sink sink' : Stream) (job : Job) (exit : Exit) → IsAsked words source source' job
    → Does job sink sink' exit ⊎ (RunsAProgram job × Does no_memory sink sink' exit)
    → IsAnswer words source source' sink sink' exit
answer_done words source source' sink sink' job exit asked (inl done) = record { job = job; asked = asked; done = done }
answer_done words source source' sink sink' job exit asked (inr none) = record { job = no_memory; asked = memory_asked words source source' job none.0 asked; done = none.1 }

-- what is asked for is what is warranted, but for want of memory, which the usage line doesn't want
pub answer_is_exact : (words : List (List ℕ)) (source source' : Input) (sink sink' : Stream) (exit : Exit) → IsAnswer words source source' sink sink' exit
    → IsExact words source source' sink sink' exit
answer_is_exact words source source' sink sink' exit answer = record {
  done = λ whole warranted. elim (why words source source' answer.job whole answer.asked warranted) [
    | Wanting is ↦ inl (subst (λ j. Does j sink sink' exit) is answer.done)
    | Same is ↦ inr (subst (λ j. Does j sink sink' exit) is answer.done)
  ];
  usage = λ own usage.
      let asked = usage_asked words source source' own answer.job usage answer.asked in
      (subst (λ j. Does j sink sink' exit) asked.0 answer.done, asked.1);
}
