use Rattle.tkernel_cli.proofs.Exactly.{answer_done, answer_is_exact}
use Rattle.tkernel_cli.proofs.top.tkernel.Goals as goal

pub returns : goal.returns
returns g c =
    let answer = answer_done _ _ _ _ _ _ _ c.job_of-job.ensures.asked c.do_job.ensures.done in
    record { answer = answer; exact = answer_is_exact _ _ _ _ _ _ answer }
