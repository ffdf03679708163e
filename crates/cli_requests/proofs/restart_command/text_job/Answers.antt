use Rattle.std.proofs.Common.{sym, ap, subst, inl}
use Rattle.cli_words.specs.declared.job.Job.TheVariants.{Restart, Run}
use Rattle.cli_words.specs.declared.request.Request.{Request}
use Rattle.cli_requests.specs.RestartCommand.{RestartAsks}
use Rattle.cli_requests.proofs.OneJob.{same_request}
use Rattle.cli_requests.proofs.restart_command.text_job.Goals as goal

pub returns-in-Err-clause-asks : goal.returns-in-Err-clause-asks
returns-in-Err-clause-asks c = c.in-Err.ensures.judged (λ request. Restart request request.script)

pub returns-in-Ok-request_in : goal.returns-in-Ok-request_in
returns-in-Ok-request_in c =
    let request = c.in-Ok.request in
    let again = c.in-Ok-request_in.again in
    let same = same_request c.args.options c.args.text.now again request (c.in-Ok-request_in.ensures.judged Run) (c.in-Ok.ensures.judged Run) in
    let script = ap (λ (r : Request). r.script) same in
    record {
      asks = inl (subst (λ s. RestartAsks c.args.options c.args.text.now (Restart request s)) (sym script) (c.in-Ok.ensures.judged (λ asked. Restart asked asked.script)));
      possible = (c.in-Ok.ensures.possible, script);
    }

pub returns-in-Err-request_in-clause-asks : goal.returns-in-Err-request_in-clause-asks
returns-in-Err-request_in-clause-asks c = c.in-Err-request_in.ensures.judged (λ request. Restart request request.script)
