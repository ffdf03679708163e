use Rattle.std.proofs.Common.{inl}
use Rattle.cli_words.specs.declared.job.Job.TheVariants.{Dump, Print, Restart, Run, Write}
use Rattle.cli_words.specs.declared.status.Status.TheVariants.{Done}
use Rattle.tkernel_cli.proofs.DoneJobs.{done_alone, or_wanting, said_alone}
use Rattle.tkernel_cli.proofs.job.do_job.Goals.{in-Print, in-Write, in-Run, in-Dump, in-Restart}
use Rattle.tkernel_cli.proofs.job.do_job.Goals as goal

pub returns : goal.returns
returns g c = record {
  done = elim c.match-job.branch [
    | in-Print w ↦ rw (w.out-is, w.outcome-is) (done_alone c.args.job (Print w.in-Print.status w.in-Print.line) _ _ w.told-outcome.result.status w.told-outcome.result.kept w.in-Print.is
        (inl (said_alone w.in-Print.status w.say.result w.told-outcome.result.status w.deref.result.now w.in-Print.line.items _ _ w.told-outcome.result.kept w.told-outcome.ensures.status
        w.told-outcome.ensures.nothing w.deref.ensures.0 w.say.ensures.said)))
    | in-Write w ↦ rw (w.out-is, w.outcome-is) (done_alone c.args.job (Write w.in-Write.text) _ _ w.told-outcome-in-Write.result.status w.told-outcome-in-Write.result.kept w.in-Write.is
        (inl (said_alone Done w.say-in-Write.result w.told-outcome-in-Write.result.status w.bytes.result.now w.in-Write.text _ _ w.told-outcome-in-Write.result.kept
        w.told-outcome-in-Write.ensures.status w.told-outcome-in-Write.ensures.nothing w.bytes.ensures.bytes w.say-in-Write.ensures.said)))
    | in-Run w ↦ rw (w.out-is, w.outcome-is) (done_alone c.args.job (Run w.in-Run.request) _ _ w.run_request-outcome.result.status w.run_request-outcome.result.kept w.in-Run.is
        (or_wanting tt w.run_request-outcome.ensures.done))
    | in-Dump w ↦ rw (w.out-is, w.outcome-is) (done_alone c.args.job (Dump w.in-Dump.request) _ _ w.dump_request-outcome.result.status w.dump_request-outcome.result.kept w.in-Dump.is
        (or_wanting tt w.dump_request-outcome.ensures.done))
    | in-Restart w ↦ rw (w.out-is, w.outcome-is) (done_alone c.args.job (Restart w.in-Restart.request w.in-Restart.again) _ _ w.restart_request-outcome.result.status
        w.restart_request-outcome.result.kept w.in-Restart.is (or_wanting tt w.restart_request-outcome.ensures.done))
  ];
}
