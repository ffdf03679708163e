use Rattle.std.proofs.Common.{subst, ap, ◌∙◌, arith, None}
use Rattle.program_steps.specs.Machines.{Machine}
use Rattle.program_steps.specs.Ready.{IsKept}
use Rattle.cli_words.specs.declared.request.Request.{Request}
use Rattle.tk_run.specs.Running.{HasAdvanced}
use Rattle.tkernel_cli.proofs.RunEnds.{ran_silently}
use Rattle.tkernel_cli.proofs.running.run_silently.Goals as goal

pub returns : goal.returns
returns c =
    let request : Request = record { image = c.args.image.now; script = c.args.script; options = c.args.options } in
    let may = c.requires.possible in
    let advanced = subst (λ m. HasAdvanced m c.advance-end.new.self request.options.steps None None c.advance-end.result) c.in_ok-machine.ensures.booted c.advance-end.ensures.advanced in
    record {
      ran = ran_silently request c.advance-end.result c.advance-end.new.self c.requires.image (subst IsKept c.in_ok-machine.ensures.booted c.in_ok-machine.ensures.kept)
          (omega (arith, may.2)) advanced c.advance-end.ensures.cause;
      layout = c.advance-end.ensures.advanced.stays.layout ∙ ap (λ (m : Machine). m.kernel.layout) c.in_ok-machine.ensures.booted;
    }
