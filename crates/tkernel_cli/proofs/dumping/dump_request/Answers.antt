use Rattle.std.proofs.Common.{inl, refl, subst}
use Rattle.std.specs.Prelude.{◌⊎◌}
use Rattle.hex_image.specs.Image.{IsImage}
use Rattle.flash_dump.specs.WrittenDumps.{written}
use Rattle.printed_text.specs.PlainLines.{no_memory_line}
use Rattle.program_steps.specs.Machines.{Machine}
use Rattle.cli_words.specs.declared.status.Status.TheVariants.{Done, NoMemory}
use Rattle.tkernel_cli.specs.Runs.{Says}
use Rattle.cli_words.specs.Stream.{stream}
use Rattle.tkernel_cli.proofs.dumping.dump_request.Goals as goal

pub run_silently-requires-clause-image : goal.run_silently-requires-clause-image
run_silently-requires-clause-image g c = subst IsImage c.image.view_is c.image.invariant

pub returns : goal.returns
returns g c =
    let ran = c.in-Ok.ensures.ran in
    let before = stream g.K.Sink.taken g.K.Sink.faults c.args.out.now in
    let now = stream g.K.Sink.taken g.K.Sink.faults c.put_dump-status.new.out in
    let told = c.put_dump-status.result in
    let Said : Machine → Type 0 = λ m. Says Done (written m.kernel.mote.flash.words) before now told ⊎ Says NoMemory no_memory_line before now told in
    record { done = inl (record { machine = c.in-Ok.machine; kept = refl; ended = ran.0; runs = ran.1; said = subst Said c.machine.view_is c.put_dump-status.ensures.said }) }
