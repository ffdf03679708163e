use Rattle.std.proofs.Common.{Ok}
use Rattle.mem_guard.specs.Bus.{guarded_of}
use Rattle.mem_guard.proofs.GuardedStep.{executed_left}
use Rattle.kernel_tests.proofs.guarded_memory.execute.Goals as goal

pub returns : goal.returns
returns g c =
    let left = executed_left (Ok c.in_ok-exec.field-0) c.expect-instr.result c.args.cpu.now c.exec.new.cpu _
    (guarded_of c.exec.new.bus) 1 c.requires.paged c.in_ok-exec.ensures.outcome c.in_ok-exec.ensures.stop in
    record { paged = left.0.paged }
