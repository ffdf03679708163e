use Rattle.std.proofs.Common.{arith}
use Rattle.parked_tasks.proofs.Booting.{booted_by}
use Rattle.parked_tasks.proofs.boot.boot_tasks.Goals as goal

pub returns-clause-booted : goal.returns-clause-booted
returns-clause-booted c = λ first others is.
    booted_by c.args.image.now c.args.scripts.items c.remove-first.new.self.items others first c.remove-first.result c.len-count.result
    c.args.quantum c.args.swap c.in_ok-kernel.kernel c.in_ok-tasks.tasks.items
    is c.remove-first.ensures.value c.remove-first.ensures.items (omega (arith, c.len-count.ensures)) c.in_ok-kernel.ensures.booted c.in_ok-tasks.ensures.booted
