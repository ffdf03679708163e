use Rattle.std.proofs.Common.{◌∙◌, arith}
use Rattle.parked_tasks.proofs.Booting.{first_stands, next_stands, all_stand}
use Rattle.parked_tasks.proofs.boot.tasks_at_boot.Goals as goal

pub waiting-init : goal.waiting-init
waiting-init c = record {
  so_far = first_stands _ _ _ _ _ c.in_ok-add.ensures.added c.new-tasks.ensures.items c.at_start.ensures.value;
  left = omega (arith, c.len.ensures);
}

pub waiting-preserved : goal.waiting-preserved
waiting-preserved c = record {
  so_far = next_stands c.waiting.tasks.items _ c.waiting.task c.waiting.scripts.items _ _ _ c.args.quantum c.args.swap
      (omega (arith, c.waiting.invariant.left, c.waiting-test.true)) c.remove.ensures.value c.remove.ensures.items
      c.in_ok-parked.ensures.parked c.at_start-in-waiting.ensures.value c.in_ok-add-2.ensures.added ∙ c.waiting.invariant.so_far;
  left = omega (arith, c.waiting.invariant.left, c.waiting-test.true, c.remove.ensures.len);
}

pub returns : goal.returns
returns c = record {
  booted = all_stand c.waiting.tasks.items _ c.waiting.task c.waiting.scripts.items c.args.quantum c.args.swap
      (omega (arith, c.waiting.invariant.left, c.waiting-test.false)) c.waiting.invariant.so_far;
}
