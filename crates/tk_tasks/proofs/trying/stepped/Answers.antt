use Rattle.std.proofs.Common.{arith}
use Rattle.tk_tasks.proofs.Trials.{done_quantum, made_done}
use Rattle.tk_tasks.proofs.trying.stepped.Goals as goal

pub behind-requires : goal.behind-requires
behind-requires c = record {
  quantum = done_quantum c.requires.ready c.steps-count.ensures.done;
}

pub returns-clause-made : goal.returns-clause-made
returns-clause-made c =
    made_done c.args.left c.behind.result c.steps-count.ensures.done
    (omega (arith, c.steps-count.ensures.most, c.min.ensures)) c.behind.ensures.count c.behind.ensures.line c.behind.ensures.on c.behind.ensures.over
