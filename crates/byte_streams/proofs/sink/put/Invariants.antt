use Rattle.std.proofs.Common.{◌≤◌, length}
use Rattle.byte_streams.specs.Streams.{IsSent}
use Rattle.byte_streams.proofs.sink.put.Given as goal

-- what went out is the front of the bytes, and the rest is what is left of them
abbrev pub invariant-loop-rest : goal.invariant-loop-rest
invariant-loop-rest g l = record {
  sent : IsSent l.bytes l.rest (g.K.Sink.taken l.fn.k) (g.K.Sink.taken l.k);
  later : g.K.Sink.faults l.fn.k ≤ g.K.Sink.faults l.k;
}

abbrev pub decreases-loop-rest : goal.decreases-loop-rest
decreases-loop-rest g l = length l.rest
