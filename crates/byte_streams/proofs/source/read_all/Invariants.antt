use Rattle.std.proofs.Common.{◌-◌, ◌≤◌, vec_len}
use Rattle.byte_streams.specs.Streams.{Gives, input_of}
use Rattle.byte_streams.proofs.source.read_all.Given as goal

-- the bytes so far are what the source gave, within the limit
abbrev pub invariant-loop-bytes : goal.invariant-loop-bytes
invariant-loop-bytes g l = record {
  within : vec_len l.bytes ≤ l.limit;
  taken : Gives (input_of g.S.Source.left g.S.Source.given g.S.Source.faults l.fn.s) (input_of g.S.Source.left g.S.Source.given g.S.Source.faults l.s) l.bytes.items;
  later : g.S.Source.faults l.fn.s ≤ g.S.Source.faults l.s;
}

abbrev pub decreases-loop-bytes : goal.decreases-loop-bytes
decreases-loop-bytes g l = l.limit - vec_len l.bytes
