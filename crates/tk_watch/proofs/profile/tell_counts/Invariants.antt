use Rattle.std.proofs.Common.{◌-◌, ◌≤◌, ◌++◌}
use Rattle.std.specs.Prelude.{slice_index}
use Rattle.byte_streams.specs.Streams.{IsSent}
use Rattle.tk_watch.specs.Rows.{rows}
use Rattle.tk_watch.specs.ProfileText.{count_text}
use Rattle.tk_watch.proofs.profile.tell_counts.Given as goal

abbrev pub invariant-addresses : goal.invariant-addresses
invariant-addresses g l = record {
  within : l.at ≤ 65536;
  sent : IsSent (l.fn.gathered.items ++ rows (λ a. count_text a (slice_index l.counts a)) l.at) l.gathered.items (g.K.Sink.taken l.fn.out) (g.K.Sink.taken l.out);
  faults : g.K.Sink.faults l.fn.out ≤ g.K.Sink.faults l.out;
}

abbrev pub decreases-addresses : goal.decreases-addresses
decreases-addresses g l = 65536 - l.at
