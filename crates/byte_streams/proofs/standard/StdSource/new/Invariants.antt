use Rattle.std.proofs.Common.{None}
use Rattle.byte_streams.proofs.standard.StdSource.new.Given as goal

abbrev pub ghost-none : goal.ghost-none
ghost-none g a = None
