use Rattle.byte_streams.proofs.standard.StdSink.new.Given as goal

abbrev pub ghost-none : goal.ghost-none
ghost-none g a = g.W.Writer.taken a._side.now
