use Rattle.std.proofs.Common.{◌++◌, subst}
use Rattle.byte_streams.specs.Streams.{IsSent}
use Rattle.printed_text.specs.Gathering.{Gathers}
use Rattle.printed_text.proofs.Gathered.{gathers_on}
use Rattle.tk_watch.proofs.trace.tell_registers.Goals as goal

pub returns-clause-text : goal.returns-clause-text
returns-clause-text g c =
    let old = c.args.gathered.now.items in
    let mid = c.add.new.gathered.items in
    let left = c.add-2.new.gathered.items in
    let before = g.K.Sink.taken c.args.out.now in
    let after = g.K.Sink.taken c.add.new.out in
    let later = g.K.Sink.taken c.add-2.new.out in
    gathers_on c.add-2.result old mid left _ _ before after later
    (subst (λ t. IsSent (old ++ t) mid before after) c.registers_text.ensures.text c.in_ok-add.ensures.text)
    (subst (Gathers mid left after later c.add-2.result) c.whole.ensures.text c.add-2.ensures.text)
