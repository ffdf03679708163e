use Rattle.std.proofs.Common.{◌++◌, ap, subst, ◌∙◌}
use Rattle.byte_streams.specs.Streams.{IsSent}
use Rattle.printed_text.proofs.Gathered.{gathers_on}
use Rattle.tk_watch.specs.TraceText.{core_told}
use Rattle.tk_watch.proofs.trace.tell_whole_row.Goals as goal

pub returns-clause-text : goal.returns-clause-text
returns-clause-text g c =
    let old = c.args.gathered.now.items in
    let mid = c.add.new.gathered.items in
    let left = c.tell_registers.new.gathered.items in
    let before = g.K.Sink.taken c.args.out.now in
    let after = g.K.Sink.taken c.add.new.out in
    let later = g.K.Sink.taken c.tell_registers.new.out in
    let line = c.core_text-core.ensures.text ∙ ap (λ sp. core_told c.args.step c.args.at sp c.args.mote.now.cpu.sreg) c.vsp.ensures.value in
    gathers_on c.tell_registers.result old mid left _ _ before after later
    (subst (λ t. IsSent (old ++ t) mid before after) line c.in_ok-add.ensures.text) c.tell_registers.ensures.text
