use Rattle.printed_text.proofs.Gathered.{gathers_on}
use Rattle.tk_watch.proofs.access_rows.tell_pop.Goals as goal

pub returns-clause-text : goal.returns-clause-text
returns-clause-text g c =
    gathers_on c.tell-2.result c.args.gathered.now.items c.tell.new.gathered.items c.tell-2.new.gathered.items _ _ (g.K.Sink.taken c.args.out.now) (g.K.Sink.taken c.tell.new.out)
    (g.K.Sink.taken c.tell-2.new.out) c.in_ok-tell.ensures.text c.tell-2.ensures.text
