use Rattle.tk_watch.proofs.Stops.{puts_behind}
use Rattle.tk_watch.proofs.showing.put_behind.Goals as goal

pub returns-clause-text : goal.returns-clause-text
returns-clause-text g c = puts_behind c.send.result _ c.add.new.gathered.items _ _ _ c.in_ok-add.ensures.text c.send.ensures.text
