use Rattle.std.proofs.Common.{rules}
use Rattle.parked_tasks.proofs.Parkings.{shared, back, took}
use Rattle.parked_tasks.proofs.parked.Parked.exchange.Goals as goal

pub returns-clause-shares : goal.returns-clause-shares
returns-clause-shares c =
    let mote = c.args.mote.now in
    let parked = c.args.self.now in
    let is = took mote parked c.swap.new.y c.set_part.new.self c.set_part-2.new.self c.swap-3.new.y c.swap-2.new.y
    c.swap.ensures.y_after c.set_part.ensures.after c.set_part-2.ensures.after c.swap-3.ensures.y_after c.swap-2.ensures.y_after in
    rw is (shared mote parked c.part.ensures.size (search rules) (search rules))

pub returns-clause-back : goal.returns-clause-back
returns-clause-back c = λ was whole same.
    let mote = c.args.mote.now in
    let parked = c.args.self.now in
    let is = took mote parked c.swap.new.y c.set_part.new.self c.set_part-2.new.self c.swap-3.new.y c.swap-2.new.y
    c.swap.ensures.y_after c.set_part.ensures.after c.set_part-2.ensures.after c.swap-3.ensures.y_after c.swap-2.ensures.y_after in
    rw is (back was mote parked whole c.part.ensures.size same)
