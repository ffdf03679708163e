use Rattle.branch_bridge.specs.Arrivals.{Store}
use Rattle.program_steps.proofs.Arriving.{has_arrived}
use Rattle.program_steps.proofs.arrival.arrive_owed.Goals as goal

pub returns-clause-arrived : goal.returns-clause-arrived
returns-clause-arrived c =
    let store : Store = record { flash = c.arrive_through-arrival.new.flash; sram = c.arrive_through-arrival.new.sram } in
    has_arrived c.args.k.now c.args.p.now c.note_arrival.new.p c.args.owed store c.arrive_through-arrival.result c.unwrap_or-k.result
    c.requires.owed c.requires.going c.requires.untorn c.requires.untaken c.requires.admitted
    (record { right = c.requires.right; faithful = c.requires.faithful; came = c.requires.stub; ring = c.requires.ring })
    c.arrive_through-arrival.ensures.arrives c.arrive_through-arrival.ensures.kept c.arrive_through-arrival.ensures.parts c.unwrap_or-k.ensures c.note_arrival.ensures.noted

pub returns-clause-stale : goal.returns-clause-stale
returns-clause-stale c = c.stale_behind.ensures.stale c.args.k.now.layout c.args.k.now.mote.flash.words c.arrive_through-arrival.new.flash.words c.arrive_through-arrival.ensures.entries
