use Rattle.std.proofs.Common.{sym, ap, ◌∙◌, refl, arith}
use Rattle.program_steps.specs.Wholes.{whole}
use Rattle.program_steps.proofs.TakingLaws.{none_wanted, none_taken, taken_vector, taken_stopped}
use Rattle.program_steps.proofs.interrupts.take.Goals as goal

pub returns-in-None : goal.returns-in-None
returns-in-None c = absurd (none_wanted (whole c.args.k.now c.args.p.now) c.in-None.is c.requires.wanted)

pub interrupt-requires : goal.interrupt-requires
interrupt-requires c =
    let ready = c.requires.ready in
    let order = ready.order in
    record {
      paged = order.paged;
      room = omega (arith, ready.polls, c.requires.steps);
    }

pub overflow_add-p : goal.overflow_add-p
overflow_add-p c = omega (arith, c.requires.steps)

pub returns-in-Nothing : goal.returns-in-Nothing
returns-in-Nothing c = absurd (none_taken (whole c.args.k.now c.args.p.now) c.in-Some.owed c.in-Some.is c.requires.wanted (c.interrupt.ensures.row.nothing.0 c.in-Nothing.is))

pub returns-in-Vector : goal.returns-in-Vector
returns-in-Vector c =
    let stepped = taken_vector c.in-Some.owed c.in-Vector.target c.interrupt.new.k c.requires.ready c.in-Some.is c.requires.steps c.requires.wanted
    (ap (λ r. (r, c.interrupt.new.k)) (sym c.in-Vector.is) ∙ c.interrupt.ensures.taken) in
    record { stepped = stepped; end = sym c.requires.ready.going; flash = stepped.flash; layout = stepped.stays.layout }

pub returns-in-Stopped : goal.returns-in-Stopped
returns-in-Stopped c =
    let stepped = taken_stopped c.in-Some.owed c.in-Stopped.stop c.interrupt.new.k c.requires.ready c.in-Some.is c.requires.steps c.requires.wanted
    (ap (λ r. (r, c.interrupt.new.k)) (sym c.in-Stopped.is) ∙ c.interrupt.ensures.taken) in
    record { stepped = stepped; end = refl; flash = stepped.flash; layout = stepped.stays.layout }
