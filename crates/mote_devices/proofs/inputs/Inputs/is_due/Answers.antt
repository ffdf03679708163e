use Rattle.std.proofs.Common.{◌≡◌, ◌<◌, ℕ, List, length, arith, ap, ◌∙◌, get_or}
use Rattle.std.proofs.lemmas.Bool.{leb-false}
use Rattle.std.proofs.lemmas.List.{get_or_default}
use Rattle.input_script.specs.declared.input.Event.{Event}
use Rattle.input_script.specs.Script.{IsSchedule}
use Rattle.mote_devices.specs.declared.inputs.Inputs.TheInside.{Inside}
use Rattle.mote_devices.specs.Inputs.{Received, at_poll}
use Rattle.mote_devices.proofs.QueueLaws.{received_of}
use Rattle.mote_devices.proofs.PollLaws.{at_poll-none, none_due}
use Rattle.mote_devices.proofs.inputs.Inputs.is_due.Goals as goal

-- nothing changes where the next event isn't due
settled : (n : ℕ) (now : Received) (i : Inside) → received_of i ≡ now → IsSchedule i.script → ((d : Event) → i.taken < length i.script.events → n < (get_or i.script.events i.taken d).at)
    → at_poll n now ≡ now
settled n now i is schedule next = rw (← is) (at_poll-none n (received_of i) (none_due n i.script.events i.taken schedule.ordered next))

next_above : (n at : ℕ) (events script : List Event) (taken : ℕ) (e d : Event) → events ≡ script → n < at → at ≡ (get_or events taken e).at → taken < length script → n < (get_or script taken d).at
next_above n at events script taken e d same above is inside =
    let there : (get_or events taken e).at ≡ (get_or script taken d).at = ap (λ l. (get_or l taken e).at) same ∙ ap (λ (event : Event). event.at) (get_or_default script taken e d inside) in
    omega arith

pub returns-then-self-events-clause-none : goal.returns-then-self-events-clause-none
returns-then-self-events-clause-none c = λ test.
    let i = c.self.inside in
    settled c.args.poll c.args.self.now i c.self.view_is c.events-events.ensures.schedule
    (λ d inside. next_above c.args.poll c.from.result c.events-events.result.now i.script.events i.taken _ d c.events-events.ensures.value
    (leb-false c.from.result c.args.poll test) c.from.ensures inside)

pub returns-else-self-events-clause-none : goal.returns-else-self-events-clause-none
returns-else-self-events-clause-none c = λ test.
    let i = c.self.inside in
    settled c.args.poll c.args.self.now i c.self.view_is c.events-events.ensures.schedule (λ d inside. absurd (omega (arith, ap (length {A = Event}) c.events-events.ensures.value)))
