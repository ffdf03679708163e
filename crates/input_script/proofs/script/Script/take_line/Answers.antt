use Rattle.std.proofs.Common.{◌≡◌, ℕ, List, sym, subst}
use Rattle.std.specs.Prelude.{Some, None}
use Rattle.input_script.specs.declared.input.Event.{Event}
use Rattle.input_script.specs.declared.line.Statement.TheVariants.{At, FailFlash}
use Rattle.input_script.specs.Script.{Schedule, IsSchedule, fault_of}
use Rattle.input_script.proofs.Schedules.{either_way, schedule_next, sound_next}
use Rattle.input_script.proofs.script.Script.take_line.Goals as goal

pub invariant_of-self : goal.invariant_of-self
invariant_of-self c =
    let i = c.self.inside in
    let before : Schedule = record { events = i.events.items; failing = i.failing.items } in
    let statement = At c.in-Ok-At.number c.in-Ok-At.input in
    let sound = subst (λ s. fault_of s (Some statement) ≡ None) (sym c.self.view_is) (rw c.in-Ok-At.field-0-is at c.in-Ok-At.ensures.cases).1 in
    let Q : List Event → Type 0 = λ events. IsSchedule (record { events = events; failing = i.failing.items }) in
    either_way Q _ _ _ _ c.push.ensures.items (schedule_next before statement c.self.invariant (sound_next before statement sound)) c.self.invariant

pub invariant_of-self-in-Ok-FailFlash : goal.invariant_of-self-in-Ok-FailFlash
invariant_of-self-in-Ok-FailFlash c =
    let i = c.self.inside in
    let before : Schedule = record { events = i.events.items; failing = i.failing.items } in
    let statement = FailFlash c.in-Ok-FailFlash.number in
    let sound = subst (λ s. fault_of s (Some statement) ≡ None) (sym c.self.view_is) (rw c.in-Ok-FailFlash.field-0-is at c.in-Ok-FailFlash.ensures.cases).1 in
    let Q : List ℕ → Type 0 = λ failing. IsSchedule (record { events = i.events.items; failing = failing }) in
    either_way Q _ _ _ _ c.push-in-Ok-FailFlash.ensures.items (schedule_next before statement c.self.invariant (sound_next before statement sound)) c.self.invariant
