use Rattle.std.proofs.Common.{◌≡◌, sym, subst}
use Rattle.std.specs.Prelude.{Result}
use Rattle.avr_exec.specs.Spaces.{Outcome, outcome_of}
use Rattle.avr_exec.specs.Likeness.{Leaves}
use Rattle.avr_exec.specs.declared.stop.BusStop.{BusStop}
use Rattle.mem_guard.specs.Bus.{guarded_of}
use Rattle.mem_guard.specs.Guarded.{Guarded}
use Rattle.kernel_entry.specs.Parts.{memory_of}
use Rattle.kernel_entry.proofs.InterruptLaws.{push_devices}
use Rattle.kernel_entry.proofs.interrupts.push.Goals as goal

pub returns-in-Ok-clause-devices : goal.returns-in-Ok-clause-devices
returns-in-Ok-clause-devices c =
    let k = c.args.k.now in
    let P : Outcome Guarded (Unit {0}) → Type 0 = λ o. Leaves (λ (next : Guarded). next.devices ≡ k.mote.devices) o in
    let Q : Result (Unit {0}) BusStop → Type 0 = λ r. P (outcome_of r (guarded_of c.push_ret.new.self)) in
    subst Q c.in-Ok.is (subst P (sym c.push_ret.ensures.answer) (push_devices (memory_of k) c.vsp-sp.result c.args.address))
