use Rattle.std.proofs.Common.{◌≡◌, sym, ap, ap₂, ◌∙◌, arith}
use Rattle.std.specs.Prelude.{slice_get}
use Rattle.flat_machine.specs.declared.part.Part.{Part}
use Rattle.mote_core.specs.declared.mote.Mote.{Mote}
use Rattle.kernel_entry.specs.declared.kernel.Kernel.{Kernel}
use Rattle.task_turns.specs.Quarters.{quarter_part}
use Rattle.parked_tasks.specs.Handing.{parked_by, handed_over}
use Rattle.parked_tasks.proofs.NextTasks.{is_next}
use Rattle.parked_tasks.proofs.handing.give_on.Goals as goal

pub hand_over-requires-clause-below : goal.hand_over-requires-clause-below
hand_over-requires-clause-below c = (is_next c.args.running c.args.tasks.now c.in-Some.next c.requires.one_runs (sym c.next_going-next.ensures.next ∙ c.in-Some.is)).below

pub quarter_of-kernel-requires : goal.quarter_of-kernel-requires
quarter_of-kernel-requires c =
    let below = (is_next c.args.running c.args.tasks.now c.in-Some.next c.requires.one_runs (sym c.next_going-next.ensures.next ∙ c.in-Some.is)).below in
    omega (arith, below, c.requires.few)

pub returns-in-Some-clause-given : goal.returns-in-Some-clause-given
returns-in-Some-clause-given c = λ next parked is has.
    let k : Kernel = c.args.kernel.now in
    let tasks = c.args.tasks.now in
    let same : c.in-Some.next ≡ next = cc in
    let done = c.hand_over.ensures.given parked (ap (λ i. parked_by (slice_get tasks i)) same ∙ has) in
    let K : Mote → Part → Kernel = λ m p. record k { mote = m; part = p } in
    (ap₂ K done.0 (c.quarter_of-kernel.ensures.value ∙ ap quarter_part same), done.1 ∙ ap (λ i. handed_over tasks c.args.running i k.mote) same)
