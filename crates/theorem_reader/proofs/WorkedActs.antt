-- No service and no step of the program without a step of rewritten code: so a body that interprets the original program, and
-- tells none of these, or services alone, is refused.
use Rattle.std.proofs.Common.{◌≡◌, ℕ, zero, suc, ◌≤◌, ◌<◌, Bool, true, false, cond, List, [], ◌∷◌, ◌∙◌, refl, sym, ap, subst, arith, inl, inr}
use Rattle.std.proofs.lemmas.Bool.{and_parts}
use Rattle.mote_core.specs.declared.mote.Mote.{Mote}
use Rattle.flat_machine.specs.FlatMachine.{Program, Run, Moment, End as FlatEnd, Spent, Wild, whole_part, is_inside, at_front, ended, run}
use Rattle.avr_exec.specs.declared.cpu.Cpu.{Cpu}
use Rattle.theorem_reader.specs.Acts.{Act, Step, Service, Arrival, Interrupt, Arrives, In, Outside, Refused, Follow, steps_in, services_in}
use Rattle.theorem_reader.specs.Steps.{AreOfStep, Interrupted, There, Arriving, GoByStep}
use Rattle.program_steps.specs.Machines.{Machine}
use Rattle.theorem_reader.specs.Restarts.{restart_of}
use Rattle.theorem_reader.specs.Runs.{Asked, Start, boot_of, Stands, original_of}
use Rattle.theorem_reader.specs.ByCode.{IsDoneByCode, IsDoneByCodeAgain}
use Rattle.theorem_reader.proofs.Pooling.{place_low}
use Rattle.theorem_reader.proofs.Bounding.{steps_behind}

low_behind : (image : List ℕ) (refused : Bool) (target made : ℕ) (before after : Mote) → Arrives image refused target made before after → before.cpu.pc < 0xF000 → after.cpu.pc < 0xF000
low_behind image refused target made before after (In going inside faithful place others linked next unlisted) low = (place_low image after.flash.words target after.cpu.pc place).1
low_behind image refused target made before after (Outside over outside unmade flash pc) low = omega (arith, pc, low)
low_behind image refused target made before after (Refused over inside later listed faithful lost others (inl pc) next) low = omega (arith, pc, low)
low_behind image refused target made before after (Refused over inside later listed faithful lost others (inr pool) next) low = pool.1

pub no_service_alone : (image : List ℕ) (quantum : ℕ) (first : Mote) (acts : List Act) (last : Mote) → Follow image quantum first acts last → first.cpu.pc < 0xF000 → steps_in acts ≡ 0
    → services_in acts ≡ 0
no_service_alone image quantum first [] last follow low none = refl
no_service_alone image quantum first (Step line before after ∷ acts) last follow low none = absurd (omega (arith, none))
no_service_alone image quantum first (Service line stops before after ∷ acts) last follow low none = absurd (omega (arith, low, follow.1.low, ap (λ (m : Mote). m.cpu.pc) follow.0))
no_service_alone image quantum first (Arrival refused target made ops before after ∷ acts) last follow low none =
    no_service_alone image quantum after acts last follow.2 (low_behind image refused target made before after follow.1.arrives (omega (arith, low, ap (λ (m : Mote). m.cpu.pc) follow.0))) none
no_service_alone image quantum first (Interrupt stops before after ∷ acts) last follow low none =
    no_service_alone image quantum after acts last follow.2 (omega (arith, low, ap (λ (m : Mote). m.cpu.pc) follow.1.stays, ap (λ (m : Mote). m.cpu.pc) follow.0)) none

-- a step of the program at which no interrupt is due
pub steps_of_own : (image : List ℕ) (s : Moment) (before : Mote) (acts : List Act) → s.due ≡ false → AreOfStep image s before acts → 1 ≤ steps_in acts
steps_of_own image s before acts undue (Interrupted asked stops after same taken) = absurd (let e : true ≡ false = sym (and_parts _ _ taken).0 ∙ undue in cc)
steps_of_own image s before acts undue (There untaken place own) = own.some
steps_of_own image s before acts undue (Arriving asked untaken made ops there rest same own) = subst (λ (l : List Act). 1 ≤ steps_in l) (sym same) own.some

-- the first one is such a step
steps_of_first : (image : List ℕ) (quantum : ℕ) (at : ℕ → Moment) (first : Mote) (k : ℕ) (acts : List Act) (last : Mote) → (at 0).due ≡ false → GoByStep image quantum at first (suc k) acts last
    → 1 ≤ steps_in acts
steps_of_first image quantum at first zero acts last undue (before, earlier, own, all, go, state, count, of_step, stops, follow) =
    omega (arith, ap steps_in all, steps_behind earlier own, steps_of_own image (at 0) before own undue of_step)
steps_of_first image quantum at first (suc k) acts last undue (before, earlier, own, all, go, state, count, of_step, stops, follow) =
    omega (arith, ap steps_in all, steps_behind earlier own, steps_of_first image quantum at first k earlier before undue go)

no_step_alone : (image : List ℕ) (quantum : ℕ) (at : ℕ → Moment) (first : Mote) (n : ℕ) (acts : List Act) (last : Mote) → (at 0).due ≡ false → GoByStep image quantum at first n acts last
    → steps_in acts ≡ 0 → n ≡ 0
no_step_alone image quantum at first zero acts last undue go none = refl
no_step_alone image quantum at first (suc k) acts last undue go none = absurd (omega (arith, none, steps_of_first image quantum at first k acts last undue go))

-- before the first step no interrupt is due
at_rest : (inside : Bool) (m : Moment) (end : FlatEnd) → (cond inside (ended Spent m) (ended end m)).state ≡ m
at_rest true m end = refl
at_rest false m end = refl

undue_at_first : (asked : Asked) → (original_of asked 0).state.due ≡ false
unfolding run
undue_at_first asked =
    let program : Program = record { image = asked.image; part = whole_part asked.image; page_limit = asked.slots; quantum = asked.quantum } in
    let first : Moment = at_front program asked.events in
    ap (λ (s : Moment). s.due) (at_rest (is_inside program first.now.cpu.pc) first (Wild first.now.cpu.pc))

done_from : (start : Start) → ((first : Mote) → start.IsFirst first → first.cpu.pc ≡ 0) → (asked : Asked) → (r : Run) → (m : Machine) → Stands start asked r m → m.natural ≡ 0
    → (m.steps ≡ 0) × (m.entries ≡ 0)
done_from start at_reset asked r m stands none =
    let acts = stands.acts in
    let by = stands.by_step in
    let no_steps : steps_in acts.acts ≡ 0 = sym acts.natural_is ∙ none in
    let low : acts.first.cpu.pc < 0xF000 = omega (arith, at_reset acts.first acts.begins) in (
      no_step_alone asked.image asked.quantum (λ k. (original_of asked k).state) acts.first m.steps by.earlier by.last (undue_at_first asked) by.steps
          (omega (arith, no_steps, ap steps_in by.all, steps_behind by.earlier by.rest)),
      acts.entries_is ∙ no_service_alone asked.image asked.quantum acts.first acts.acts m.kernel.mote acts.follow low no_steps,
    )

pub done_by_code : IsDoneByCode
done_by_code asked r m stands none = done_from (boot_of asked) (λ first boot. ap (λ (c : Cpu). c.pc) boot.new.core) asked r m stands none

pub done_by_code_again : IsDoneByCodeAgain
done_by_code_again asked flash r m stands none = done_from (restart_of asked flash) (λ first start. ap (λ (c : Cpu). c.pc) start.new.core) asked r m stands none
