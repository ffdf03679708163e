use Rattle.std.proofs.Common.{◌≡◌, ℕ, ◌+◌, ◌∷◌, ◌++◌, [], List, Some, Option, Err, arith, ap, ap₂, ◌∙◌, sym, refl, subst, inl}
use Rattle.std.proofs.lemmas.Grind.{common_steps}
use Rattle.input_script.specs.declared.fault.ScriptError.TheVariants.{Bad}
use Rattle.input_script.specs.declared.fault.ScriptFault.{ScriptFault}
use Rattle.input_script.specs.Script.{Schedule}
use Rattle.task_input.specs.declared.script.BadLine.{BadLine}
use Rattle.task_input.specs.Reading.{IsFar, earlier}
use Rattle.task_input.proofs.FirstFaults.{far_fine, far_bad, far_end, far_schedules, schedules_apart, schedules_one, first_one, none_fail, pair_of}
use Rattle.task_input.proofs.script.read_scripts.Goals.{in-Ok+else-is_err, in-Err-Bad}
use Rattle.task_input.proofs.script.read_scripts.Goals as goal

pub tasks-preserved : goal.tasks-preserved
tasks-preserved c =
    let text = c.args.text.now in
    let next = c.tasks.task + 1 in
    let P : Option BadLine → List Schedule → Type 0 = λ first schedules. IsFar c.args.count text next first schedules in
    elim c.match-read_task.branch [
      | in-Ok+else-is_err w ↦
          let pushed : w.push.new.self.items ≡ c.tasks.scripts.items ++ w.in-Ok.script ∷ [] = grind (arith, common_steps) in
          let far = far_fine c.args.count text c.tasks.task c.tasks.first c.tasks.scripts.items w.push.new.self.items w.in-Ok.script c.tasks.invariant c.tasks-test.true w.in-Ok.ensures.ok pushed in
          subst (λ f. P f c.match-read_task.scripts.items) (sym w.first-is) (subst (P c.tasks.first) (sym (ap (λ v. v.items) w.scripts-is)) far)
      | in-Err-Bad w ↦
          let bad : BadLine = record { line = w.in-Err-Bad.line; fault = w.in-Err-Bad.fault } in
          let faulty = (rw w.in-Err-Bad.field-0-is at w.in-Err-Bad.ensures.bad) bad.line bad.fault refl in
          let far = far_bad c.args.count text c.tasks.task c.tasks.first c.tasks.scripts.items bad c.tasks.invariant c.tasks-test.true faulty in
          let first : c.match-read_task.first ≡ Some (earlier c.tasks.first bad) = w.first-is ∙ ap (λ b. Some b) w.earlier.ensures.value in
          subst (λ f. P f c.match-read_task.scripts.items) (sym first) (subst (P (Some (earlier c.tasks.first bad))) (sym (ap (λ v. v.items) w.scripts-is)) far)
    ]

pub returns-in-Some-clause-bad : goal.returns-in-Some-clause-bad
returns-in-Some-clause-bad c = λ line fault same.
    let bad = c.in-Some.field-0 in
    let first = sym (far_end c.args.count c.tasks.task c.args.text.now c.tasks.first c.tasks.scripts.items c.tasks-test.false c.tasks.auto.task-end c.tasks.invariant) ∙ ap pair_of c.in-Some.is in
    let at : bad.line ≡ line = cc in
    let its : bad.fault ≡ fault = cc in
    first ∙ ap₂ (λ (l : ℕ) (f : ScriptFault). Some (l, f)) at its

pub returns-in-Some-clause-accepted : goal.returns-in-Some-clause-accepted
returns-in-Some-clause-accepted c = λ schedules read.
    let bad = c.in-Some.field-0 in
    let first = sym (far_end c.args.count c.tasks.task c.args.text.now c.tasks.first c.tasks.scripts.items c.tasks-test.false c.tasks.auto.task-end c.tasks.invariant) ∙ ap pair_of c.in-Some.is in
    absurd (schedules_apart c.args.count c.args.text.now schedules bad.line bad.fault read first)

pub returns-in-Some-clause-refused : goal.returns-in-Some-clause-refused
returns-in-Some-clause-refused c = λ line fault other.
    let bad = c.in-Some.field-0 in
    let first = sym (far_end c.args.count c.tasks.task c.args.text.now c.tasks.first c.tasks.scripts.items c.tasks-test.false c.tasks.auto.task-end c.tasks.invariant) ∙ ap pair_of c.in-Some.is in
    let one = first_one c.args.count c.args.text.now bad.line line bad.fault fault first other in
    inl (ap₂ (λ l f. Err (Bad l f)) one.0 one.1)

pub returns-in-None-clause-ok : goal.returns-in-None-clause-ok
returns-in-None-clause-ok c = far_schedules c.args.count c.tasks.task c.args.text.now c.tasks.first c.tasks.scripts.items c.tasks-test.false c.tasks.auto.task-end c.tasks.invariant c.in-None.is

pub returns-in-None-clause-accepted : goal.returns-in-None-clause-accepted
returns-in-None-clause-accepted c = λ schedules read.
    let fine = far_schedules c.args.count c.tasks.task c.args.text.now c.tasks.first c.tasks.scripts.items c.tasks-test.false c.tasks.auto.task-end c.tasks.invariant c.in-None.is in
    schedules_one c.args.count c.args.text.now c.tasks.scripts.items schedules fine read

pub returns-in-None-clause-refused : goal.returns-in-None-clause-refused
returns-in-None-clause-refused c = λ line fault other.
    let fine = far_schedules c.args.count c.tasks.task c.args.text.now c.tasks.first c.tasks.scripts.items c.tasks-test.false c.tasks.auto.task-end c.tasks.invariant c.in-None.is in
    absurd (schedules_apart c.args.count c.args.text.now c.tasks.scripts.items line fault fine other)

pub returns-in-None-clause-unfailing : goal.returns-in-None-clause-unfailing
returns-in-None-clause-unfailing c =
    let fine = far_schedules c.args.count c.tasks.task c.args.text.now c.tasks.first c.tasks.scripts.items c.tasks-test.false c.tasks.auto.task-end c.tasks.invariant c.in-None.is in
    none_fail c.args.count c.args.text.now c.tasks.scripts.items fine
