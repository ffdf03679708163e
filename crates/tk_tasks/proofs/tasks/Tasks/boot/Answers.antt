use Rattle.std.proofs.Common.{◌≡◌, ◌+◌, ◌∷◌, List, length, ap, ◌∙◌, sym, arith}
use Rattle.input_script.specs.Script.{Schedule}
use Rattle.task_input.specs.Images.{task_words}
use Rattle.task_turns.specs.Reset.{turns_at_reset}
use Rattle.parked_tasks.proofs.Waiting.{some_scripts, words_at_boot}
use Rattle.tk_tasks.specs.States.{turns_of}
use Rattle.tk_tasks.proofs.Starting.{CanStart, unstarted_at_boot, sound_at_boot, turns_at_boot}
use Rattle.tk_tasks.proofs.Booting.{tasks_booted, flash_booted}
use Rattle.tk_tasks.proofs.tasks.Tasks.boot.Goals as goal

can_start : (c : goal.In_ok-booted) (first : Schedule) (others : List Schedule) → c.args.scripts.items ≡ first ∷ others
    → CanStart (task_words (length others + 1) c.args.image.now) (length others + 1) c.args.quantum c.args.swap
can_start c first others is =
    let size : length c.args.scripts.items ≡ length (first ∷ others) = ap length is in
    let few = c.requires.tasks.1 in
    record {
      long = words_at_boot (length others + 1) c.args.image.now;
      some = omega arith;
      few = omega (arith, size, few);
      quantum_some = c.requires.quantum;
      quantum_low = omega arith;
      room = omega (arith, c.requires.swap);
      whole = flash_booted (c.in_ok-booted.ensures.booted first others is) c.in_ok-booted.ensures.whole;
    }

pub returns-clause-booted : goal.returns-clause-booted
returns-clause-booted c = λ first others is. tasks_booted (c.in_ok-booted.ensures.booted first others is)

pub returns-clause-sound : goal.returns-clause-sound
returns-clause-sound c =
    let all = some_scripts c.args.scripts.items c.requires.tasks.0 in
    rw (returns-clause-booted c all.0 all.1 all.2) (sound_at_boot c.args.image.now all.0 all.1 c.args.quantum c.args.swap (can_start c all.0 all.1 all.2))

pub returns-clause-turns : goal.returns-clause-turns
returns-clause-turns c =
    let all = some_scripts c.args.scripts.items c.requires.tasks.0 in
    λ n. ap (turns_of n) (returns-clause-booted c all.0 all.1 all.2) ∙ turns_at_boot n c.args.image.now all.0 all.1 c.args.quantum c.args.swap (can_start c all.0 all.1 all.2)
    ∙ ap (λ s. turns_at_reset c.args.image.now s c.args.quantum c.args.swap n) (sym all.2)

pub returns-clause-unstarted : goal.returns-clause-unstarted
returns-clause-unstarted c =
    let all = some_scripts c.args.scripts.items c.requires.tasks.0 in
    rw (returns-clause-booted c all.0 all.1 all.2) (unstarted_at_boot c.args.image.now all.0 all.1 c.args.quantum c.args.swap)
