use Rattle.program_steps.proofs.Awaiting.{free_of}
use Rattle.std.specs.Option.{option_or}
use Rattle.std.proofs.Common.{refl, ap, ◌∙◌}
use Rattle.flash_words.specs.Memory.{Memory}
use Rattle.program_steps.specs.Wholes.{whole}
use Rattle.program_steps.specs.Machines.{numbers_of}
use Rattle.program_steps.proofs.Told.{plain_state, plain_numbers}
use Rattle.program_steps.proofs.moves.plain.Goals as goal

pub plain_step_into-requires-clause-step : goal.plain_step_into-requires-clause-step
plain_step_into-requires-clause-step c = c.requires.can.makes.can

pub plain_step_into-requires-clause-room : goal.plain_step_into-requires-clause-room
plain_step_into-requires-clause-room c = c.requires.can.makes.room

pub returns-clause-stepped : goal.returns-clause-stepped
returns-clause-stepped c = λ begins line y makes.
    let m = whole c.args.k.now c.args.p.now in
    let made = c.plain_step_into.ensures.step in
    let both = plain_state c.plain_step_into.new.self made.shown made.step makes in
    record {
      state = both.0;
      numbers = plain_numbers (numbers_of m) line c.args.p.now.before c.args.p.now.longest _ refl refl (ap (λ (f : Memory). f.ops) made.step.flash);
      written = made.line ∙ ap (λ l. option_or l c.args.p.now.line) both.1;
      rest = record { at = refl; broken = refl; crossings = refl; due = λ free. refl };
    }

pub returns-clause-free : goal.returns-clause-free
returns-clause-free c = (free_of (whole c.args.k.now c.args.p.now) c.requires.can.makes.free, c.requires.can.makes.going)

pub returns-clause-keeps : goal.returns-clause-keeps
returns-clause-keeps c = record { flash = c.plain_step_into.ensures.step.step.flash; layout = refl; torn = refl }
