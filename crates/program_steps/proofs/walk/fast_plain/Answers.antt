use Rattle.std.proofs.Common.{◌≡◌, ℕ, ◌+◌, true, refl, ap}
use Rattle.std.specs.Prelude.{Option, Some, None, IfSome}
use Rattle.std.specs.Option.{option_or}
use Rattle.flash_words.specs.Memory.{Memory}
use Rattle.mote_core.specs.declared.mote.Mote.{Mote}
use Rattle.mote_core.specs.declared.mote.Plain.TheVariants.{Went}
use Rattle.mote_core.specs.Conditions.{can_step}
use Rattle.mote_core.specs.Step.{form_at, IsPlainStep}
use Rattle.kernel_entry.specs.declared.kernel.Kernel.{Kernel}
use Rattle.program_steps.specs.declared.progress.Progress.{Progress}
use Rattle.program_steps.specs.Walking.{kernel_with, progress_at}
use Rattle.program_steps.specs.Loop.{HasPlain}
use Rattle.program_steps.specs.Machines.{numbers_of}
use Rattle.program_steps.specs.Wholes.{whole}
use Rattle.program_steps.proofs.Told.{plain_state, plain_numbers}
use Rattle.program_steps.proofs.walk.fast_plain.Goals as goal

if_map : {P Q : ℕ → Type 0} (told : Option ℕ) → ((n : ℕ) → P n → Q n) → IfSome told P → IfSome told Q
if_map None f is = tt
if_map (Some n) f is = f n is

plain_by_step : (k : Kernel) {next : Mote} (p : Progress) → (can_step (form_at k.mote) k.mote.cpu ≡ true → IsPlainStep k.mote Went next)
    → HasPlain (whole k p) (whole (record k { mote = next }) (progress_at p (p.since + 1) p.steps)) p.line p.line
plain_by_step k {next} p step = λ begins line y makes.
    let m = whole k p in
    let made = step makes.can in
    let both = plain_state next Went made makes in
    record {
      state = both.0;
      numbers = plain_numbers (numbers_of m) line p.before p.longest _ refl refl (ap (λ (f : Memory). f.ops) made.flash);
      written = ap (λ l. option_or l p.line) both.1;
      rest = record { at = refl; broken = refl; crossings = refl; due = λ free. refl };
    }

pub returns-clause-stepped : goal.returns-clause-stepped
returns-clause-stepped c =
    if_map c.fast_move.result (λ next step k p are. plain_by_step (kernel_with k c.args.cpu.now c.args.sram.now c.args.sreg.now c.args.place) p (step k.mote are)) c.fast_move.ensures.step
