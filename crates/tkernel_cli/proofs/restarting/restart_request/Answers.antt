use Rattle.std.proofs.Common.{◌≡◌, ◌≤◌, ℕ, List, length, sym, ap, ap₂, ◌∙◌, subst, refl, inl, arith}
use Rattle.hex_image.specs.Image.{IsImage}
use Rattle.flash_words.specs.Layouts.{IsRight, layout_of}
use Rattle.flash_words.specs.declared.layout.Layout.{Layout}
use Rattle.flash_words.proofs.LayoutLaws.{layout_right}
use Rattle.nat_page.specs.Faithful.{IsFaithful}
use Rattle.nat_page.specs.Used.{used_pages}
use Rattle.pool_check.specs.Links.{HaveFormsAround}
use Rattle.swap_store.specs.Slots.{zero_slots}
use Rattle.kernel_entry.specs.Parts.{image_held}
use Rattle.program_steps.specs.Machines.{Machine}
use Rattle.tk_restart.specs.Restarting.{Restarts}
use Rattle.tk_run.specs.Booted.{started_over}
use Rattle.tkernel_cli.specs.RestartRuns.{lost_flash}
use Rattle.tkernel_cli.proofs.RestartEnds.{held_silent}
use Rattle.tkernel_cli.proofs.restarting.restart_request.Goals as goal

pub run_silently-requires-clause-image : goal.run_silently-requires-clause-image
run_silently-requires-clause-image g c = subst IsImage c.image.view_is c.image.invariant

pub restart-told-requires : goal.restart-told-requires
restart-told-requires g c =
    let request = c.args.request in
    let layout = ap (λ (m : Machine). m.kernel.layout) c.first.view_is ∙ c.in-Ok-run_silently.ensures.layout in
    let ran = c.in-Ok-run_silently.ensures.ran in
    let held = held_silent request ran.0 c.in-Ok-run_silently.machine ran.1 in
    record {
      right = subst IsRight (sym layout) (layout_right (length request.image) c.words.ensures.image.few);
      length = ap length c.words.ensures.words ∙ sym (ap (λ (l : Layout). l.image_words) layout);
      around = subst (λ i. HaveFormsAround c.first.inside.kernel.layout i c.lost_flash-flash.result.words) (held ∙ sym c.words.ensures.words)
          (subst (λ (l : Layout). HaveFormsAround l (image_held c.in-Ok-run_silently.machine.kernel) c.lost_flash-flash.result.words) (sym (ap (λ (m : Machine). m.kernel.layout) c.first.view_is))
          (subst (λ (m : Machine). HaveFormsAround m.kernel.layout (image_held m.kernel) c.lost_flash-flash.result.words) c.take_cursor-cursor.ensures.same c.lost_flash-flash.ensures.around));
      sound = c.lost_flash-flash.ensures.sound;
      room = omega (arith, c.lost_flash-flash.ensures.few);
    }

pub over-machine-requires : goal.over-machine-requires
over-machine-requires g c =
    let request = c.args.request in
    let layout = ap (λ (m : Machine). m.kernel.layout) c.first.view_is ∙ c.in-Ok-run_silently.ensures.layout in
    let P : Layout → List ℕ → Type 0 = λ l i. IsFaithful l i c.restart-told.new.flash.words in
    record {
      faithful = subst (λ l. P l request.image) layout (subst (P c.first.inside.kernel.layout) c.words.ensures.words c.restart-told.ensures.faithful);
      quantum = c.requires.possible.0;
      swap = c.in-Ok.ensures.value ∙ ap zero_slots (sym c.in-Ok.ensures.count);
      slots = omega (arith, c.in-Ok.ensures.count, c.requires.possible.1);
    }

pub run_again-status-requires-clause-quantum : goal.run_again-status-requires-clause-quantum
run_again-status-requires-clause-quantum g c = subst (λ (m : Machine). 1 ≤ m.kernel.quantum) (sym (c.keep_cursor.ensures.same ∙ c.over-machine.ensures.over)) c.requires.possible.0

pub returns : goal.returns
returns g c =
    let request = c.args.request in
    let layout = ap (λ (m : Machine). m.kernel.layout) c.first.view_is ∙ c.in-Ok-run_silently.ensures.layout in
    let ran = c.in-Ok-run_silently.ensures.ran in
    let left = c.restart-told.new.flash in
    let R : Layout → List ℕ → Type 0 = λ l i. Restarts l i c.lost_flash-flash.result left c.restart-told.result in
    let P : Layout → List ℕ → Type 0 = λ l i. IsFaithful l i left.words in
    let faithful = subst (λ l. P l request.image) layout (subst (P c.first.inside.kernel.layout) c.words.ensures.words c.restart-told.ensures.faithful) in
    let start = c.keep_cursor.ensures.same ∙ c.over-machine.ensures.over ∙ ap₂ (λ s n. started_over request.image left s request.options.quantum n) c.requires.same c.in-Ok.ensures.count in
    record {
      done = inl (record {
        first = c.in-Ok-run_silently.machine;
        ended = ran.0;
        runs = ran.1;
        left = left;
        told = c.restart-told.result;
        restarts = subst (λ f. Restarts (layout_of (length request.image)) request.image f left c.restart-told.result)
            (c.lost_flash-flash.ensures.lost ∙ ap lost_flash c.take_cursor-cursor.ensures.same)
            (subst (λ l. R l request.image) layout (subst (R c.first.inside.kernel.layout) c.words.ensures.words c.restart-told.ensures.restarts));
        faithful = faithful;
        used = subst (λ l. used_pages l left.words ≡ c.restart-told.result.kept) layout c.restart-told.ensures.used;
        machine = c.run_again-status.new.machine;
        kept = refl;
        over = c.run_again-status.ensures.over request left start faithful refl;
      });
    }
