use Rattle.std.proofs.Common.{ap, ◌∙◌, arith}
use Rattle.flash_words.specs.Layouts.{layout_of}
use Rattle.tk_run.proofs.Booting.{boot_is_kept}
use Rattle.tk_run.proofs.machine.Machine.boot.Goals as goal

pub begun-requires : goal.begun-requires
begun-requires c =
    record {
      kept = (boot_is_kept c.args.options.quantum c.set_count.new.self c.of-layout.result c.words.ensures.image c.requires.quantum (omega arith) c.requires.swap
          (rw c.words.ensures.words at c.in_ok-mote.ensures.reset) c.in_ok-mote.ensures.whole c.set_count.ensures.after
          (c.of-layout.ensures.value ∙ ap layout_of c.len_words.ensures.words)).1;
    }

pub returns : goal.returns
returns c =
    let made = boot_is_kept c.args.options.quantum c.set_count.new.self c.of-layout.result c.words.ensures.image c.requires.quantum (omega arith) c.requires.swap
    (rw c.words.ensures.words at c.in_ok-mote.ensures.reset) c.in_ok-mote.ensures.whole c.set_count.ensures.after
    (c.of-layout.ensures.value ∙ ap layout_of c.len_words.ensures.words) in
    record { booted = c.begun.ensures.begun ∙ made.0; kept = rw c.begun.ensures.begun made.1 }
