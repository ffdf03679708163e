use Rattle.std.proofs.Common.{length, ap, ◌∙◌, arith}
use Rattle.flash_words.specs.Layouts.{layout_of}
use Rattle.tk_run.proofs.Booting.{over_is_kept}
use Rattle.tk_run.proofs.machine.Machine.over.Goals as goal

pub begun-requires : goal.begun-requires
begun-requires c =
    record {
      kept = (over_is_kept c.args.flash c.args.script c.args.quantum (length c.args.swap) c.from.result c.args.swap c.over-mote.result c.set_count.new.self c.of-layout.result
          c.len_words.ensures.image c.requires.quantum (omega arith) c.requires.slots c.requires.faithful
          c.renew.ensures.renewed c.renew.ensures.whole.1 c.requires.swap c.over-mote.ensures.reset c.set_count.ensures.after
          (c.of-layout.ensures.value ∙ ap layout_of c.len_words.ensures.words) (c.from.ensures ∙ c.pages_in_use-pages.ensures.value)).1;
    }

pub returns : goal.returns
returns c =
    let made = over_is_kept c.args.flash c.args.script c.args.quantum (length c.args.swap) c.from.result c.args.swap c.over-mote.result c.set_count.new.self c.of-layout.result
    c.len_words.ensures.image c.requires.quantum (omega arith) c.requires.slots c.requires.faithful
    c.renew.ensures.renewed c.renew.ensures.whole.1 c.requires.swap c.over-mote.ensures.reset c.set_count.ensures.after
    (c.of-layout.ensures.value ∙ ap layout_of c.len_words.ensures.words) (c.from.ensures ∙ c.pages_in_use-pages.ensures.value) in
    record {
      over = c.begun.ensures.begun ∙ made.0;
      kept = rw c.begun.ensures.begun made.1;
    }
