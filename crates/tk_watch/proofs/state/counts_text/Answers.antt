use Rattle.std.proofs.Common.{◌∙◌, sym}
use Rattle.heap_frames.proofs.CountLaws.{number_of_pages}
use Rattle.tk_watch.proofs.StateLaws.{same_counts}
use Rattle.tk_watch.proofs.state.counts_text.Goals as goal

pub returns : goal.returns
returns c =
    let m = c.args.mote.now in
    let events = c.args.bounds.events in
    record {
      text = c.counts.ensures.text
          ∙ same_counts _ _ _ _ events _ _ c.args.bounds.slots c.polls.ensures.value c.events_taken-taken.ensures.value (c.given.ensures.value ∙ sym (number_of_pages m.sram m.swap c.requires.paged));
    }
