use Rattle.flash_dump.proofs.DumpBack.{dump_written}
use Rattle.flash_dump.proofs.dump_writing.write_dump.Goals as goal

pub returns-clause-read_back : goal.returns-clause-read_back
returns-clause-read_back c =
    rw c.in_ok-text_of.ensures.text (dump_written c.args.flash.now.words c.in_ok-text_of.ensures.whole.words c.in_ok-text_of.ensures.whole.words_fit)
