use Rattle.std.proofs.lemmas.Result.{err_from_is_err_and}
use Rattle.printed_text.proofs.Gathered.{cut_first, gathers_on}
use Rattle.tk_watch.proofs.state.tell_registers_and_counts.Goals as goal

pub returns-in_err-tell_registers-clause-text : goal.returns-in_err-tell_registers-clause-text
returns-in_err-tell_registers-clause-text g c =
    rw (err_from_is_err_and c.from_residual.result c.from_residual.ensures.1).1 (cut_first c.args.gathered.now.items _ _ _ _ c.in_err-tell_registers.ensures.text)

pub returns-clause-text : goal.returns-clause-text
returns-clause-text g c =
    gathers_on c.tell_counts.result c.args.gathered.now.items c.tell_registers.new.gathered.items c.tell_counts.new.gathered.items _ _ _ _ _
    c.in_ok-tell_registers.ensures.text c.tell_counts.ensures.text
