use Rattle.std.proofs.Common.{◌≡◌, ◌*◌, arith}
use Rattle.std.proofs.lemmas.Result.{err_from_is_err_and}
use Rattle.heap_frames.specs.Memory.{vmem}
use Rattle.tk_watch.specs.MemoryText.{row_text}
use Rattle.tk_watch.proofs.Rows.{rows_begin, rows_next, rows_cut}
use Rattle.tk_watch.proofs.memory.tell_memory.Goals as goal

pub rows-init : goal.rows-init
rows-init g c = record {
  within = omega arith;
  sent = rows_begin (λ row. row_text (vmem c.args.mote.now.sram c.args.mote.now.swap) (16 * row)) c.args.gathered.now.items (g.K.Sink.taken c.args.out.now);
  faults = omega arith;
}

pub rows-preserved : goal.rows-preserved
rows-preserved g c = record {
  within = omega (arith, c.rows-test.true);
  sent = rows_next _ c.args.gathered.now.items c.rows.row c.rows.invariant.sent c.in_ok-add_row.ensures.text;
  faults = omega (arith, c.rows.invariant.faults, c.in_ok-add_row.ensures.cause.later);
}

pub returns-in_err-add_row-clause-text : goal.returns-in_err-add_row-clause-text
returns-in_err-add_row-clause-text g c =
    let failed = err_from_is_err_and c.from_residual.result c.from_residual.ensures.1 in
    rw failed.1 (rows_cut _ c.args.gathered.now.items c.rows.row 4096 _ c.rows-test.true c.rows.invariant.sent c.in_err-add_row.ensures.text)

pub returns-clause-text : goal.returns-clause-text
returns-clause-text g c =
    let done : c.rows.row ≡ 4096 = omega (arith, c.rows-test.false, c.rows.invariant.within) in
    rw done at c.rows.invariant.sent
