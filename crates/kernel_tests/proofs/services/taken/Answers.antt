use Rattle.std.proofs.Common.{arith}
use Rattle.sram_layout.specs.Cells.{vsp_cell}
use Rattle.kernel_tests.proofs.PagedLaws.{paged_word}
use Rattle.kernel_tests.proofs.services.taken.Goals as goal

pub interrupt-requires-clause-paged : goal.interrupt-requires-clause-paged
interrupt-requires-clause-paged g c =
    paged_word c.args.k.now.mote.sram c.set_vsp.new.self c.args.k.now.mote.swap vsp_cell c.args.sp c.set_vsp.ensures.after (omega arith) (omega arith) c.requires.paged

pub returns : goal.returns
returns g c = record { paged = c.interrupt.ensures.row.paged }
