use Rattle.std.proofs.Common.{arith}
use Rattle.sram_layout.specs.Cells.{count_cell, r24_cell, sreg_cell, vsp_cell}
use Rattle.kernel_tests.proofs.PagedLaws.{paged_byte, paged_word}
use Rattle.kernel_tests.proofs.services.served.Goals as goal

pub may_serve-requires : goal.may_serve-requires
may_serve-requires g c =
    let w = c.args.k.now.mote.swap in
    record {
      paged =
          paged_word c.set_sreg.new.self c.set_vsp.new.self w vsp_cell c.args.call.sp c.set_vsp.ensures.after (omega arith) (omega arith)
          (paged_byte c.set_r24.new.self c.set_sreg.new.self w sreg_cell 0x15 c.set_sreg.ensures.after (omega arith) (omega arith)
          (paged_byte c.set_count.new.self c.set_r24.new.self w r24_cell 0x5A c.set_r24.ensures.after (omega arith) (omega arith)
          (paged_byte c.set-2.new.self c.set_count.new.self w count_cell 3 c.set_count.ensures.after (omega arith) (omega arith)
          (paged_byte c.set.new.self c.set-2.new.self w 0x011F _ c.set-2.ensures.after (omega arith) (omega arith)
          (paged_byte c.args.k.now.mote.sram c.set.new.self w 0x011E 0 c.set.ensures.after (omega arith) (omega arith) c.requires.paged)))));
    }

pub returns : goal.returns
returns g c =
    let w = c.args.k.now.mote.swap in
    record {
      paged = c.serve.ensures.leaves.paged
          (paged_word c.set_sreg.new.self c.set_vsp.new.self w vsp_cell c.args.call.sp c.set_vsp.ensures.after (omega arith) (omega arith)
          (paged_byte c.set_r24.new.self c.set_sreg.new.self w sreg_cell 0x15 c.set_sreg.ensures.after (omega arith) (omega arith)
          (paged_byte c.set_count.new.self c.set_r24.new.self w r24_cell 0x5A c.set_r24.ensures.after (omega arith) (omega arith)
          (paged_byte c.set-2.new.self c.set_count.new.self w count_cell 3 c.set_count.ensures.after (omega arith) (omega arith)
          (paged_byte c.set.new.self c.set-2.new.self w 0x011F _ c.set-2.ensures.after (omega arith) (omega arith)
          (paged_byte c.args.k.now.mote.sram c.set.new.self w 0x011E 0 c.set.ensures.after (omega arith) (omega arith) c.requires.paged))))));
    }
