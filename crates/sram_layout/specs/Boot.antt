-- SRAM as the kernel starts.
use Rattle.std.specs.Prelude.{ℕ, List}
use Rattle.sram_layout.specs.Bytes.{byte_count, with_block}
use Rattle.base.specs.Lists.{many}
use Rattle.sram_layout.specs.Cells.{no_slot, slot_cell}

-- all bytes are 0, but the 256 bytes of the swap map are 0xFF: no page has a slot
unfoldable pub at_boot : List ℕ
at_boot = with_block (many byte_count 0) (slot_cell 0) (many 256 no_slot)
