-- What SRAM holds at boot, byte by byte.
use Rattle.std.proofs.Common.{◌≡◌, ℕ, ◌-◌, ◌<◌, ◌≤◌, ◌⊎◌, length, arith, ◌∙◌}
use Rattle.sram_layout.specs.Bytes.{byte_count, byte_at}
use Rattle.base.specs.Lists.{many}
use Rattle.sram_layout.specs.Cells.{no_slot, slot_cell}
use Rattle.sram_layout.specs.Boot.{at_boot}
use Rattle.base.proofs.ManyLaws.{length-many, get_or-many}
use Rattle.sram_layout.proofs.Laws.{length-with_block, byte_in_block, byte_out_of_block}

pub length-at_boot : length at_boot ≡ byte_count
unfolding at_boot
length-at_boot =
    length-with_block (many byte_count 0) (many 256 no_slot) (slot_cell 0) (length-many 256 no_slot) (omega arith) (omega (arith, length-many byte_count 0)) ∙ length-many byte_count 0

-- no page has a slot
pub boot_slot : (page : ℕ) → page < 256 → byte_at at_boot (slot_cell page) ≡ no_slot
unfolding at_boot
boot_slot page below =
    byte_in_block (many byte_count 0) (many 256 no_slot) (slot_cell 0) (slot_cell page) (length-many 256 no_slot) (omega arith) (omega (arith, length-many byte_count 0)) (omega arith) (omega arith)
    ∙ get_or-many 256 no_slot (slot_cell page - slot_cell 0) (omega arith)

-- every other byte is 0
pub boot_zero : (a : ℕ) → 0x0100 ≤ a → a ≤ 0x10FF → (a < 0x0400) ⊎ (0x0500 ≤ a) → byte_at at_boot a ≡ 0
unfolding at_boot byte_at
boot_zero a from to outside =
    byte_out_of_block (many byte_count 0) (many 256 no_slot) (slot_cell 0) a (length-many 256 no_slot) (omega arith) (omega (arith, length-many byte_count 0)) from outside
    ∙ get_or-many byte_count 0 (a - 256) (omega arith)
