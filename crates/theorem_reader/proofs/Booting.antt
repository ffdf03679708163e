-- The mote before its first act.
use Rattle.std.proofs.Common.{◌≡◌, ℕ, ◌+◌, ◌-◌, ◌≤◌, List, None, refl, ◌∙◌, subst, arith}
use Rattle.sram_layout.specs.Boot.{at_boot}
use Rattle.sram_layout.specs.Bytes.{byte_at, with_byte}
use Rattle.sram_layout.specs.Cells.{count_cell}
use Rattle.sram_layout.proofs.Laws.{byte_same, byte_other}
use Rattle.sram_layout.proofs.BootLaws.{length-at_boot, boot_slot, boot_zero}
use Rattle.base.specs.Lists.{many}
use Rattle.flash_words.specs.Memory.{Memory, loaded, new_flash}
use Rattle.swap_store.specs.Slots.{zero_slots, zero_page}
use Rattle.input_script.specs.declared.input.Event.{Event}
use Rattle.mote_devices.specs.State.{at_reset}
use Rattle.mote_core.specs.declared.mote.Mote.{Mote}
use Rattle.mote_core.specs.Step.{cpu_at_reset}
use Rattle.parked_tasks.proofs.Waiting.{size_at_boot}
use Rattle.theorem_reader.specs.Acts.{IsNew, IsBoot}

-- a mote at reset over this flash
abbrev pub mote_over : (flash : Memory) (events : List Event) (quantum slots : ℕ) → Mote
mote_over flash events quantum slots = record { cpu = cpu_at_reset; sram = with_byte at_boot count_cell quantum; flash = flash; devices = at_reset events; swap = zero_slots slots }

beside_count : (quantum a : ℕ) → 0x0101 ≤ a → byte_at (with_byte at_boot count_cell quantum) a ≡ byte_at at_boot a
beside_count quantum a from = byte_other at_boot count_cell a quantum (omega arith) (omega (arith, from)) (λ e. omega (arith, e, from))

map_byte : (quantum a : ℕ) → 0x0400 ≤ a → a ≤ 0x04FF → byte_at (with_byte at_boot count_cell quantum) a ≡ 0xFF
map_byte quantum a from to =
    let at : 0x0400 + (a - 0x0400) ≡ a = omega (arith, from) in
    beside_count quantum a (omega (arith, from)) ∙ subst (λ b. byte_at at_boot b ≡ 0xFF) at (boot_slot (a - 0x0400) (omega (arith, from, to)))

pub is_new : (flash : Memory) (events : List Event) (quantum slots : ℕ) → flash.ops ≡ 0 → flash.refused ≡ None → IsNew events quantum slots (mote_over flash events quantum slots)
unfolding byte_at many zero_slots zero_page
is_new flash events quantum slots ops refused = record {
  core = refl;
  size = size_at_boot quantum;
  count = byte_same at_boot count_cell quantum (omega arith) (omega (arith, length-at_boot));
  map = λ a from to. map_byte quantum a from to;
  zero = λ a from to outside. beside_count quantum a from ∙ boot_zero a (omega (arith, from)) to outside;
  devices = refl;
  swap = refl;
  ops = ops;
  refused = refused;
}

pub is_boot : (image failing : List ℕ) (events : List Event) (quantum slots : ℕ) → IsBoot image failing events quantum slots (mote_over (new_flash image failing) events quantum slots)
unfolding loaded many
is_boot image failing events quantum slots = record { new = is_new (new_flash image failing) events quantum slots refl refl; flash = refl }
