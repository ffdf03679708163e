-- The heap at boot: no page has a slot, every frame is empty, and all of the memory is 0.
use Rattle.std.proofs.Common.{◌≡◌, ℕ, ◌+◌, ◌/◌, ◌%◌, ◌<◌, ◌≤◌, List, arith, ap, ◌∙◌, refl, inl, inr}
use Rattle.std.specs.Prelude.{Bool, true, false, not, ◌==◌, replicate, None}
use Rattle.std.proofs.lemmas.Bool.{false_from_ne_true}
use Rattle.base.specs.Lists.{many}
use Rattle.sram_layout.specs.Cells.{frame_cell, victim_cell, given_cell, no_slot}
use Rattle.sram_layout.specs.Boot.{at_boot}
use Rattle.sram_layout.proofs.BootLaws.{length-at_boot, boot_slot, boot_zero}
use Rattle.swap_store.specs.Slots.{most_slots, zero_slots}
use Rattle.swap_store.proofs.Laws.{zero_slots_whole}
use Rattle.flat_machine.specs.Addresses.{is_stack, is_heap}
use Rattle.heap_frames.specs.Frames.{empty, state_of, is_occupied, holds, frame_of, given, victim, has_slot, pages}
use Rattle.heap_frames.specs.Memory.{virtual_byte, vmem}
use Rattle.heap_frames.specs.Paged.{IsPaged}
use Rattle.heap_frames.proofs.Tables.{table_of_one}
use Rattle.heap_frames.proofs.FrameLaws.{no_frame, holds_occupied}
use Rattle.heap_frames.proofs.HeapBytes.{byte_in_slot, byte_of_no_slot}
use Rattle.heap_frames.proofs.MemoryLaws.{stack_from, stack_to, stack_byte, page_byte, no_byte}

boot_state : (i : ℕ) → i < 8 → state_of at_boot i ≡ 0
boot_state i inside = boot_zero (frame_cell i + 1) (omega arith) (omega arith) (inl (omega arith))

boot_empty : (i : ℕ) → i < 8 → is_occupied at_boot i ≡ false
boot_empty i inside = ap (λ (state : ℕ). not (state == empty)) (boot_state i inside)

boot_no_slot : (page : ℕ) → page < 256 → has_slot at_boot page ≡ false
boot_no_slot page below = ap (λ (slot : ℕ). not (slot == no_slot)) (boot_slot page below)

pub boot_given : given at_boot ≡ 0
boot_given = boot_zero given_cell (omega arith) (omega arith) (inl (omega arith))

pub boot_victim : victim at_boot ≡ 0
boot_victim = boot_zero victim_cell (omega arith) (omega arith) (inl (omega arith))

pub boot_paged : (slots : ℕ) → slots ≤ most_slots → IsPaged at_boot (zero_slots slots)
boot_paged slots fits = record {
  sized = record { sram = length-at_boot; swap = zero_slots_whole slots fits };
  slots = λ page below has. let none = boot_no_slot page below in absurd (cc);
  each = λ slot below. absurd (omega (arith, boot_given));
  once = λ page other below below' has same. let none = boot_no_slot page below in absurd (cc);
  heap = λ page below has. let none = boot_no_slot page below in absurd (cc);
  room = omega (arith, boot_given);
  states = λ i inside. omega (arith, boot_state i inside);
  next = omega (arith, boot_victim);
  held = λ i inside occupied. let none = boot_empty i inside in absurd (cc);
  backed = λ i inside occupied. let none = boot_empty i inside in absurd (cc);
  different = λ i j inside inside' occupied occupied' same. let none = boot_empty i inside in absurd (cc);
  equal = λ i inside is_clean. absurd (omega (arith, boot_state i inside));
}

pub boot_pages : pages at_boot ≡ replicate 256 false
unfolding pages
boot_pages = table_of_one 256 (has_slot at_boot) false boot_no_slot

pub boot_frame : (page : ℕ) → frame_of at_boot page ≡ None
boot_frame page = no_frame at_boot page (λ i inside. false_from_ne_true (holds at_boot page i) (λ held.
    let occupied : is_occupied at_boot i ≡ true = holds_occupied at_boot page i held in
    let none = boot_empty i inside in
    absurd (cc)))

boot_byte : (w : List (List ℕ)) (a : ℕ) (stack heap : Bool) → is_stack a ≡ stack → is_heap a ≡ heap → a < 65536 → virtual_byte at_boot w a ≡ 0
boot_byte w a true heap in_stack in_heap below =
    let from = stack_from a in_stack in
    stack_byte at_boot w a in_stack ∙ boot_zero a (omega arith) (let to = stack_to a in_stack in omega arith) (inr (omega arith))
boot_byte w a false true in_stack in_heap below =
    page_byte at_boot w a in_heap ∙ byte_in_slot at_boot w (a / 256) (a % 256) (boot_frame (a / 256)) ∙ byte_of_no_slot at_boot w (a / 256) (a % 256) (boot_no_slot (a / 256) (omega arith))
boot_byte w a false false in_stack in_heap below = no_byte at_boot w a in_stack in_heap

pub boot_memory : (w : List (List ℕ)) → vmem at_boot w ≡ many 65536 0
unfolding vmem many
boot_memory w = table_of_one 65536 (virtual_byte at_boot w) 0 (λ a below. boot_byte w a (is_stack a) (is_heap a) refl refl below)
