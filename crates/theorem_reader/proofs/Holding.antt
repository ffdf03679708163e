-- Where the bytes of the program's memory are.
use Rattle.std.proofs.Common.{◌≡◌, ℕ, ◌/◌, ◌%◌, ◌<◌, true, slice_index, sym, ap, subst, ◌∙◌, arith}
use Rattle.std.proofs.lemmas.Bool.Decides.{nat_tests}
use Rattle.sram_layout.specs.Bytes.{byte_at, data_word_at}
use Rattle.swap_store.specs.Slots.{page_in}
use Rattle.mote_core.specs.declared.mote.Mote.{Mote}
use Rattle.std.proofs.lemmas.Bool.{false_from_ne_true}
use Rattle.flat_machine.specs.Addresses.{is_heap}
use Rattle.flat_machine.specs.FlatMachine.{FlatState}
use Rattle.heap_frames.specs.Frames.{holds, pages}
use Rattle.heap_frames.specs.Memory.{vmem, heap_byte}
use Rattle.heap_frames.specs.Paged.{IsPaged}
use Rattle.heap_frames.proofs.FrameLaws as frames
use Rattle.heap_frames.proofs.HeapBytes.{byte_in_frame, byte_in_slot, byte_of_slot, byte_of_no_slot}
use Rattle.heap_frames.proofs.LoadLaws.{absent_without_slot}
use Rattle.heap_frames.proofs.MemoryLaws.{in_window, stack_byte, page_byte, no_byte, length-vmem, vmem_byte}
use Rattle.kernel_entry.specs.declared.kernel.Kernel.{Kernel}
use Rattle.kernel_entry.specs.Seen.{state_at}
use Rattle.theorem_reader.specs.Memory.{core_at, Holds, IsHeap, Below, Above, HasMemory, HaveSlots, HasState}

heap_at : (a : ℕ) → IsHeap a → (is_heap a ≡ true) × (a < 65536)
heap_at a (Below from to) = (grind (arith, nat_tests), omega arith)
heap_at a (Above from to) = (grind (arith, nat_tests), omega arith)

page_at : (m : Mote) (a : ℕ) → IsHeap a → slice_index (vmem m.sram m.swap) a ≡ heap_byte m.sram m.swap (a / 256) (a % 256)
page_at m a heap =
    let at = heap_at a heap in
    vmem_byte m.sram m.swap a at.1 ∙ page_byte m.sram m.swap a at.0

frame_is : (m : Mote) (page frame : ℕ) → Holds m page frame → frames.Holds m.sram page frame
unfolding byte_at
frame_is m page frame held = record { inside = held.frame_is; occupied = frames.occupied_state m.sram frame held.used; names = held.page_is }

frame_back : (m : Mote) (page frame : ℕ) → frame < 8 → holds m.sram page frame ≡ true → Holds m page frame
unfolding byte_at
frame_back m page frame inside held = record {
  frame_is = inside;
  page_is = frames.holds_page m.sram page frame held;
  used = frames.state_occupied m.sram frame (frames.holds_occupied m.sram page frame held);
}

pub has_memory : (m : Mote) → IsPaged m.sram m.swap → HasMemory m (vmem m.sram m.swap)
unfolding byte_at page_in
has_memory m paged = record {
  size = length-vmem m.sram m.swap;
  registers = λ a below. vmem_byte m.sram m.swap a (omega (arith, below)) ∙ no_byte m.sram m.swap a (grind (arith, nat_tests)) (grind (arith, nat_tests));
  window = λ a from to. vmem_byte m.sram m.swap a (omega (arith, to)) ∙ stack_byte m.sram m.swap a (in_window a from (omega arith));
  framed = λ a frame heap held. page_at m a heap ∙ byte_in_frame m.sram m.swap (a / 256) (a % 256) frame (frames.paged_frame m.sram m.swap (a / 256) frame paged (frame_is m (a / 256) frame held));
  swapped = λ a heap none some.
      let unheld = frames.no_frame m.sram (a / 256) (λ i inside. false_from_ne_true (holds m.sram (a / 256) i) (λ held. none i (frame_back m (a / 256) i inside held))) in
      page_at m a heap ∙ byte_in_slot m.sram m.swap (a / 256) (a % 256) unheld ∙ byte_of_slot m.sram m.swap (a / 256) (a % 256) (frames.slot_held m.sram (a / 256) some);
  untouched = λ a heap none.
      let absent = false_from_ne_true _ (λ has. frames.slot_there m.sram (a / 256) has none) in
      page_at m a heap ∙ byte_in_slot m.sram m.swap (a / 256) (a % 256) (absent_without_slot m.sram m.swap (a / 256) paged absent) ∙ byte_of_no_slot m.sram m.swap (a / 256) (a % 256) absent;
}

have_slots : (m : Mote) → HaveSlots m (pages m.sram)
unfolding byte_at
have_slots m page below =
    (λ some. frames.page_of_table m.sram page below ∙ frames.slot_held m.sram page some, λ stored. frames.slot_there m.sram page (sym (frames.page_of_table m.sram page below) ∙ stored))

-- where the program stands on a mote, by its own machine there
pub has_state : (k : Kernel) (m : Mote) (pc steps crossings : ℕ) (s : FlatState) → IsPaged m.sram m.swap → state_at (record k { mote = m }) pc steps crossings ≡ s → HasState s m
unfolding data_word_at byte_at
has_state k m pc steps crossings s paged same = record {
  core = ap (λ (z : FlatState). core_at m z.cpu.pc) (sym same) ∙ ap (λ (z : FlatState). z.cpu) same;
  memory = subst (HasMemory m) (ap (λ (z : FlatState). z.memory) same) (has_memory m paged);
  slots = subst (HaveSlots m) (ap (λ (z : FlatState). z.pages) same) (have_slots m);
  devices = ap (λ (z : FlatState). z.devices) same;
}
