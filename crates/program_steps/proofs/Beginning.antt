-- A machine whose mote is at reset, but for flash and COUNT: it is ready to go on, and stands for its program at reset.
use Rattle.std.proofs.Common.{false, ◌≡◌, ℕ, ◌%◌, ◌<◌, ◌≤◌, List, length, refl, sym, ap, ap₂, ◌∙◌, arith, inl}
use Rattle.std.specs.Prelude.{◌^◌, None}
use Rattle.std.proofs.Math.Nat.{zero-mod}
use Rattle.base.specs.Lists.{many}
use Rattle.base.proofs.ManyLaws.{length-many}
use Rattle.sram_layout.specs.Boot.{at_boot}
use Rattle.sram_layout.specs.Bytes.{byte_at, with_byte}
use Rattle.sram_layout.specs.Cells.{count_cell, ring_cell, vsp_cell}
use Rattle.sram_layout.proofs.Laws.{byte_same, byte_other, word_out_of_byte, length-with_byte}
use Rattle.sram_layout.proofs.BootLaws.{length-at_boot, boot_zero}
use Rattle.flash_words.specs.Memory.{loaded, new_flash, Memory, IsWhole}
use Rattle.flash_words.specs.Layouts.{layout_of, most_image_words}
use Rattle.flash_words.specs.declared.layout.Layout.{Layout}
use Rattle.flash_words.proofs.LayoutLaws.{layout_right}
use Rattle.page_index.proofs.ChangeLaws.{new_flash_free}
use Rattle.nat_page.specs.Faithful.{IsFaithful}
use Rattle.nat_page.specs.Parts.{IsParted}
use Rattle.nat_page.specs.Used.{used_pages}
use Rattle.nat_page.proofs.FaithfulLaws.{new_flash_faithful}
use Rattle.nat_page.proofs.UsedLaws.{none_used, used_pages-most}
use Rattle.addr_tables.proofs.TableLaws.{boot_tables, tables_kept, boot_word}
use Rattle.branch_bridge.specs.Arrivals.{ring_of}
use Rattle.heap_frames.proofs.BootLaws.{boot_paged}
use Rattle.input_script.specs.Script.{Schedule}
use Rattle.mote_devices.specs.State.{at_reset}
use Rattle.mote_core.specs.declared.mote.Mote.{Mote}
use Rattle.mote_core.specs.Step.{cpu_at_reset}
use Rattle.swap_store.specs.Slots.{zero_slots}
use Rattle.swap_store.proofs.Laws.{length-zero_slots}
use Rattle.flat_machine.specs.declared.part.Part.{Part}
use Rattle.flat_machine.specs.FlatMachine.{at_reset as flat_at_reset}
use Rattle.mem_guard.proofs.AtReset.{memory_at_reset, pages_at_reset}
use Rattle.kernel_entry.specs.Seen.{program as program_of}
use Rattle.step_laws.specs.Links.{part_number}
use Rattle.step_laws.specs.StepLaws.{Reaches}
use Rattle.step_laws.proofs.SameProgram.{SameProgram, flat_same, paged_after, flat_parts}
use Rattle.program_steps.specs.Machines.{Machine, unstarted, flat_of}
use Rattle.program_steps.specs.Ready.{IsGoing, IsInOrder, IsRightPart}

-- flash holds the image and a faithful pool with so many pages, and no operation was tried
pub record IsBegun (image : List ℕ) (flash : Memory) (pages : ℕ) : Type 0 where
  pub whole : IsWhole flash
  pub faithful : IsFaithful (layout_of (length image)) image flash.words
  pub ops : flash.ops ≡ 0
  pub refused : flash.refused ≡ None
  pub used : pages ≡ used_pages (layout_of (length image)) flash.words

-- a new flash with the image is such a one
pub begun_new : (image failing : List ℕ) → length image ≤ most_image_words → IsWhole (new_flash image failing) → IsBegun image (new_flash image failing) 0
begun_new image failing few whole =
    let layout : Layout = layout_of (length image) in
    let right = layout_right (length image) few in
    record {
      whole = whole;
      faithful = new_flash_faithful layout image right refl;
      ops = refl;
      refused = refl;
      used = sym (none_used layout (loaded image) (λ p pool. new_flash_free layout image p right (omega arith) pool));
    }

-- the mote at reset, with COUNT set
abbrev pub begun_bytes : ℕ → List ℕ
begun_bytes quantum = with_byte at_boot count_cell quantum

abbrev pub begun_mote : (flash : Memory) (script : Schedule) (quantum slots : ℕ) → Mote
begun_mote flash script quantum slots = record { cpu = cpu_at_reset; sram = begun_bytes quantum; flash = flash; devices = at_reset script.events; swap = zero_slots slots }

-- its machine, which has done nothing yet
abbrev pub begun_machine : (flash : Memory) (script : Schedule) (words : ℕ) (part : Part) (quantum slots pages others : ℕ) → Machine
begun_machine flash script words part quantum slots pages others =
    unstarted (record { mote = begun_mote flash script quantum slots; layout = layout_of words; part = part; quantum = quantum }) pages others

pointer_begun : (quantum : ℕ) → byte_at (begun_bytes quantum) vsp_cell ≡ 0
pointer_begun quantum = byte_other at_boot count_cell vsp_cell quantum (omega arith) (omega arith) (λ e. omega arith) ∙ boot_zero vsp_cell (omega arith) (omega arith) (inl (omega arith))

ring_begun : (quantum : ℕ) → ring_of (begun_bytes quantum) ≡ 0
ring_begun quantum = word_out_of_byte at_boot count_cell ring_cell quantum (omega arith) (omega arith) (λ e. omega arith) (λ e. omega arith) ∙ boot_word ring_cell (omega arith) (omega arith)

-- the program sees nothing of COUNT
same_begun : (flash : Memory) (script : Schedule) (quantum slots : ℕ) → SameProgram (record (begun_mote flash script quantum slots) { sram = at_boot }) (begun_mote flash script quantum slots)
same_begun flash script quantum slots = record {
  registers = refl;
  status = refl;
  top = refl;
  size = length-with_byte at_boot count_cell quantum;
  bytes = λ b from apart apart'. byte_other at_boot count_cell b quantum (omega arith) (omega arith) (λ e. omega arith);
  flash = refl;
  devices = refl;
  swap = refl;
}

-- where the part is right, and the links of the pool keep to the parts
order_begun : {image : List ℕ} {flash : Memory} (script : Schedule) {part : Part} (quantum slots : ℕ) {pages : ℕ} (others : ℕ) → length image ≤ most_image_words → quantum < 256 → slots ≤ 251
    → IsBegun image flash pages → IsRightPart part (length image)
    → IsParted (layout_of (length image)) image flash.words (part_number part.shut) → IsInOrder (begun_machine flash script (length image) part quantum slots pages others)
order_begun {image} {flash} script {part} quantum slots {pages} others few low room begun right_part parted =
    let layout : Layout = layout_of (length image) in
    let right = layout_right (length image) few in
    let used : used_pages layout flash.words ≤ layout.pool_pages = used_pages-most layout flash.words in
    let registers : length (many 32 0) ≡ 32 = length-many 32 0 in
    record {
      layout = refl;
      right = right;
      faithful = rw begun.faithful.held begun.faithful;
      part = right_part;
      parted = rw begun.faithful.held parted;
      tables = tables_kept layout at_boot (begun_bytes quantum) flash.words flash.words (λ b from to. byte_other at_boot count_cell b quantum (omega arith) (omega arith) (λ e. omega arith))
          (λ t v entry. entry) (boot_tables layout flash.words);
      paged = paged_after (record (begun_mote flash script quantum slots) { sram = at_boot }) (begun_mote flash script quantum slots) (same_begun flash script quantum slots) (boot_paged slots room);
      whole = begun.whole;
      registers = omega (arith, registers);
      pointer = omega (arith, pointer_begun quantum);
      quantum = low;
      pages = omega (arith, used, begun.used);
      ring = omega (arith, ring_begun quantum, right.pool_pages);
      tried = record { listed = λ op from to there. absurd (omega (arith, from, to, begun.ops)); refused = λ some. absurd (some begun.refused); pool = rw begun.refused tt; torn = tt };
    }

pub going_begun : (image : List ℕ) (flash : Memory) (script : Schedule) (part : Part) (quantum slots pages others : ℕ) → length image ≤ most_image_words → 1 ≤ quantum → quantum < 256 → slots ≤ 251
    → others ≤ 10 ^ 12 → IsBegun image flash pages → IsRightPart part (length image)
    → IsParted (layout_of (length image)) image flash.words (part_number part.shut) → IsGoing (begun_machine flash script (length image) part quantum slots pages others)
going_begun image flash script part quantum slots pages others few some low room little begun right_part parted =
    let count = byte_same at_boot count_cell quantum (omega arith) (omega (arith, length-at_boot)) in
    let right = layout_right (length image) few in
    let used : used_pages (layout_of (length image)) flash.words ≤ (layout_of (length image)).pool_pages = used_pages-most (layout_of (length image)) flash.words in
    record {
      order = order_begun script quantum slots others few low room begun right_part parted;
      going = refl;
      untorn = refl;
      top = refl;
      some = omega (arith, count);
      most = omega (arith, count);
      stands = Reaches.Owing None (λ e. absurd (cc)) refl tt;
      counted = record { natural = omega arith; entries = omega arith; since = omega arith; longest = omega arith; crossed = omega arith; within = omega arith; most = omega arith };
      arrivals = record { pages = omega arith; ops = omega (arith, begun.ops); few = omega (arith, used, begun.used, right.pool_first, right.pool_below_kernel) };
      polls = omega arith;
      exact = count ∙ (let z : 0 % quantum ≡ 0 = zero-mod quantum in omega arith);
      fresh = λ e. refl;
    }

-- it stands for the original machine at reset, at the first word of its part
pub flat_begun : (flash : Memory) (script : Schedule) (words : ℕ) (part : Part) (quantum slots pages others : ℕ)
    → flat_of (begun_machine flash script words part quantum slots pages others)
    ≡ record { now = record (flat_at_reset script.events) { cpu = record (flat_at_reset script.events).cpu { pc = part.first } }; due = false }
flat_begun flash script words part quantum slots pages others =
    let k = (begun_machine flash script words part quantum slots pages others).kernel in
    ap (λ s. record { now = s; due = false }) (flat_same (record k { mote = record k.mote { sram = at_boot } }) k part.first 0 0 (same_begun flash script quantum slots)
    ∙ flat_parts _ _ _ _ _ _ part.first 0 0 _ _ _ _ _ _ refl refl (boot_word vsp_cell (omega arith) (omega arith)) (memory_at_reset (zero_slots slots)) refl pages_at_reset)

-- and its program is the image's
pub program_begun : (image : List ℕ) (flash : Memory) (script : Schedule) (part : Part) (quantum slots pages others : ℕ) → IsFaithful (layout_of (length image)) image flash.words
    → program_of (begun_machine flash script (length image) part quantum slots pages others).kernel ≡ record { image = image; part = part; page_limit = slots; quantum = quantum }
program_begun image flash script part quantum slots pages others faithful = ap₂ (λ i n. record { image = i; part = part; page_limit = n; quantum = quantum }) faithful.held (length-zero_slots slots)
