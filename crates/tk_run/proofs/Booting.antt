-- The machine at boot is ready, and stands for the original program at reset.
use Rattle.std.proofs.Common.{◌≡◌, ℕ, ◌<◌, ◌≤◌, List, length, refl, ap, ap₂, ◌∙◌, arith}
use Rattle.hex_image.specs.Image.{IsImage}
use Rattle.sram_layout.specs.Boot.{at_boot}
use Rattle.sram_layout.specs.Bytes.{with_byte}
use Rattle.sram_layout.specs.Cells.{count_cell}
use Rattle.flash_words.specs.Memory.{new_flash, Memory, IsWhole}
use Rattle.flash_words.specs.Operations.{renewed}
use Rattle.flash_words.specs.Layouts.{layout_of}
use Rattle.flash_words.specs.declared.layout.Layout.{Layout}
use Rattle.nat_page.specs.Faithful.{IsFaithful}
use Rattle.nat_page.specs.Used.{used_pages}
use Rattle.input_script.specs.Script.{Schedule}
use Rattle.mote_devices.specs.State.{at_reset}
use Rattle.mote_core.specs.declared.mote.Mote.{Mote}
use Rattle.mote_core.specs.Step.{IsAtReset, cpu_at_reset}
use Rattle.swap_store.specs.Slots.{zero_slots}
use Rattle.flat_machine.specs.FlatMachine.{whole_part, run, original}
use Rattle.kernel_entry.specs.Seen.{program as program_of}
use Rattle.program_steps.specs.Machines.{Machine}
use Rattle.program_steps.specs.Ready.{IsKept, IsRightPart}
use Rattle.program_steps.proofs.Beginning.{IsBegun, begun_new, going_begun, flat_begun, program_begun}
use Rattle.tk_run.specs.Running.{original_from}
use Rattle.tk_run.specs.Booted.{begun, started, booted, started_over}
use Rattle.tk_run.specs.WholeRuns.{program_at}
use Rattle.tk_run.proofs.Advancing.{kept_ready}

-- the program is the image's
pub program_start : {image : List ℕ} {flash : Memory} (script : Schedule) (quantum slots : ℕ) {pages : ℕ} → IsBegun image flash pages
    → program_of (started image flash script quantum slots pages).kernel ≡ program_at image quantum slots
program_start {image} {flash} script quantum slots {pages} begun = program_begun image flash script (whole_part image) quantum slots pages 0 begun.faithful

-- and its run the original program's
pub run_start : (image : List ℕ) (flash : Memory) (script : Schedule) (quantum slots pages n : ℕ) → IsBegun image flash pages
    → original_from (started image flash script quantum slots pages) n ≡ original (program_at image quantum slots) script.events n
run_start image flash script quantum slots pages n begun =
    ap₂ (λ p s. run p s n) (program_start script quantum slots begun) (flat_begun flash script (length image) (whole_part image) quantum slots pages 0)

-- what the calls make is such a machine
pub started_by : (image : List ℕ) (flash : Memory) (script : Schedule) (quantum slots pages : ℕ) (mote : Mote) (sram : List ℕ) (layout : Layout) → mote.cpu ≡ cpu_at_reset → mote.flash ≡ flash
    → mote.devices ≡ at_reset script.events → mote.swap ≡ zero_slots slots
    → sram ≡ with_byte at_boot count_cell quantum → layout ≡ layout_of (length image)
    → begun (record mote { sram = sram }) layout quantum pages ≡ started image flash script quantum slots pages
started_by image flash script quantum slots pages mote sram layout cpu held devices swap is same = rw (cpu, held, devices, swap, is, same)

pub start_is_kept : {image : List ℕ} {flash : Memory} (script : Schedule) (quantum slots : ℕ) {pages : ℕ} (m : Machine) → m ≡ started image flash script quantum slots pages → IsImage image
    → 1 ≤ quantum → quantum < 256 → slots ≤ 251 → IsBegun image flash pages → IsKept m
start_is_kept {image} {flash} script quantum slots {pages} m same is some low few begun =
    let whole : IsRightPart (whole_part image) (length image) = record { whole = λ e. (refl, refl); quarter = λ e. absurd (cc) } in
    rw same (kept_ready (omega arith) refl (going_begun image flash script (whole_part image) quantum slots pages 0 is.few some low few (omega arith) begun whole (λ s t link jump. refl))
    (λ free. refl))

-- At boot. ------------------------------------------------------------------------------------------------

pub begun_boot : (image : List ℕ) (script : Schedule) → IsImage image → IsWhole (new_flash image script.failing) → IsBegun image (new_flash image script.failing) 0
begun_boot image script is whole = begun_new image script.failing is.few whole

pub boot_is_kept : {image : List ℕ} {script : Schedule} (quantum : ℕ) {slots : ℕ} {mote : Mote} (sram : List ℕ) (layout : Layout) → IsImage image
    → 1 ≤ quantum → quantum < 256 → slots ≤ 251 → IsAtReset image script slots mote → IsWhole mote.flash
    → sram ≡ with_byte mote.sram count_cell quantum → layout ≡ layout_of (length image)
    → (begun (record mote { sram = sram }) layout quantum 0 ≡ booted image script quantum slots) × IsKept (begun (record mote { sram = sram }) layout quantum 0)
boot_is_kept {image} {script} quantum {slots} {mote} sram layout is some low few reset whole set same =
    let flash = new_flash image script.failing in
    let made = started_by image flash script quantum slots 0 mote sram layout reset.cpu reset.flash reset.devices reset.swap (set ∙ ap (λ b. with_byte b count_cell quantum) reset.sram) same in
    (made, start_is_kept script quantum slots (begun (record mote { sram = sram }) layout quantum 0) made is some low few (begun_boot image script is (rw reset.flash at whole)))

-- Over a flash. -------------------------------------------------------------------------------------------

pub begun_over : {image : List ℕ} (flash : Memory) → IsWhole (renewed flash) → IsFaithful (layout_of (length image)) image flash.words
    → IsBegun image (renewed flash) (used_pages (layout_of (length image)) flash.words)
begun_over flash whole faithful = record { whole = whole; faithful = faithful; ops = refl; refused = refl; used = refl }

pub over_is_kept : {image : List ℕ} (flash : Memory) {flash' : Memory} (script : Schedule) (quantum slots pages : ℕ) (swap : List (List ℕ)) (mote : Mote) (sram : List ℕ) (layout : Layout)
    → IsImage image → 1 ≤ quantum → quantum < 256 → slots ≤ 251
    → IsFaithful (layout_of (length image)) image flash.words → flash' ≡ renewed flash → IsWhole flash' → swap ≡ zero_slots slots
    → mote ≡ record { cpu = cpu_at_reset; sram = at_boot; flash = flash'; devices = at_reset script.events; swap = swap }
    → sram ≡ with_byte mote.sram count_cell quantum → layout ≡ layout_of (length image) → pages ≡ used_pages layout flash.words
    → (begun (record mote { sram = sram }) layout quantum pages ≡ started_over image flash script quantum slots) × IsKept (begun (record mote { sram = sram }) layout quantum pages)
over_is_kept {image} flash script quantum slots pages swap mote sram layout is some low few faithful anew whole slots_are reset set same counted =
    let used = used_pages (layout_of (length image)) flash.words in
    let all : pages ≡ used = counted ∙ ap (λ l. used_pages l flash.words) same in
    let made = started_by image (renewed flash) script quantum slots pages mote sram layout (ap (λ (m : Mote). m.cpu) reset) (ap (λ (m : Mote). m.flash) reset ∙ anew)
    (ap (λ (m : Mote). m.devices) reset) (ap (λ (m : Mote). m.swap) reset ∙ slots_are) (set ∙ ap (λ (m : Mote). with_byte m.sram count_cell quantum) reset) same
    ∙ ap (λ n. started image (renewed flash) script quantum slots n) all in
    (made, start_is_kept script quantum slots (begun (record mote { sram = sram }) layout quantum pages) made is some low few (begun_over flash (rw anew at whole) faithful))
