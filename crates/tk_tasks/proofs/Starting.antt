-- Each task at boot is ready to go on.
use Rattle.std.proofs.Common.{true, ◌≡◌, ℕ, zero, suc, ◌+◌, ◌-◌, ◌*◌, ◌<◌, ◌≤◌, List, [], ◌∷◌, length, refl, sym, ap, ap₂, ◌∙◌, arith, subst}
use Rattle.std.specs.Prelude.{◌≢◌, ◌^◌, Option, Some, None, IfSome, sum_by, slice_get}
use Rattle.std.proofs.lemmas.List.Sums.{sum_by-cons}
use Rattle.std.proofs.lemmas.Option.{same_Some}
use Rattle.flash_words.specs.Memory.{loaded, new_flash, IsWhole}
use Rattle.flash_words.specs.Layouts.{layout_of, most_image_words}
use Rattle.flash_words.specs.declared.layout.Layout.{Layout}
use Rattle.flash_words.proofs.LayoutLaws.{layout_right}
use Rattle.page_index.specs.Entries.{IsEntry}
use Rattle.page_index.proofs.ChangeLaws.{new_flash_free}
use Rattle.nat_page.specs.Parts.{IsParted}
use Rattle.nat_page.proofs.FaithfulLaws.{new_flash_faithful}
use Rattle.nat_page.proofs.StayLaws.{held_used}
use Rattle.input_script.specs.Script.{Schedule}
use Rattle.kernel_entry.specs.Seen.{program as program_of}
use Rattle.step_laws.specs.Links.{part_number}
use Rattle.kernel_entry.specs.declared.kernel.Kernel.{Kernel}
use Rattle.program_steps.specs.Machines.{Machine, numbers_of, flat_of}
use Rattle.program_steps.specs.Ready.{IsGoing, IsRightPart, IsSound, count_in}
use Rattle.program_steps.proofs.Bounds.{bounded_counted}
use Rattle.program_steps.proofs.Beginning.{begun_machine, begun_new, flat_begun, going_begun, program_begun}
use Rattle.parked_tasks.specs.declared.parked.Parked.{Parked}
use Rattle.parked_tasks.specs.declared.task.Task.{Task}
use Rattle.task_input.specs.Images.{quarter, task_words}
use Rattle.task_turns.specs.Quarters.{quarter_part}
use Rattle.parked_tasks.specs.Parking.{IsSized}
use Rattle.task_turns.specs.Turns.{Player, at_reset_in, from_start}
use Rattle.tk_tasks.specs.States.{Tasks, arrivals_of, others_of, machine_of, IsTask, AreSound, players_from, turns_of}
use Rattle.tk_tasks.specs.Booted.{IsUnstarted, booted}
use Rattle.parked_tasks.specs.AtBoot.{mote_at_boot, at_start, parked_at_boot, waiting_from}
use Rattle.task_turns.specs.Reset.{players_at_reset, turns_at_reset}
use Rattle.parked_tasks.proofs.Parkings.{sized_of}
use Rattle.parked_tasks.proofs.Waiting.{size_at_boot, taken_at_boot, waiting_at, waiting_length, each_going}

-- the machine that a task is at boot, with these words in flash
abbrev pub first_machine : (words : List ℕ) (script : Schedule) (quantum slots i others : ℕ) → Machine
first_machine words script quantum slots i others = begun_machine (new_flash words []) script (length words) (quarter_part i) quantum slots 0 others

abbrev pub first_kernel : (words : List ℕ) (script : Schedule) (quantum slots i : ℕ) → Kernel
first_kernel words script quantum slots i = (first_machine words script quantum slots i 0).kernel

-- a new flash has no links
parted_at_boot : (words : List ℕ) (part : ℕ → ℕ) → length words ≤ most_image_words → IsParted (layout_of (length words)) words (loaded words) part
parted_at_boot words part few s t link jump =
    let layout : Layout = layout_of (length words) in
    absurd (held_used (IsEntry layout (loaded words)) words (loaded words) link.page link.first link.last few link.holds
    (new_flash_free layout words link.page (layout_right (length words) few) (omega arith) link.pool))

pub going_at_boot : (words : List ℕ) (script : Schedule) (quantum slots i others count : ℕ) → length words ≡ quarter * count → count ≤ 4 → i < count → 1 ≤ quantum → quantum < 256 → slots ≤ 251
    → others ≤ 10 ^ 12 → IsWhole (new_flash words [])
    → IsGoing (first_machine words script quantum slots i others)
going_at_boot words script quantum slots i others count long few below some low room little whole =
    let fits : length words ≤ most_image_words = omega (arith, long, few) in
    let own : IsRightPart (quarter_part i) (length words) = record { whole = λ e. absurd (cc); quarter = λ e. (i, refl, refl, omega arith) } in
    going_begun words (new_flash words []) script (quarter_part i) quantum slots 0 others fits some low room little (begun_new words [] fits whole) own (parted_at_boot words (part_number true) fits)

-- Its program is at reset. --------------------------------------------------------------------------------

player_by : (words : List ℕ) (script : Schedule) (quantum slots i others n : ℕ) → length words ≤ most_image_words
    → ◌≡◌ {A = Player} (record {
      program = program_of (first_machine words script quantum slots i others).kernel;
      moment = flat_of (first_machine words script quantum slots i others);
      left = n - 0;
      end = None;
    })
    (at_reset_in (record { image = words; part = quarter_part i; page_limit = slots; quantum = quantum }) script.events n)
player_by words script quantum slots i others n few =
    let all : n - 0 ≡ n = omega arith in
    let faithful = new_flash_faithful (layout_of (length words)) words (layout_right (length words) few) refl in
    rw (
      program_begun words (new_flash words []) script (quarter_part i) quantum slots 0 others faithful,
      flat_begun (new_flash words []) script (length words) (quarter_part i) quantum slots 0 others,
      all,
    )

-- The tasks at boot. --------------------------------------------------------------------------------------

first_is : (t : Tasks) (words : List ℕ) (first script : Schedule) (quantum slots i : ℕ) → t.kernel ≡ first_kernel words first quantum slots 0 → t.pages ≡ 0
    → machine_of t i (at_start i (Some (parked_at_boot script quantum slots))) ≡ first_machine words script quantum slots i (others_of t (at_start i (Some (parked_at_boot script quantum slots))))
first_is t words first script quantum slots i kernel pages = rw (kernel, pages, taken_at_boot words first script quantum slots)

-- no arrival was made
waiting_sum : (task : ℕ) (scripts : List Schedule) (quantum slots : ℕ) → sum_by arrivals_of (waiting_from task scripts quantum slots) ≡ 0
waiting_sum task [] quantum slots = refl
waiting_sum task (script ∷ scripts) quantum slots =
    let one : 0 + sum_by arrivals_of (waiting_from (task + 1) scripts quantum slots) ≡ 0 = omega (arith, waiting_sum (task + 1) scripts quantum slots) in
    sum_by-cons arrivals_of (at_start task (Some (parked_at_boot script quantum slots))) (waiting_from (task + 1) scripts quantum slots) ∙ one

booted_sum : (image : List ℕ) (first : Schedule) (others : List Schedule) (quantum slots : ℕ) → sum_by arrivals_of (booted image first others quantum slots).tasks ≡ 0
booted_sum image first others quantum slots =
    let all : 0 + sum_by arrivals_of (waiting_from 1 others quantum slots) ≡ 0 = omega (arith, waiting_sum 1 others quantum slots) in
    sum_by-cons arrivals_of (at_start 0 None) (waiting_from 1 others quantum slots) ∙ all

-- what is so of the words, and of the options
pub record CanStart (words : List ℕ) (count quantum slots : ℕ) : Type 0 where
  pub long : length words ≡ quarter * count
  pub some : 1 ≤ count
  pub few : count ≤ 4
  pub quantum_some : 1 ≤ quantum
  pub quantum_low : quantum < 256
  pub room : slots ≤ 251
  pub whole : IsWhole (new_flash words [])

sound_going : {m : Machine} → m.steps ≤ 10 ^ 12 → IsGoing m → IsSound m
sound_going {m} few ready = record {
  order = ready.order;
  bounded = bounded_counted (numbers_of m) m.crossings m.kernel.quantum (count_in m) m.at m.kernel.mote.devices.polls m.owed ready.counted ready.arrivals ready.polls;
  steps = few;
}

task_at_boot : (t : Tasks) {words : List ℕ} (script : Schedule) {count quantum slots : ℕ} (i : ℕ) {parked : Option Parked} → CanStart words count quantum slots → i < count
    → sum_by arrivals_of t.tasks ≡ 0
    → machine_of t i (at_start i parked) ≡ first_machine words script quantum slots i (others_of t (at_start i parked))
    → (i ≡ t.running → parked ≡ None) → (i ≢ t.running → parked ≢ None) → IfSome parked IsSized → IsTask t i (at_start i parked)
task_at_boot t {words} script {count} {quantum} {slots} i {parked} can below sum is runs waits sized =
    let others = others_of t (at_start i parked) in
    let little : others ≤ 10 ^ 12 = omega (arith, sum) in
    let going = going_at_boot words script quantum slots i others count can.long can.few below can.quantum_some can.quantum_low can.room little can.whole in
    let m = first_machine words script quantum slots i others in
    record {
      running = runs;
      waiting = waits;
      owes = λ apart goes none. (let e : Some (quarter * i) ≡ None = none in cc);
      sized = sized;
      sound = rw is (sound_going (omega arith) going);
      going = λ whole goes. rw is going;
      quiet = λ whole goes free. refl;
    }

each_at_boot : (image : List ℕ) (first : Schedule) (others : List Schedule) (quantum slots i : ℕ) (task : Task) → CanStart (task_words (length others + 1) image) (length others + 1) quantum slots
    → slice_get (booted image first others quantum slots).tasks i ≡ Some task → IsTask (booted image first others quantum slots) i task
each_at_boot image first others quantum slots zero task can there =
    let t = booted image first others quantum slots in
    subst (IsTask t 0) (same_Some _ _ there)
    (task_at_boot t first 0 can (omega arith) (booted_sum image first others quantum slots) refl (λ e. refl) (λ apart. absurd (apart refl)) tt)
each_at_boot image first others quantum slots (suc k) task can there =
    let t = booted image first others quantum slots in
    let words = task_words (length others + 1) image in
    let one = waiting_at 1 others quantum slots k task there in
    let at : 1 + k ≡ suc k = omega arith in
    let below = one.below in
    let parked = parked_at_boot one.script quantum slots in
    let is : at_start (suc k) (Some parked) ≡ task = ap (λ i. at_start i (Some parked)) (sym at) ∙ sym one.is in
    subst (IsTask t (suc k)) is (task_at_boot t one.script (suc k) can (omega arith) (booted_sum image first others quantum slots)
    (first_is t words first one.script quantum slots (suc k) refl refl) (λ e. absurd (omega arith)) (λ apart none. (let e : Some parked ≡ None = none in cc))
    (sized_of (mote_at_boot [] one.script quantum slots) (size_at_boot quantum)))

pub sound_at_boot : (image : List ℕ) (first : Schedule) (others : List Schedule) (quantum slots : ℕ) → CanStart (task_words (length others + 1) image) (length others + 1) quantum slots
    → AreSound (booted image first others quantum slots)
sound_at_boot image first others quantum slots can =
    let words = task_words (length others + 1) image in
    let size = waiting_length 1 others quantum slots in
    let few = can.few in
    let count : length others + 1 ≡ length (booted image first others quantum slots).tasks = omega arith in
    record {
      few = omega arith;
      one_runs = omega arith;
      part = refl;
      layout = ap layout_of (can.long ∙ ap (λ n. quarter * n) count);
      unfailing = refl;
      each = λ i task there. each_at_boot image first others quantum slots i task can there;
    }

-- The tasks in turn are at reset. -------------------------------------------------------------------------

waiting_players : (n : ℕ) (t : Tasks) (words : List ℕ) (first : Schedule) (scripts : List Schedule) (quantum slots task : ℕ) → t.kernel ≡ first_kernel words first quantum slots 0 → t.pages ≡ 0
    → length words ≤ most_image_words
    → players_from n t task (waiting_from task scripts quantum slots) ≡ players_at_reset words task scripts quantum slots n
waiting_players n t words first [] quantum slots task kernel pages few = refl
waiting_players n t words first (script ∷ scripts) quantum slots task kernel pages few =
    let parked = Some (parked_at_boot script quantum slots) in
    ap₂ (λ p l. p ∷ l) (ap (λ (m : Machine). record { program = program_of m.kernel; moment = flat_of m; left = n - 0; end = None }) (first_is t words first script quantum slots task kernel pages)
    ∙ player_by words script quantum slots task (others_of t (at_start task parked)) n few)
    (waiting_players n t words first scripts quantum slots (task + 1) kernel pages few)

pub turns_at_boot : (n : ℕ) (image : List ℕ) (first : Schedule) (others : List Schedule) (quantum slots : ℕ) → CanStart (task_words (length others + 1) image) (length others + 1) quantum slots
    → turns_of n (booted image first others quantum slots) ≡ turns_at_reset image (first ∷ others) quantum slots n
turns_at_boot n image first others quantum slots can =
    let t = booted image first others quantum slots in
    let words = task_words (length others + 1) image in
    let few : length words ≤ most_image_words = omega (arith, can.long, can.few) in
    let count : length others + 1 ≡ length (first ∷ others) = omega arith in
    ap (λ l. record { players = l; running = 0; switches = 0 })
    (ap₂ (λ p l. p ∷ l) (player_by words first quantum slots 0 (others_of t (at_start 0 None)) n few) (waiting_players n t words first others quantum slots 1 refl refl few))
    ∙ ap (λ c. from_start (players_at_reset (task_words c image) 0 (first ∷ others) quantum slots n)) count

-- at boot no task was run
pub unstarted_at_boot : (image : List ℕ) (first : Schedule) (others : List Schedule) (quantum slots : ℕ) → IsUnstarted (booted image first others quantum slots)
unstarted_at_boot image first others quantum slots = record { going = each_going others quantum slots; unchanged = refl; whole = refl }
