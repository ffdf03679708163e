-- The tasks at boot.
use Rattle.std.proofs.Common.{◌≡◌, ℕ, zero, suc, ◌+◌, ◌*◌, ◌<◌, ◌≤◌, List, [], ◌∷◌, length, refl, sym, ap, ◌∙◌, arith}
use Rattle.std.specs.Prelude.{Some, None, slice_get}
use Rattle.std.proofs.lemmas.List.FromFn.{length-map-range_with_len}
use Rattle.std.proofs.lemmas.Option.{same_Some}
use Rattle.avr_isa.specs.Image.{word}
use Rattle.sram_layout.specs.Boot.{at_boot}
use Rattle.sram_layout.specs.Bytes.{byte_count, with_byte}
use Rattle.sram_layout.specs.Cells.{count_cell}
use Rattle.sram_layout.proofs.Laws.{length-with_byte}
use Rattle.sram_layout.proofs.BootLaws.{length-at_boot}
use Rattle.input_script.specs.Script.{Schedule}
use Rattle.parked_tasks.specs.declared.task.Task.{Task}
use Rattle.task_input.specs.Images.{quarter, task_words}
use Rattle.parked_tasks.specs.Parking.{taken_up}
use Rattle.parked_tasks.specs.AtBoot.{mote_at_boot, at_start, parked_at_boot, waiting_from}
use Rattle.parked_tasks.proofs.Parkings.{both_own}

pub size_at_boot : (quantum : ℕ) → length (with_byte at_boot count_cell quantum) ≡ byte_count
size_at_boot quantum = length-with_byte at_boot count_cell quantum ∙ length-at_boot

-- the mote that a waiting task would have is that of boot with its own script
pub taken_at_boot : (words : List ℕ) (first script : Schedule) (quantum slots : ℕ)
    → taken_up (mote_at_boot words first quantum slots) (parked_at_boot script quantum slots) ≡ mote_at_boot words script quantum slots
taken_at_boot words first script quantum slots = ap (λ s. record (mote_at_boot words script quantum slots) { sram = s }) (both_own (with_byte at_boot count_cell quantum) (size_at_boot quantum))

-- one of the waiting tasks
pub record IsWaiting (task : ℕ) (scripts : List Schedule) (quantum slots k : ℕ) (its : Task) : Type 0 where
  pub script : Schedule
  pub is : its ≡ at_start (task + k) (Some (parked_at_boot script quantum slots))
  pub below : k < length scripts

pub waiting_at : (task : ℕ) (scripts : List Schedule) (quantum slots k : ℕ) (its : Task) → slice_get (waiting_from task scripts quantum slots) k ≡ Some its → IsWaiting task scripts quantum slots k its
waiting_at task [] quantum slots k its is = absurd (cc)
waiting_at task (script ∷ scripts) quantum slots zero its is =
    let at : task ≡ task + 0 = omega arith in
    record { script = script; is = sym (same_Some _ _ is) ∙ ap (λ i. at_start i (Some (parked_at_boot script quantum slots))) at; below = omega arith }
waiting_at task (script ∷ scripts) quantum slots (suc k) its is =
    let rest = waiting_at (task + 1) scripts quantum slots k its is in
    let at : task + 1 + k ≡ task + suc k = omega arith in
    let below = rest.below in
    record { script = rest.script; is = rest.is ∙ ap (λ i. at_start i (Some (parked_at_boot rest.script quantum slots))) at; below = omega arith }

pub waiting_length : (task : ℕ) (scripts : List Schedule) (quantum slots : ℕ) → length (waiting_from task scripts quantum slots) ≡ length scripts
waiting_length task [] quantum slots = refl
waiting_length task (script ∷ scripts) quantum slots = ap (λ n. suc n) (waiting_length (task + 1) scripts quantum slots)

-- a list of scripts that is not empty
pub some_scripts : (scripts : List Schedule) → 1 ≤ length scripts → (first : Schedule) × (others : List Schedule) × (scripts ≡ first ∷ others)
some_scripts [] some = absurd (omega arith)
some_scripts (first ∷ others) some = (first, others, refl)

pub words_at_boot : (count : ℕ) (image : List ℕ) → length (task_words count image) ≡ quarter * count
words_at_boot count image = length-map-range_with_len (word image) 0 (quarter * count)

pub waiting_going : (task : ℕ) (scripts : List Schedule) (quantum slots i : ℕ) (x : Task) → slice_get (waiting_from task scripts quantum slots) i ≡ Some x → x.end ≡ None
waiting_going task [] quantum slots i x is = absurd (cc)
waiting_going task (script ∷ scripts) quantum slots zero x is = let its : at_start task (Some (parked_at_boot script quantum slots)) ≡ x = cc in ap (λ (z : Task). z.end) (sym its)
waiting_going task (script ∷ scripts) quantum slots (suc i) x is = waiting_going (task + 1) scripts quantum slots i x is

pub each_going : (others : List Schedule) (quantum slots i : ℕ) (x : Task) → slice_get (at_start 0 None ∷ waiting_from 1 others quantum slots) i ≡ Some x → x.end ≡ None
each_going others quantum slots zero x is = let its : at_start 0 None ≡ x = cc in ap (λ (z : Task). z.end) (sym its)
each_going others quantum slots (suc i) x is = waiting_going 1 others quantum slots i x is
