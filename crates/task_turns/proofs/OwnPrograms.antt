-- A task at reset is its own program, and over no words but its quarter's it runs as over all.
use Rattle.std.proofs.Common.{◌≡◌, ℕ, zero, suc, ◌+◌, ◌*◌, ◌%◌, ◌<◌, ◌≤◌, true, List, [], ◌∷◌, length, refl, sym, ap, ◌∙◌, arith, inl, inr}
use Rattle.std.specs.Prelude.{Some, None, slice_get, slice_index_or}
use Rattle.std.proofs.lemmas.Bool.{cases_eq}
use Rattle.std.proofs.lemmas.Bool.Decides.{nat_tests}
use Rattle.std.proofs.lemmas.List.FromFn.{get_or-map-range_with_len}
use Rattle.avr_isa.specs.Image.{word}
use Rattle.input_script.specs.Script.{Schedule, nothing}
use Rattle.flat_machine.specs.FlatMachine.{Program, is_own}
use Rattle.flat_machine.specs.Masked.{IsFramed}
use Rattle.flat_machine.specs.Masked as masked
use Rattle.flat_machine.proofs.PartLaws.{masked_run}
use Rattle.task_input.specs.Images.{quarter, blank, IsMisplaced, task_words}
use Rattle.task_turns.specs.Quarters.{quarter_part}
use Rattle.task_turns.specs.Turns.{Player, alone, at_reset_in}
use Rattle.task_turns.specs.Reset.{players_at_reset, turns_at_reset}

-- the program of a task, over these words
abbrev pub program_at : (words : List ℕ) (quantum slots task : ℕ) → Program
program_at words quantum slots task = record { image = words; part = quarter_part task; page_limit = slots; quantum = quantum }

abbrev pub player_at : (words : List ℕ) (scripts : List Schedule) (quantum slots n task : ℕ) → Player
player_at words scripts quantum slots n task = at_reset_in (program_at words quantum slots task) (slice_index_or scripts task nothing).events n

reset_from : (words : List ℕ) (k : ℕ) (scripts : List Schedule) (quantum slots n i : ℕ) → i < length scripts
    → slice_get (players_at_reset words k scripts quantum slots n) i ≡ Some (at_reset_in (program_at words quantum slots (k + i)) (slice_index_or scripts i nothing).events n)
reset_from words k [] quantum slots n i below = absurd (omega (arith, below))
reset_from words k (script ∷ scripts) quantum slots n zero below =
    let here : k ≡ k + 0 = omega arith in
    ap (λ j. Some (at_reset_in (program_at words quantum slots j) script.events n)) here
reset_from words k (script ∷ scripts) quantum slots n (suc i) below =
    let more : k + 1 + i ≡ k + suc i = omega arith in
    reset_from words (k + 1) scripts quantum slots n i (omega (arith, below)) ∙ ap (λ j. Some (at_reset_in (program_at words quantum slots j) (slice_index_or scripts i nothing).events n)) more

pub some_player : (p q : Player) → Some p ≡ Some q → p ≡ q
some_player p q same = cc

-- a player of the tasks in turn at reset
pub reset_player : (image : List ℕ) (scripts : List Schedule) (quantum slots n i : ℕ) → i < length scripts
    → slice_get (turns_at_reset image scripts quantum slots n).players i ≡ Some (player_at (task_words (length scripts) image) scripts quantum slots n i)
reset_player image scripts quantum slots n i below =
    let words = task_words (length scripts) image in
    let here : 0 + i ≡ i = omega arith in
    reset_from words 0 scripts quantum slots n i below ∙ ap (λ j. Some (at_reset_in (program_at words quantum slots j) (slice_index_or scripts i nothing).events n)) here

own_bounds : (task a : ℕ) → is_own (quarter_part task) a ≡ true → (quarter * task ≤ a) × (a < quarter * task + quarter)
own_bounds task a own = (grind (arith, nat_tests, own), grind (arith, nat_tests, own))

blank_by : (count : ℕ) (image : List ℕ) (a : ℕ) → ((address : ℕ) → ¬ IsMisplaced count image address) → 4094 ≤ a % 4096 → word image a ≡ blank
blank_by count image a placed last = elim (cases_eq (word image a) blank) [
  | inl is ↦ is
  | inr apart ↦ elim (cases_eq (a % 4096) 4094) [
    | inl first ↦ absurd (placed a (inr (inl first), apart))
    | inr other ↦ let second : a % 4096 ≡ 4095 = omega (arith, last, other) in absurd (placed a (inr (inr second), apart))
  ]
]

framed : (count : ℕ) (image : List ℕ) (task : ℕ) → task < count → count ≤ 4 → ((address : ℕ) → ¬ IsMisplaced count image address) → IsFramed (quarter_part task) (task_words count image)
framed count image task below few placed = record {
  shut = refl;
  few = omega (arith, below, few);
  erased = λ a own last.
      let bounds = own_bounds task a own in
      let least : quarter * task ≤ a = bounds.0 in
      let most : a < quarter * task + quarter = bounds.1 in
      (get_or-map-range_with_len (word image) 0 (quarter * count) a a 0xFFFF (omega (arith, most, below)) (omega arith)) ∙ blank_by count image a placed (omega (arith, least, most, last));
}

-- the run of a task's program over its own words alone is that over all
pub own_run : (count : ℕ) (image : List ℕ) (scripts : List Schedule) (quantum slots n task : ℕ) → task < count → count ≤ 4 → ((address : ℕ) → ¬ IsMisplaced count image address)
    → alone (at_reset_in (masked.alone (program_at (task_words count image) quantum slots task)) (slice_index_or scripts task nothing).events n)
    ≡ alone (player_at (task_words count image) scripts quantum slots n task)
own_run count image scripts quantum slots n task below few placed =
    masked_run (program_at (task_words count image) quantum slots task) (player_at (task_words count image) scripts quantum slots n task).moment n (framed count image task below few placed)

-- none has ended at reset
pub reset_going : (words : List ℕ) (k : ℕ) (scripts : List Schedule) (quantum slots n i : ℕ) (p : Player) → slice_get (players_at_reset words k scripts quantum slots n) i ≡ Some p → p.end ≡ None
reset_going words k [] quantum slots n i p there = absurd (cc)
reset_going words k (script ∷ scripts) quantum slots n zero p there =
    ap (λ (q : Player). q.end) (sym (some_player (at_reset_in (program_at words quantum slots k) script.events n) p there))
reset_going words k (script ∷ scripts) quantum slots n (suc i) p there = reset_going words (k + 1) scripts quantum slots n i p there
