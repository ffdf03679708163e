-- What boot makes is the mote and the tasks at boot.
use Rattle.std.proofs.Common.{◌≡◌, ◌+◌, ◌≤◌, List, [], ◌∷◌, ◌++◌, ℕ, length, sym, ap, ap₂, ◌∙◌, arith, None}
use Rattle.std.specs.Prelude.{slice_index_or, Some}
use Rattle.std.proofs.lemmas.List.{append_assoc, append-nil}
use Rattle.std.specs.List.{remove}
use Rattle.input_script.specs.Script.{Schedule}
use Rattle.kernel_entry.specs.declared.kernel.Kernel.{Kernel}
use Rattle.task_input.specs.Images.{task_words}
use Rattle.parked_tasks.specs.declared.parked.Parked.{Parked}
use Rattle.parked_tasks.specs.declared.task.Task.{Task}
use Rattle.parked_tasks.specs.Made.{AreBooted}
use Rattle.parked_tasks.specs.AtBoot.{at_start, kernel_at_boot, parked_at_boot, waiting_from}

pub booted_by : (image : List ℕ) (scripts left others : List Schedule) (first script : Schedule) (count quantum slots : ℕ) (kernel : Kernel) (tasks : List Task)
    → scripts ≡ first ∷ others → script ≡ slice_index_or scripts 0 script → left ≡ remove scripts 0 → count ≡ length scripts
    → kernel ≡ kernel_at_boot (task_words count image) script quantum slots → tasks ≡ at_start 0 None ∷ waiting_from 1 left quantum slots → AreBooted image first others quantum slots kernel tasks
booted_by image scripts left others first script count quantum slots kernel tasks is taken rest counted booted waiting =
    let size : length scripts ≡ length (first ∷ others) = ap length is in
    let more : count ≡ length others + 1 = omega (arith, counted, size) in
    record {
      mote = booted ∙ ap₂ (λ n s. kernel_at_boot (task_words n image) s quantum slots) more (taken ∙ ap (λ l. slice_index_or l 0 script) is);
      waiting = waiting ∙ ap (λ l. at_start 0 None ∷ waiting_from 1 l quantum slots) (rest ∙ ap (λ l. remove l 0) is);
    }

-- the first task
pub first_stands : (tasks before rest : List Task) (task its : Task) → tasks ≡ before ++ task ∷ [] → before ≡ [] → task ≡ its → tasks ++ rest ≡ its ∷ rest
first_stands tasks before rest task its added none is = ap (λ l. l ++ rest) (added ∙ ap₂ (λ b x. b ++ x ∷ []) none is)

-- one more task, with the first of the scripts that are left
pub next_stands : (before tasks : List Task) (i : ℕ) (scripts left : List Schedule) (script : Schedule) {parked : Parked} (task : Task) (quantum slots : ℕ)
    → 1 ≤ length scripts → script ≡ slice_index_or scripts 0 script → left ≡ remove scripts 0 → parked ≡ parked_at_boot script quantum slots
    → task ≡ at_start i (Some parked) → tasks ≡ before ++ task ∷ [] → tasks ++ waiting_from (i + 1) left quantum slots ≡ before ++ waiting_from i scripts quantum slots
next_stands before tasks i [] left script task quantum slots some taken rest kept is added = absurd (omega (arith, some))
next_stands before tasks i (first ∷ others) left script task quantum slots some taken rest kept is added =
    ap₂ (λ l r. l ++ waiting_from (i + 1) r quantum slots) added rest
    ∙ append_assoc before (task ∷ []) (waiting_from (i + 1) others quantum slots)
    ∙ ap (λ x. before ++ x ∷ waiting_from (i + 1) others quantum slots) (is ∙ ap (λ p. at_start i (Some p)) (kept ∙ ap (λ s. parked_at_boot s quantum slots) taken))

-- where no script is left
pub all_stand : (tasks all : List Task) (i : ℕ) (scripts : List Schedule) (quantum slots : ℕ) → length scripts ≡ 0 → tasks ++ waiting_from i scripts quantum slots ≡ all → tasks ≡ all
all_stand tasks all i [] quantum slots none is = sym (append-nil tasks) ∙ is
all_stand tasks all i (script ∷ scripts) quantum slots none is = absurd (omega (arith, none))
