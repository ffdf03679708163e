-- A task at boot is its own program at reset.
use Rattle.std.proofs.Common.{◌≡◌, ℕ, zero, suc, ◌+◌, ◌<◌, List, [], ◌∷◌, length, refl, sym, ap, ◌∙◌, arith}
use Rattle.std.specs.Prelude.{Option, Some, None, slice_get, sum_by}
use Rattle.input_script.specs.Script.{Schedule}
use Rattle.parked_tasks.specs.declared.task.Task.{Task}
use Rattle.task_input.specs.Images.{task_words}
use Rattle.parked_tasks.specs.declared.task.TaskEnd.{TaskEnd}
use Rattle.task_turns.specs.Turns.{Player, Turns, turns}
use Rattle.tk_tasks.specs.States.{Tasks, player_of, players_from, turns_of}
use Rattle.parked_tasks.specs.Ends.{flat_end_of}
use Rattle.task_turns.specs.Reset.{turns_at_reset}
use Rattle.task_turns.proofs.Isolation.{apart_from_others}
use Rattle.task_turns.proofs.OwnPrograms.{some_player, reset_going, player_at, reset_player}
use Rattle.tk_tasks.proofs.Paths.{player_at as player_from}

-- each player is a task
pub task_of : (n : ℕ) (t : Tasks) (k : ℕ) (tasks : List Task) (i : ℕ) (p : Player) → slice_get (players_from n t k tasks) i ≡ Some p → (task : Task) × (slice_get tasks i ≡ Some task)
task_of n t k [] i p there = absurd (cc)
task_of n t k (x ∷ tasks) zero p there = (x, refl)
task_of n t k (x ∷ tasks) (suc i) p there = task_of n t (k + 1) tasks i p there

pub boot_player : (n : ℕ) (t : Tasks) (image : List ℕ) (scripts : List Schedule) (quantum slots i : ℕ) (task : Task) → turns_of n t ≡ turns_at_reset image scripts quantum slots n
    → slice_get t.tasks i ≡ Some task → i < length scripts
    → player_of n t i task ≡ player_at (task_words (length scripts) image) scripts quantum slots n i
boot_player n t image scripts quantum slots i task same there below =
    let here : i ≡ 0 + i = omega arith in
    some_player (player_of n t i task) (player_at (task_words (length scripts) image) scripts quantum slots n i)
    (ap (λ j. Some (player_of n t j task)) here ∙ sym (player_from n t 0 t.tasks i task there) ∙ ap (λ (s : Turns). slice_get s.players i) same ∙ reset_player image scripts quantum slots n i below)

-- Each task is there, before the run and behind it, and none has ended at boot. ----------------------------

pub each_first : (n : ℕ) (t : Tasks) (image : List ℕ) (scripts : List Schedule) (quantum slots i : ℕ) → turns_of n t ≡ turns_at_reset image scripts quantum slots n → i < length scripts
    → (task : Task) × (slice_get t.tasks i ≡ Some task)
each_first n t image scripts quantum slots i same below =
    task_of n t 0 t.tasks i (player_at (task_words (length scripts) image) scripts quantum slots n i)
    (ap (λ (s : Turns). slice_get s.players i) same ∙ reset_player image scripts quantum slots n i below)

pub each_last : (n : ℕ) (t : Tasks) (image : List ℕ) (scripts : List Schedule) (quantum slots i : ℕ) → turns_of n t ≡ (turns (turns_at_reset image scripts quantum slots n)).turns → i < length scripts
    → (task : Task) × (slice_get t.tasks i ≡ Some task)
each_last n t image scripts quantum slots i same below =
    let start = turns_at_reset image scripts quantum slots n in
    let p = player_at (task_words (length scripts) image) scripts quantum slots n i in
    let apart = apart_from_others (sum_by (λ (q : Player). q.left + 1) start.players) start i p (reset_player image scripts quantum slots n i below) in
    task_of n t 0 t.tasks i apart.0 (ap (λ (s : Turns). slice_get s.players i) same ∙ apart.1)

none_ended : (end : Option TaskEnd) → flat_end_of end ≡ None → end ≡ None
none_ended None is = refl
none_ended (Some end) is = absurd (cc)

pub first_going : (n : ℕ) (t : Tasks) (image : List ℕ) (scripts : List Schedule) (quantum slots i : ℕ) (task : Task) → turns_of n t ≡ turns_at_reset image scripts quantum slots n
    → slice_get t.tasks i ≡ Some task → task.end ≡ None
first_going n t image scripts quantum slots i task same there =
    none_ended task.end (reset_going (task_words (length scripts) image) 0 scripts quantum slots n i (player_of n t (0 + i) task)
    (ap (λ (s : Turns). slice_get s.players i) (sym same) ∙ player_from n t 0 t.tasks i task there))
