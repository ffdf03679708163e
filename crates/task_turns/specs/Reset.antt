-- The programs of an image's tasks at reset, in turn (docs/TASKS.md, "Boot").
use Rattle.std.specs.Prelude.{ℕ, ◌+◌, List, [], ◌∷◌, length}
use Rattle.input_script.specs.Script.{Schedule}
use Rattle.task_input.specs.Images.{task_words}
use Rattle.task_turns.specs.Quarters.{quarter_part}
use Rattle.task_turns.specs.Turns.{Player, Turns, at_reset_in, from_start}

-- The programs of the tasks from this one on, in turn from reset, where each may do n steps: each has its script, its own
-- quarter of these words, and so many slots.
abbrev pub players_at_reset : (words : List ℕ) → ℕ → List Schedule → (quantum slots n : ℕ) → List Player
players_at_reset words task [] quantum slots n = []
players_at_reset words task (script ∷ scripts) quantum slots n =
    at_reset_in (record { image = words; part = quarter_part task; page_limit = slots; quantum = quantum }) script.events n ∷ players_at_reset words (task + 1) scripts quantum slots n

-- all of an image's tasks
abbrev pub turns_at_reset : (image : List ℕ) (scripts : List Schedule) (quantum slots n : ℕ) → Turns
turns_at_reset image scripts quantum slots n = from_start (players_at_reset (task_words (length scripts) image) 0 scripts quantum slots n)
