-- What boot makes is the tasks at boot.
use Rattle.std.proofs.Common.{◌≡◌, ◌+◌, List, [], ℕ, length, false, ap, ap₂, None}
use Rattle.flash_words.specs.Memory.{new_flash, IsWhole}
use Rattle.input_script.specs.Script.{Schedule}
use Rattle.kernel_entry.specs.declared.kernel.Kernel.{Kernel}
use Rattle.task_input.specs.Images.{task_words}
use Rattle.parked_tasks.specs.declared.task.Task.{Task}
use Rattle.parked_tasks.specs.Made.{AreBooted}
use Rattle.tk_tasks.specs.States.{Tasks}
use Rattle.tk_tasks.specs.Booted.{booted}

-- they are the tasks at boot
pub tasks_booted : {image : List ℕ} {first : Schedule} {others : List Schedule} {quantum slots : ℕ} {kernel : Kernel} {tasks : List Task} → AreBooted image first others quantum slots kernel tasks
    → ◌≡◌ {A = Tasks} (record { kernel = kernel; running = 0; stub = None; tasks = tasks; broken = false; natural = 0; entries = 0; pages = 0; switches = 0 }) (booted image first others quantum slots)
tasks_booted {image} {first} {others} {quantum} {slots} {kernel} {tasks} are =
    ap₂ (λ (k : Kernel) (l : List Task). record { kernel = k; running = 0; stub = None; tasks = l; broken = false; natural = 0; entries = 0; pages = 0; switches = 0 }) are.mote are.waiting

-- and flash is whole
pub flash_booted : {image : List ℕ} {first : Schedule} {others : List Schedule} {quantum slots : ℕ} {kernel : Kernel} {tasks : List Task} → AreBooted image first others quantum slots kernel tasks
    → IsWhole kernel.mote.flash → IsWhole (new_flash (task_words (length others + 1) image) [])
flash_booted are whole = rw (ap (λ (k : Kernel). k.mote.flash) are.mote) at whole
