-- Scripts of several tasks, right and wrong, with what they schedule.
use Rattle.std.proofs.Common.{◌≡◌, [], ◌∷◌, codes, refl}
use Rattle.std.specs.Prelude.{Some}
use Rattle.input_script.specs.declared.input.Input.TheVariants.{Uart, Int}
use Rattle.input_script.specs.declared.fault.ScriptFault.TheVariants.{Form, Order, Range}
use Rattle.input_script.specs.Script.{nothing}
use Rattle.task_input.specs.Scripts.{own_line, scripts_fault, Schedules}

pub own : own_line 1 (codes "task 1 at 5 int 7") ≡ codes "at 5 int 7"
own = refl

pub other : own_line 0 (codes "task 1 at 5 int 7") ≡ []
other = refl

-- each task's events are in order by themselves
pub two_tasks : Schedules 2 (codes "task 1 at 5 uart 0x41\n# end\ntask 0 at 3 int 7\n")
    (record { events = record { at = 3; input = Int 7 } ∷ []; failing = [] } ∷ record { events = record { at = 5; input = Uart 65 } ∷ []; failing = [] } ∷ [])
two_tasks = record { sound = refl; schedules_are = refl }

pub no_lines : Schedules 1 [] (nothing ∷ [])
no_lines = record { sound = refl; schedules_are = refl }

pub no_such_task : scripts_fault 2 (codes "task 1 at 5 int 7\ntask 2 at 5 int 7\n") ≡ Some (2, Form)
no_such_task = refl

pub no_name : scripts_fault 1 (codes "at 5 int 7\n") ≡ Some (1, Form)
no_name = refl

pub failing : scripts_fault 1 (codes "fail flash 1\n") ≡ Some (1, Form)
failing = refl

pub failing_named : scripts_fault 1 (codes "task 0 fail flash 1\n") ≡ Some (1, Form)
failing_named = refl

pub own_form : scripts_fault 1 (codes "task 0 at 5 int 8\n") ≡ Some (1, Form)
own_form = refl

pub late : scripts_fault 2 (codes "task 0 at 5 int 7\ntask 1 at 4 int 7\ntask 0 at 4 int 7\n") ≡ Some (3, Order)
late = refl

-- the first line of all, though a later one is another task's
pub first_of_all : scripts_fault 2 (codes "task 1 at 1 adc 0x400\ntask 0 at 5 int 8\n") ≡ Some (1, Range)
first_of_all = refl
