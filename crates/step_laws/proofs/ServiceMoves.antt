-- A service of a walk has the row of its entry.
use Rattle.std.proofs.Common.{◌≡◌, Bool, length, Option, refl, sym, ap, ◌∙◌, subst}
use Rattle.mote_devices.specs.declared.line.Line.{Line}
use Rattle.sram_layout.specs.Bytes.{byte_count}
use Rattle.flash_words.specs.Memory.{AreWords}
use Rattle.kernel_entry.specs.declared.kernel.Kernel.{Kernel}
use Rattle.kernel_entry.specs.declared.kernel.Served.{Served}
use Rattle.kernel_entry.specs.declared.kernel.Served.TheVariants as answers
use Rattle.kernel_entry.specs.Conditions.{CanServe}
use Rattle.kernel_entry.specs.Services.{served, is_due}
use Rattle.kernel_entry.proofs.ServedLaws.{served_leaves, served_leaves_heap, bridge_row, quantum_row, mem_row, push_row, return_row, indirect_row, self_entry_row, fault_row, served_tried}
use Rattle.step_laws.specs.States.{State, after_service}
use Rattle.step_laws.specs.Walks.{MakesServe}
use Rattle.step_laws.specs.ServiceRows.{HasItsRow, ServicesHaveRows}

kernel_after : (due : Bool) (p : Served × Kernel) → (after_service due p).kernel ≡ p.1
kernel_after due (answers.Resume line, k) = refl
kernel_after due (answers.Goto target stub, k) = refl
kernel_after due (answers.Woke target, k) = refl
kernel_after due (answers.Stopped stop, k) = refl

-- the kernel that the move leads to
pub kernel_served : (x y : State) (line : Option Line) (stops : Bool) → MakesServe x line stops y → y.kernel ≡ (served x.kernel).1
kernel_served x y line stops makes = ap (λ (s : State). s.kernel) makes.result ∙ kernel_after (is_due x.kernel) (served x.kernel)

row_of : (k : Kernel) → length k.mote.sram ≡ byte_count → AreWords k.mote.flash.words → CanServe k → HasItsRow k (served k).0 (served k).1
row_of k size words can = record {
  leaves = served_leaves k can;
  heap = served_leaves_heap k can;
  bridge = bridge_row k;
  quantum = quantum_row k size;
  memory = mem_row k can;
  push_return = push_row k can;
  returns = return_row k can;
  indirect = indirect_row k can;
  itself = self_entry_row k can;
  fault = fault_row k size;
  tried = served_tried k words can;
}

pub services_have_rows : ServicesHaveRows
services_have_rows x y line stops size words makes =
    subst (HasItsRow x.kernel (served x.kernel).0) (sym (kernel_served x y line stops makes)) (row_of x.kernel size words makes.can)
