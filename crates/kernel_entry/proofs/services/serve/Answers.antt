use Rattle.kernel_entry.specs.Left.{Leaves, LeavesHeap}
use Rattle.kernel_entry.specs.Rows.{Bridges, EndsQuantum, Executes, PushesReturn, Returns, GoesThrough, LoopsOrHalts, Faults, AsTried}
use Rattle.kernel_entry.specs.Services.{served}
use Rattle.kernel_entry.specs.declared.kernel.Kernel.{Kernel}
use Rattle.kernel_entry.specs.declared.kernel.Served.{Served}
use Rattle.kernel_entry.proofs.ServedLaws.{along, served_leaves, served_leaves_heap, bridge_row, quantum_row, mem_row, push_row, return_row, indirect_row, self_entry_row, fault_row, served_tried}
use Rattle.kernel_entry.proofs.services.serve.Goals as goal

-- each clause from the function `served`
pub returns : goal.returns
returns c =
    let k = c.args.k.now in
    let can = c.requires.can in
    let here = λ (P : Served → Kernel → Type 0) (fact : P (served k).0 (served k).1). along P (c.serve_at.result.0, c.serve_at.new.k) (served k) c.serve_at.ensures.served fact in
    record {
      served = c.serve_at.ensures.served;
      leaves = here (λ result new. Leaves k new) (served_leaves k can);
      heap = λ apart. here (λ result new. LeavesHeap k new) (served_leaves_heap k can apart);
      bridge = λ at. here (Bridges k) (bridge_row k at);
      quantum = λ at. here (EndsQuantum k) (quantum_row k c.descriptor-at.ensures.size at);
      memory = λ at. here (Executes k) (mem_row k can at);
      push_return = λ at. here (PushesReturn k) (push_row k can at);
      returns = λ at. here (Returns k) (return_row k can at);
      indirect = λ at. here (GoesThrough k) (indirect_row k can at);
      itself = λ at. here (LoopsOrHalts k) (self_entry_row k can at);
      fault = λ at. here (Faults k) (fault_row k c.descriptor-at.ensures.size at);
      tried = λ one two. here (AsTried k) (served_tried k c.descriptor-at.ensures.whole.words_fit can one two);
    }
