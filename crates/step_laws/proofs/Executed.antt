-- COUNT after a crossing; and an instruction that a service executes: where it goes on, and what it leaves.
use Rattle.std.proofs.Common.{ℕ, ◌≡◌, ◌≤◌, Bool, true, false, List, length, refl, arith, ap, inl}
use Rattle.std.specs.Prelude.{if◌then◌else◌}
use Rattle.avr_isa.specs.Crossing.{is_crossing}
use Rattle.sram_layout.specs.Bytes.{byte_at, with_byte, with_word}
use Rattle.sram_layout.proofs.Laws.{byte_same, length-with_byte, word_same}
use Rattle.inline_laws.proofs.Cells.{byte_apart}
use Rattle.sram_layout.specs.Cells.{count_cell, vsp_cell}
use Rattle.preempt_count.specs.Counting.{crossed, count_after}
use Rattle.kernel_entry.specs.declared.kernel.Kernel.{Kernel}
use Rattle.step_laws.proofs.SameProgram.{SameProgram, same_sram, flat_parts}
use Rattle.kernel_entry.specs.Parts.{with_sram, core_of, memory_of, put_back, with_pc, descriptor, image_held}
use Rattle.avr_isa.specs.Instruction.{size_of}
use Rattle.avr_isa.specs.declared.form.Form.{Form}
use Rattle.avr_isa.specs.declared.form.Form.TheVariants as forms
use Rattle.avr_exec.specs.declared.cpu.Cpu.{Cpu}
use Rattle.avr_exec.specs.declared.stop.BusStop.{BusStop}
use Rattle.avr_isa.specs.Addresses.{wrapping_sum}
use Rattle.avr_exec.specs.Execution.{answered_by, exec_of}
use Rattle.avr_exec.specs.Spaces.{Outcome, Went as WentOn}
use Rattle.avr_exec.specs.Likeness.{is_transfer, moved}
use Rattle.avr_exec.proofs.OtherPlace.{exec_moved}
use Rattle.heap_frames.specs.Paged.{IsPaged}
use Rattle.heap_frames.proofs.SamePagingLaws.{vmem_word_cell, same_paging_word, pages_same}
use Rattle.flat_machine.specs.FlatMachine.{next_size, jumps_to_itself, end_at}
use Rattle.mem_guard.specs.Guarded.{Guarded, guarded_calls, state_of}
use Rattle.mem_guard.specs.Left.{IsKept}
use Rattle.mem_guard.proofs.Leaves.{executed_leaves}
use Rattle.avr_exec.specs.declared.stop.BusStop.TheVariants as bus
use Rattle.page_draft.specs.Standing.{size}
use Rattle.kernel_entry.specs.Services.{stop_of, executed}
use Rattle.kernel_entry.specs.Seen.{state_at, end_of}

-- COUNT by the crossing
pub count_crossed : (q from to : ℕ) (m : List ℕ) (b : Bool) → is_crossing from to ≡ b → 1 ≤ length m
    → byte_at (if b then with_byte m count_cell (count_after q (byte_at m count_cell)) else m) count_cell ≡ (if b then count_after q (byte_at m count_cell) else byte_at m count_cell)
count_crossed q from to m true is long = byte_same m count_cell (count_after q (byte_at m count_cell)) (omega arith) (omega arith)
count_crossed q from to m false is long = refl

kept_crossed : (q : ℕ) (m : List ℕ) (b : Bool)
    → (length (if b then with_byte m count_cell (count_after q (byte_at m count_cell)) else m) ≡ length m)
    × ((c : ℕ) → vsp_cell ≤ c → byte_at (if b then with_byte m count_cell (count_after q (byte_at m count_cell)) else m) c ≡ byte_at m c)
kept_crossed q m true = (length-with_byte m count_cell (count_after q (byte_at m count_cell)), λ c low. byte_apart m count_cell c (count_after q (byte_at m count_cell)) (omega arith))
kept_crossed q m false = (refl, λ c low. refl)

pub same_crossed : (k : Kernel) (q from to : ℕ) (m : List ℕ) → k.mote.cpu.sp ≡ 0x011F → SameProgram (with_sram k m).mote (with_sram k (crossed q from to m)).mote
unfolding crossed
same_crossed k q from to m top =
    let kept = kept_crossed q m (is_crossing from to) in
    same_sram (with_sram k m).mote k.mote.cpu.sp k.mote.cpu.pc (crossed q from to m) top kept.0 (λ b apart. kept.1 b apart.0)

-- the instruction at a, executed over the program's memory
abbrev pub executed_at : Kernel → ℕ → Form → Outcome Guarded Cpu
executed_at k a form = exec_of guarded_calls form (core_of k a) (memory_of k) (next_size (image_held k) a)

pub executed_is : (k : Kernel) (a : ℕ) (form : Form) → descriptor k ≡ a → executed k form ≡ executed_at k a form
unfolding executed
executed_is k a form behind = ap (λ at. executed_at k at form) behind

-- the kernel after it, with the physical pc at this place
abbrev pub returned : Kernel → Cpu → Guarded → ℕ → Kernel
returned k cpu g place = with_pc (put_back k cpu g) place

pub straight_goes : (pc : ℕ) (form : Form) → is_transfer form ≡ false → jumps_to_itself pc form ≡ false
unfolding is_transfer
straight_goes pc (forms.Jmp a) is = absurd (cc)
straight_goes pc (forms.Rjmp k) is = absurd (cc)
straight_goes pc _ is = refl

-- so it goes on to the next address
next_went : {S : Type 0} (cpu cpu' : Cpu) (g : S) (p : ℕ) (o : Outcome S Cpu) → o ≡ answered_by (λ t. moved t p) o → o ≡ WentOn cpu' g → cpu'.pc ≡ p
next_went cpu cpu' g p o same is =
    let parts : cpu' ≡ moved cpu' p = cc in
    ap (λ (c : Cpu). c.pc) parts

pub straight_next : (k : Kernel) (a : ℕ) (form : Form) (cpu : Cpu) (g : Guarded) → is_transfer form ≡ false → executed_at k a form ≡ WentOn cpu g → cpu.pc ≡ wrapping_sum a (size_of form)
straight_next k a form cpu g straight went =
    next_went (core_of k a) cpu g (wrapping_sum a (size_of form)) (executed_at k a form)
    (exec_moved guarded_calls form (core_of k a) (memory_of k) (next_size (image_held k) a) (next_size (image_held k) a) a straight) went

-- the program's state after the core and the memory were put back
pub flat_put : (k : Kernel) (cpu : Cpu) (g : Guarded) (place s c : ℕ) → length g.sram ≡ 4096 → state_at (returned k cpu g place) cpu.pc s c ≡ state_of g cpu s c
flat_put k cpu g place s c size =
    let m = with_word g.sram vsp_cell cpu.sp in
    flat_parts _ _ _ _ _ _ cpu.pc s c _ _ _ _ _ _ refl refl (word_same g.sram vsp_cell cpu.sp (omega arith) (omega arith))
    (vmem_word_cell g.sram g.swap vsp_cell cpu.sp (omega arith) (inl (omega arith))) refl
    (pages_same g.sram m (same_paging_word g.sram vsp_cell cpu.sp (omega arith) (inl (omega arith))))

pub end_stop : (a : ℕ) (stop : BusStop) → end_of (stop_of a stop) ≡ end_at a stop
end_stop a (bus.Io b) = refl
end_stop a (bus.Stack b) = refl
end_stop a (bus.SwapFull b) = refl

pub kept_of : (k : Kernel) (a : ℕ) (form : Form) (cpu : Cpu) (g : Guarded) → IsPaged k.mote.sram k.mote.swap → executed_at k a form ≡ WentOn cpu g → IsKept (memory_of k) g
kept_of k a form cpu g paged went = (rw went at (executed_leaves form (core_of k a) (memory_of k) (next_size (image_held k) a) paged)).0
