-- The instructions with an inline template, executed over the program's memory where they reach the stack window; and what
-- the program sees of another SRAM.
use Rattle.std.proofs.Common.{◌≡◌, ℕ, ◌-◌, ◌<◌, ◌≤◌, true, false, cond, List, length, arith, refl, ap, ap₂, ◌∙◌}
use Rattle.std.specs.Prelude.{slice_index, slice_set, nat_lt, nat_le, ◌&&◌}
use Rattle.std.proofs.lemmas.Bool.Decides.{nat_tests}
use Rattle.avr_isa.specs.declared.form.Form.TheVariants.{Push, Pop, LoadOff, StoreOff}
use Rattle.avr_isa.specs.declared.operation.Base.TheVariants.{Y}
use Rattle.avr_exec.specs.declared.cpu.Cpu.{Cpu}
use Rattle.avr_exec.specs.declared.ask.Ask.TheVariants.{Nothing, Load, Store, PushByte, PopByte}
use Rattle.avr_exec.specs.declared.answer.Answer.TheVariants.{Done, Byte}
use Rattle.avr_exec.specs.declared.stop.BusStop.TheVariants.{Stack as StackStop}
use Rattle.avr_isa.specs.Addresses.{wrapping_sum, wrapping_difference}
use Rattle.avr_exec.specs.Registers.{is_own, own_byte, with_own_byte, with_counter}
use Rattle.avr_exec.specs.Asks.{ask_of, finish_of, load_of, store_of}
use Rattle.avr_exec.specs.Effects.{loaded, stored}
use Rattle.avr_exec.specs.Execution.{answered_by, answer_of}
use Rattle.avr_exec.specs.StackRules.{push_on, pop_from}
use Rattle.avr_exec.specs.Spaces.{Went as WentOn, Stopped as StoppedOn}
use Rattle.avr_exec.proofs.OneAnswer.{exec_went}
use Rattle.sram_layout.specs.Bytes.{byte_at, with_byte, data_word_at}
use Rattle.sram_layout.specs.Cells.{vsp_cell}
use Rattle.sram_layout.specs.Regions.{stack_window}
use Rattle.flat_machine.specs.Addresses.{is_stack, is_heap}
use Rattle.heap_frames.specs.Memory.{vmem}
use Rattle.heap_frames.specs.SamePaging.{SamePaging}
use Rattle.heap_frames.proofs.MemoryLaws.{in_window}
use Rattle.heap_frames.proofs.SamePagingLaws.{pages_same, vmem_same}
use Rattle.flat_machine.specs.declared.address.AddrClass.TheVariants.{Register, Cpu as Core, Io, Stack, Heap}
use Rattle.flat_machine.specs.Classes.{class_of}
use Rattle.flat_machine.specs.FlatMachine.{next_size}
use Rattle.mem_guard.specs.Guarded.{Guarded, guarded_calls, load, load_in, store, store_in, push, pop, with_sram, state_of}
use Rattle.kernel_entry.specs.declared.kernel.Kernel.{Kernel}
use Rattle.kernel_entry.specs.Parts.{core_of, memory_of, virtual_sp, image_held}
use Rattle.kernel_entry.specs.Seen.{state_at}
use Rattle.step_laws.proofs.Executed.{executed_at}
use Rattle.step_laws.proofs.SameProgram.{flat_parts}
use Rattle.inline_laws.specs.InlineWays.{from_frame, above_pointer}

-- what the program's memory answers at an address of the window
pushed_there : (g : Guarded) (sp v : ℕ) → is_stack sp ≡ true → answer_of guarded_calls g (PushByte sp v) ≡ WentOn Done (with_sram g sp v)
unfolding answer_of push push_on
pushed_there g sp v stack = ap (λ b. answered_by (λ (_ : Unit {0}). Done) (cond b (WentOn tt (with_sram g sp v)) (StoppedOn (StackStop sp)))) stack

popped_there : (g : Guarded) (sp : ℕ) → is_stack (wrapping_sum sp 1) ≡ true → answer_of guarded_calls g (PopByte sp) ≡ WentOn (Byte (byte_at g.sram (wrapping_sum sp 1))) g
unfolding answer_of pop pop_from
popped_there g sp stack = ap (λ b. answered_by Byte (cond b (WentOn (byte_at g.sram (wrapping_sum sp 1)) g) (StoppedOn (StackStop (wrapping_sum sp 1))))) stack

not_low : (a : ℕ) → 0x0D00 ≤ a → nat_lt a 0x20 ≡ false
not_low a from = grind (arith, nat_tests)

not_core : (a : ℕ) → 0x0D00 ≤ a → nat_le 0x5D a && nat_le a 0x5F ≡ false
not_core a from = grind (arith, nat_tests)

not_own : (a : ℕ) → 0x0D00 ≤ a → is_own a ≡ false
not_own a from = grind (arith, nat_tests)

window_class : (a : ℕ) → stack_window.first ≤ a → a < stack_window.behind → class_of a ≡ Stack
unfolding class_of
window_class a from to =
    ap₂ (λ x y. cond x Register (cond y Core (cond (is_stack a) Stack (cond (is_heap a) Heap Io)))) (not_low a from) (not_core a from)
    ∙ ap (λ b. cond b Stack (cond (is_heap a) Heap Io)) (in_window a from to)

loaded_there : (g : Guarded) (a : ℕ) → stack_window.first ≤ a → a < stack_window.behind → answer_of guarded_calls g (load_of a) ≡ WentOn (Byte (byte_at g.sram a)) g
unfolding answer_of load_of load
loaded_there g a from to =
    ap (λ b. answer_of guarded_calls g (cond b Nothing (Load a))) (not_own a from)
    ∙ ap (λ c. answered_by Byte (load_in c g a)) (window_class a from to)

stored_there : (g : Guarded) (a v : ℕ) → stack_window.first ≤ a → a < stack_window.behind → answer_of guarded_calls g (store_of a v) ≡ WentOn Done (with_sram g a v)
unfolding answer_of store_of store
stored_there g a v from to =
    ap (λ b. answer_of guarded_calls g (cond b Nothing (Store a v))) (not_own a from)
    ∙ ap (λ c. answered_by (λ (_ : Unit {0}). Done) (store_in c g a v)) (window_class a from to)

-- and what the core makes of it
loaded_is : (cpu : Cpu) (a v : ℕ) → 0x0D00 ≤ a → loaded cpu a v ≡ v
unfolding loaded
loaded_is cpu a v from = ap (λ b. cond b (own_byte cpu a) v) (not_own a from)

stored_is : (cpu : Cpu) (a v : ℕ) → 0x0D00 ≤ a → stored cpu a v ≡ cpu
unfolding stored
stored_is cpu a v from = ap (λ b. cond b (with_own_byte cpu a v) cpu) (not_own a from)

-- The instruction goes on, with these registers and stack pointer, and these bytes.
abbrev pub core_after : Kernel → ℕ → List ℕ → ℕ → Cpu
core_after k a r sp = record { r = r; sreg = k.mote.cpu.sreg; sp = sp; pc = wrapping_sum a 1 }

abbrev pub memory_after : Kernel → List ℕ → Guarded
memory_after k sram = record (memory_of k) { sram = sram }

pub push_executed : (k : Kernel) (a d : ℕ) → stack_window.first ≤ virtual_sp k → virtual_sp k < stack_window.behind
    → executed_at k a (Push d) ≡ WentOn (core_after k a k.mote.cpu.r (virtual_sp k - 1)) (memory_after k (with_byte k.mote.sram (virtual_sp k) (slice_index k.mote.cpu.r d)))
unfolding ask_of finish_of
push_executed k a d from to =
    let sp = virtual_sp k in
    let x = slice_index k.mote.cpu.r d in
    let down : wrapping_difference sp 1 ≡ sp - 1 = omega arith in
    exec_went guarded_calls (Push d) (core_of k a) (memory_of k) (next_size (image_held k) a) Done (memory_after k (with_byte k.mote.sram sp x))
    (pushed_there (memory_of k) sp x (in_window sp from to))
    ∙ ap (λ p. WentOn (core_after k a k.mote.cpu.r p) (memory_after k (with_byte k.mote.sram sp x))) down

pub pop_executed : (k : Kernel) (a d : ℕ) → stack_window.first ≤ above_pointer k.mote → above_pointer k.mote < stack_window.behind
    → executed_at k a (Pop d) ≡ WentOn (core_after k a (slice_set k.mote.cpu.r d (byte_at k.mote.sram (above_pointer k.mote))) (above_pointer k.mote)) (memory_of k)
unfolding ask_of finish_of
pop_executed k a d from to =
    let p = above_pointer k.mote in
    exec_went guarded_calls (Pop d) (core_of k a) (memory_of k) (next_size (image_held k) a) (Byte (byte_at k.mote.sram p)) (memory_of k)
    (popped_there (memory_of k) (virtual_sp k) (in_window p from to))

pub load_executed : (k : Kernel) (a d q : ℕ) → stack_window.first ≤ from_frame k.mote q → from_frame k.mote q < stack_window.behind
    → executed_at k a (LoadOff d Y q) ≡ WentOn (core_after k a (slice_set k.mote.cpu.r d (byte_at k.mote.sram (from_frame k.mote q))) (virtual_sp k)) (memory_of k)
unfolding ask_of finish_of
load_executed k a d q from to =
    let p = from_frame k.mote q in
    let x = byte_at k.mote.sram p in
    exec_went guarded_calls (LoadOff d Y q) (core_of k a) (memory_of k) (next_size (image_held k) a) (Byte x) (memory_of k) (loaded_there (memory_of k) p from to)
    ∙ ap (λ y. WentOn (core_after k a (slice_set k.mote.cpu.r d y) (virtual_sp k)) (memory_of k)) (loaded_is (core_of k a) p x from)

pub store_executed : (k : Kernel) (a d q : ℕ) → stack_window.first ≤ from_frame k.mote q → from_frame k.mote q < stack_window.behind
    → executed_at k a (StoreOff Y q d) ≡ WentOn (core_after k a k.mote.cpu.r (virtual_sp k)) (memory_after k (with_byte k.mote.sram (from_frame k.mote q) (slice_index k.mote.cpu.r d)))
unfolding ask_of finish_of
store_executed k a d q from to =
    let p = from_frame k.mote q in
    let x = slice_index k.mote.cpu.r d in
    exec_went guarded_calls (StoreOff Y q d) (core_of k a) (memory_of k) (next_size (image_held k) a) Done (memory_after k (with_byte k.mote.sram p x)) (stored_there (memory_of k) p x from to)
    ∙ ap (λ (c : Cpu). WentOn (with_counter c (wrapping_sum c.pc 1)) (memory_after k (with_byte k.mote.sram p x))) (stored_is (core_of k a) p x from)

-- another kernel is seen alike where SRAM agrees from 0x0120 on, and the stack pointer is this
pub seen_alike : (k l : Kernel) (sram : List ℕ) (sp t s c : ℕ) → data_word_at l.mote.sram vsp_cell ≡ sp → length l.mote.sram ≡ length sram
    → ((b : ℕ) → 0x0120 ≤ b → byte_at l.mote.sram b ≡ byte_at sram b)
    → l.mote.devices ≡ k.mote.devices → l.mote.swap ≡ k.mote.swap
    → state_at l t s c ≡ state_of (memory_after k sram) (record { r = l.mote.cpu.r; sreg = l.mote.cpu.sreg; sp = sp; pc = t }) s c
seen_alike k l sram sp t s c pointer size bytes devices swap =
    let paging : SamePaging sram l.mote.sram = record { size = size; cells = λ b from to. bytes b from; tables = λ b from to. bytes b (omega arith) } in
    flat_parts _ _ _ _ _ _ t s c _ _ _ _ _ _ refl refl pointer (ap (vmem l.mote.sram) swap ∙ vmem_same sram l.mote.sram k.mote.swap paging (λ b from to. bytes b (omega arith))) devices
    (pages_same sram l.mote.sram paging)
