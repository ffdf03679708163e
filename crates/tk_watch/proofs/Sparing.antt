-- What a step of the original program leaves of its memory.
use Rattle.std.proofs.Common.{◌≡◌, ℕ, ◌+◌, ◌/◌, ◌%◌, Bool, true, false, cond, List, refl, sym, ap, ◌∙◌, arith, inl, inr}
use Rattle.std.specs.Prelude.{◌||◌, ◌&&◌, not, slice_index, slice_set, Option, Some, None}
use Rattle.std.proofs.lemmas.List.{get_or-set_other}
use Rattle.std.proofs.lemmas.Bool.{cond_both}
use Rattle.avr_isa.specs.declared.form.Form.{Form}
use Rattle.avr_isa.specs.declared.form.Form.TheVariants.{Sleep, Spm}
use Rattle.avr_isa.specs.Addresses.{wrapping_sum, wrapping_difference}
use Rattle.avr_decode.specs.Program.{instruction_at}
use Rattle.avr_exec.specs.declared.answer.Answer.TheVariants.{Address, Byte, Done}
use Rattle.avr_exec.specs.declared.cpu.Cpu.{Cpu}
use Rattle.avr_exec.specs.declared.ask.Ask.{Ask}
use Rattle.avr_exec.specs.declared.ask.Ask.TheVariants.{Load, Store, Modify, PushByte, PopByte, PushReturn, PopReturn}
use Rattle.avr_exec.specs.declared.stop.BusStop.TheVariants.{Stack as StackStop, SwapFull as FullStop}
use Rattle.avr_exec.specs.Asks.{ask_of}
use Rattle.avr_exec.specs.Execution.{answer_of, exec_of}
use Rattle.avr_exec.specs.Likeness.{Leaves}
use Rattle.avr_exec.specs.StackRules.{push_on, pop_from, push_return_on, pop_return_from}
use Rattle.avr_exec.specs.Spaces.{Outcome, Went, Stopped}
use Rattle.avr_exec.proofs.OneAnswer.{answered_by-leaves, exec_leaves}
use Rattle.avr_flags.specs.Status.{has_bit, interrupts}
use Rattle.heap_frames.proofs.MemoryLaws.{stack_from, stack_to}
use Rattle.mote_devices.specs.declared.line.Line.{Line}
use Rattle.mote_devices.specs.State.{State}
use Rattle.mote_devices.specs.Accesses.{Asked, Gave, Refused, read, write, modify as modify_device}
use Rattle.mote_devices.specs.Waking.{wake}
use Rattle.flat_machine.specs.Addresses.{is_stack, is_heap}
use Rattle.flat_machine.specs.FlatSpace.{FlatSpace, flat_calls, flat_stack, from_device, has_page, has_room, store_to_heap, to_device, with_memory, with_page}
use Rattle.flat_machine.specs.FlatMachine.{Asleep, FlatState, Goes, Moment, On, Program, Stops, Tried, Wakes, executed, foreign_word, interrupted, is_checkpoint, is_taken, jumps_to_itself, next_by}
use Rattle.flat_machine.specs.FlatMachine.{next_of, next_size, read_or_executed, slept_by, space_of, stepped, tried, tried_form}
use Rattle.tk_watch.specs.Touching.{IsTouched}

-- the byte at an address is this one
abbrev HasByte : (a v : ℕ) → FlatSpace → Type 0
HasByte a v space = slice_index space.memory a ≡ v

-- one byte of memory becomes another
set_byte : (memory : List ℕ) (a b v w : ℕ) → ¬ (b ≡ a) → slice_index memory b ≡ w → slice_index (slice_set memory a v) b ≡ w
set_byte memory a b v w apart is = get_or-set_other memory a b v 0 (λ same. apart same) ∙ is

device_reads : (b w a : ℕ) (s : FlatSpace) (asked : Asked ℕ) → HasByte b w s → Leaves (HasByte b w) (from_device s a asked)
device_reads b w a s (Gave v next) is = is
device_reads b w a s Refused is = tt

device_writes : (b w a : ℕ) (s : FlatSpace) (asked : Asked (Option Line)) → HasByte b w s → Leaves (HasByte b w) (to_device s a asked)
device_writes b w a s (Gave line next) is = is
device_writes b w a s Refused is = tt

either : {A : Type 0} (b w : ℕ) (test : Bool) (o p : Outcome FlatSpace A) → Leaves (HasByte b w) o → Leaves (HasByte b w) p → Leaves (HasByte b w) (cond test o p)
either b w true o p left other = left
either b w false o p left other = other

-- the address below, where there is one in the stack
below_apart : (b sp : ℕ) → is_stack sp ≡ true → ¬ (b + 1 ≡ sp) → ¬ (b ≡ wrapping_difference sp 1)
below_apart b sp stack apart same = apart (omega (arith, same, stack_from sp stack, stack_to sp stack))

-- the one answer leaves each byte that isn't touched
answer_spares : (ask : Ask) (b w : ℕ) (s : FlatSpace) → ¬ IsTouched ask b → HasByte b w s → Leaves (HasByte b w) (answer_of flat_calls s ask)
unfolding answer_of push_on pop_from push_return_on pop_return_from
answer_spares (Load a) b w s apart is =
    answered_by-leaves (HasByte b w) Byte (flat_calls.load s a) (either b w (is_stack a || is_heap a) (Went (slice_index s.memory a) s) (from_device s a (read s.devices a)) is
    (device_reads b w a s (read s.devices a) is))
answer_spares (Store a v) b w s apart is =
    let stored = set_byte s.memory a b v w apart is in
    answered_by-leaves (HasByte b w) (λ _. Done) (flat_calls.store s a v)
    (either b w (is_stack a) (Went tt (with_memory s a v)) (cond (is_heap a) (store_to_heap s a v) (to_device s a (write s.devices a v))) stored
    (either b w (is_heap a) (store_to_heap s a v) (to_device s a (write s.devices a v))
    (either b w (has_page s a || has_room s) (Went tt (with_memory (with_page s a) a v)) (Stopped (FullStop a)) stored tt) (device_writes b w a s (write s.devices a v) is)))
answer_spares (Modify a clear set) b w s apart is =
    answered_by-leaves (HasByte b w) (λ _. Done) (to_device s a (modify_device s.devices a clear set)) (device_writes b w a s (modify_device s.devices a clear set) is)
answer_spares (PushByte sp v) b w s apart is =
    answered_by-leaves (HasByte b w) (λ _. Done) (push_on flat_stack s sp v) (either b w (is_stack sp) (Went tt (with_memory s sp v)) (Stopped (StackStop sp)) (set_byte s.memory sp b v w apart is) tt)
answer_spares (PopByte sp) b w s apart is =
    let a = wrapping_sum sp 1 in
    answered_by-leaves (HasByte b w) Byte (pop_from flat_stack s sp) (either b w (is_stack a) (Went (slice_index s.memory a) s) (Stopped (StackStop a)) is tt)
answer_spares (PushReturn sp ret) b w s apart is =
    let below = wrapping_difference sp 1 in
    let first = set_byte s.memory sp b (ret % 256) w (λ same. apart (inl same)) is in
    answered_by-leaves (HasByte b w) (λ _. Done) (push_return_on flat_stack s sp ret) (cond_both (is_stack sp) _ _ (Leaves {A = Unit {0}} (HasByte b w)) (λ stack.
    either b w (is_stack below) (Went tt (with_memory (with_memory s sp (ret % 256)) below (ret / 256))) (Stopped (StackStop below))
    (set_byte (slice_set s.memory sp (ret % 256)) below b (ret / 256) w (below_apart b sp stack (λ same. apart (inr same))) first) tt) (λ outside. tt))
answer_spares (PopReturn sp) b w s apart is =
    answered_by-leaves (HasByte b w) Address (pop_return_from flat_stack s sp)
    (either b w (is_stack (wrapping_sum sp 1)) _ (Stopped (StackStop (wrapping_sum sp 1))) (either b w (is_stack (wrapping_sum sp 2)) (Went _ s) (Stopped (StackStop (wrapping_sum sp 2))) is tt) tt)
answer_spares _ b w s apart is = is

-- A try that goes on or wakes. ------------------------------------------------------------------------------------

-- the fact holds of the memory behind a try that doesn't stop
abbrev TryLeaves : (b w : ℕ) → Tried → Type 0
TryLeaves b w (Stops end) = Unit {0}
TryLeaves b w (Goes line next) = slice_index next.memory b ≡ w
TryLeaves b w (Wakes next) = slice_index next.memory b ≡ w

step_leaves : (b w : ℕ) (s : FlatState) (outcome : Outcome FlatSpace Cpu) → Leaves (HasByte b w) outcome → TryLeaves b w (stepped s outcome)
step_leaves b w s (Stopped stop) left = tt
step_leaves b w s (Went cpu space) left = left

reads_or : (b w : ℕ) (program : Program) (s : FlatState) (form : Form) (foreign : Option ℕ) → TryLeaves b w (executed program s form) → TryLeaves b w (read_or_executed program s form foreign)
reads_or b w program s form (Some a) left = tt
reads_or b w program s form None left = left

sleeps : (on : Bool) (b w : ℕ) (s : FlatState) (woken : Option State) → slice_index s.memory b ≡ w → TryLeaves b w (cond on (slept_by s woken) (Stops (Asleep s.cpu.pc)))
sleeps true b w s None is = tt
sleeps true b w s (Some devices) is = is
sleeps false b w s woken is = tt

executed_leaves : (b w : ℕ) (program : Program) (s : FlatState) (form : Form) → ¬ IsTouched (ask_of form s.cpu) b → slice_index s.memory b ≡ w → TryLeaves b w (executed program s form)
executed_leaves b w program s form apart is =
    let space = space_of program s in
    let size = next_size program.image s.cpu.pc in
    cond_both (jumps_to_itself s.cpu.pc form && not (has_bit s.cpu.sreg interrupts)) _ _ (TryLeaves b w) (λ halts. tt) (λ goes.
    step_leaves b w s (exec_of flat_calls form s.cpu space size) (exec_leaves (HasByte b w) flat_calls form s.cpu space size (answer_spares (ask_of form s.cpu) b w space apart is)))

form_leaves : (b w : ℕ) (program : Program) (s : FlatState) (form : Form) → ¬ IsTouched (ask_of form s.cpu) b → slice_index s.memory b ≡ w → TryLeaves b w (tried_form program s (Some form))
form_leaves b w program s Spm apart is = tt
form_leaves b w program s Sleep apart is = sleeps (has_bit s.cpu.sreg interrupts) b w s (wake s.devices) is
form_leaves b w program s form apart is = reads_or b w program s form (foreign_word program s form) (executed_leaves b w program s form apart is)

try_leaves : (b w : ℕ) (program : Program) (s : FlatState) (found : Option Form) → ((form : Form) → found ≡ Some form → ¬ IsTouched (ask_of form s.cpu) b) → slice_index s.memory b ≡ w
    → TryLeaves b w (tried_form program s found)
try_leaves b w program s None apart is = tt
try_leaves b w program s (Some form) apart is = form_leaves b w program s form (apart form refl) is

goes_on : (quantum b w : ℕ) (s : FlatState) (t : Tried) (line : Option Line) (next : Moment) → TryLeaves b w t → next_by quantum s t ≡ On line next → slice_index next.now.memory b ≡ w
goes_on quantum b w s (Stops end) line next left goes = absurd (cc)
goes_on quantum b w s (Goes own later) line next left goes =
    let same : record { now = later; due = is_checkpoint quantum s later } ≡ next = cc in
    ap (λ (m : Moment). slice_index m.now.memory b) (sym same) ∙ left
goes_on quantum b w s (Wakes later) line next left goes = let same : record { now = later; due = true } ≡ next = cc in ap (λ (m : Moment). slice_index m.now.memory b) (sym same) ∙ left

-- A step leaves each byte that its instruction doesn't touch, where no interrupt is taken.
pub step_spares : (program : Program) (m : Moment) (b : ℕ) → is_taken m ≡ false → ((form : Form) → instruction_at program.image m.now.cpu.pc ≡ Some form → ¬ IsTouched (ask_of form m.now.cpu) b)
    → (line : Option Line) (next : Moment) → next_of program m ≡ On line next → slice_index next.now.memory b ≡ slice_index m.now.memory b
unfolding next_of tried
step_spares program m b untaken apart line next goes =
    let w = slice_index m.now.memory b in
    let t = tried_form program m.now (instruction_at program.image m.now.cpu.pc) in
    let own : next_by program.quantum m.now t ≡ On line next = sym (ap (λ b. cond b (interrupted program m.now) (next_by program.quantum m.now t)) untaken) ∙ goes in
    goes_on program.quantum b w m.now t line next (try_leaves b w program m.now (instruction_at program.image m.now.cpu.pc) apart refl) own
