-- What an instruction does whose bytes are at hand.
use Rattle.std.proofs.Common.{◌≡◌, ℕ, ◌+◌, ◌*◌, ◌/◌, ◌%◌, Bool, true, false, List, ap, ◌∙◌, sym, refl, subst}
use Rattle.std.specs.Prelude.{Ok, Some, None, ℤ, ◌&&◌, not, if◌then◌else◌}
use Rattle.avr_isa.specs.Image.{byte, word}
use Rattle.avr_isa.specs.Encoding.{first_word, second_word}
use Rattle.avr_isa.specs.Instruction.{is_valid, fields_in_range}
use Rattle.avr_isa.specs.UndefinedPairs.{is_undefined}
use Rattle.avr_decode.specs.Program.{instruction_at}
use Rattle.decode_laws.proofs.Decoded.{the_form_only}
use Rattle.avr_isa.specs.declared.form.Form.{Form}
use Rattle.avr_isa.specs.declared.form.Form.TheVariants as forms
use Rattle.avr_isa.specs.declared.operation.Base.{Base}
use Rattle.avr_isa.specs.Addresses.{wrapping_sum, wrapping_difference, relative}
use Rattle.avr_exec.specs.declared.cpu.Cpu.{Cpu}
use Rattle.avr_exec.specs.declared.answer.Answer.{Answer}
use Rattle.avr_exec.specs.declared.answer.Answer.TheVariants.{Done, Byte, Address}
use Rattle.avr_exec.specs.declared.ask.Ask.TheVariants.{Nothing, Load, Store}
use Rattle.avr_isa.specs.declared.operation.Ptr.{Ptr}
use Rattle.avr_isa.specs.declared.operation.Ptr.TheVariants.{ZInc}
use Rattle.avr_exec.specs.declared.stop.BusStop.TheVariants.{Stack as StackStop}
use Rattle.avr_exec.specs.Asks.{ask_of, finish_of, number_of, load_of, store_of, displaced, target, pointer_value}
use Rattle.avr_exec.specs.Effects.{loaded, stored, with_pointer, with_z_raised_if}
use Rattle.avr_exec.specs.Execution.{exec_of, answer_of, answered_by}
use Rattle.avr_exec.specs.Registers.{register, with_register, pair, with_stack, with_counter, own_byte, with_own_byte}
use Rattle.avr_exec.specs.StackRules.{push_on, pop_from}
use Rattle.avr_exec.specs.Spaces.{Went, Stopped}
use Rattle.sram_layout.specs.Bytes.{byte_at, with_byte, with_word}
use Rattle.sram_layout.specs.Cells.{vsp_cell}
use Rattle.mote_devices.specs.State.{stored as stored_byte, rampz_address}
use Rattle.flat_machine.specs.Addresses.{is_stack}
use Rattle.flat_machine.specs.FlatMachine.{next_size, if_foreign, is_own}
use Rattle.flat_machine.proofs.ReadLaws.{reads_program, asks_none}
use Rattle.heap_frames.specs.Paged.{IsPaged}
use Rattle.mem_guard.specs.AtHand.{stored_at_hand, LoadsAtHand, StoresAtHand}
use Rattle.mem_guard.specs.Guarded.{Guarded, guarded_calls, push, pop, pop_return, push_return}
use Rattle.kernel_entry.proofs.LeftLaws.{core_here}
use Rattle.kernel_entry.specs.declared.kernel.Kernel.{Kernel}
use Rattle.kernel_entry.specs.Parts.{descriptor, instruction, virtual_sp, memory_of, core_of, rested, put_back, with_sram, image_held}
use Rattle.kernel_entry.specs.Interrupts.{with_address}
use Rattle.kernel_entry.specs.Services.{executed, execution, execution_by, foreign_in}
use Rattle.kernel_entry.specs.AtOnce.{WentOn, IsExecuted, IsLoaded}

-- a return address was popped, or pushed, and the program's stack pointer is stored in its cell
pub returned_is : (k next : Kernel) (pc : ℕ) → pop_return (memory_of k) (virtual_sp k) ≡ Went pc (memory_of k)
    → next ≡ rested (with_sram k (with_word k.mote.sram vsp_cell (wrapping_sum (virtual_sp k) 2)))
    → WentOn k forms.Ret pc next
unfolding executed exec_of answer_of ask_of finish_of
returned_is k next pc popped after =
    ap (λ (n : Kernel). (Ok (record { pc = pc; line = None }), n)) after
    ∙ ap (λ o. execution_by k (answered_by (finish_of forms.Ret (core_here k) (next_size (image_held k) (descriptor k))) (answered_by Address o))) (sym popped)

-- a return address was pushed: SRAM then has these bytes
abbrev pushed_sram : Kernel → (behind : ℕ) → List ℕ
pushed_sram k behind = with_address k.mote.sram (virtual_sp k) behind

abbrev Pushes : Kernel → (behind : ℕ) → Type 0
Pushes k behind = push_return (memory_of k) (virtual_sp k) behind ≡ Went tt (memory_of (with_sram k (pushed_sram k behind)))

abbrev with_push : Kernel → (behind : ℕ) → Kernel
with_push k behind = rested (with_sram k (with_word (pushed_sram k behind) vsp_cell (wrapping_difference (virtual_sp k) 2)))

-- the call at the descriptor's address
pub called_here : (k : Kernel) (a : ℕ) → Pushes k (wrapping_sum (descriptor k) 2)
    → WentOn k (forms.Call a) a (with_push k (wrapping_sum (descriptor k) 2))
unfolding executed exec_of answer_of ask_of finish_of
called_here k a pushed =
    ap (λ o. execution_by k (answered_by (finish_of (forms.Call a) (core_here k) (next_size (image_held k) (descriptor k))) (answered_by (λ _. Done) o))) (sym pushed)

pub called_near_here : (k : Kernel) (o : ℤ) → Pushes k (wrapping_sum (descriptor k) 1)
    → WentOn k (forms.Rcall o) (relative (descriptor k) o) (with_push k (wrapping_sum (descriptor k) 1))
unfolding executed exec_of answer_of ask_of finish_of
called_near_here k o pushed =
    ap (λ x. execution_by k (answered_by (finish_of (forms.Rcall o) (core_here k) (next_size (image_held k) (descriptor k))) (answered_by (λ _. Done) x))) (sym pushed)

-- what is told and left, by an equation
abbrev on_by : (k : Kernel) (form : Form) (pc : ℕ) (next left : Kernel) → next ≡ left → WentOn k form pc left → WentOn k form pc next
on_by k form pc next left after went = ap (λ (n : Kernel). (Ok (record { pc = pc; line = None }), n)) after ∙ went

pub called_is : (k next : Kernel) (at to : ℕ) → at ≡ descriptor k → Pushes k (wrapping_sum at 2) → next ≡ with_push k (wrapping_sum at 2)
    → WentOn k (forms.Call to) to next
called_is k next at to here pushed after =
    on_by k (forms.Call to) to next _ (after ∙ ap (λ a. with_push k (wrapping_sum a 2)) here) (called_here k to (subst (λ a. Pushes k (wrapping_sum a 2)) here pushed))

pub called_near_is : (k next : Kernel) (at : ℕ) (o : ℤ) → at ≡ descriptor k → Pushes k (wrapping_sum at 1) → next ≡ with_push k (wrapping_sum at 1)
    → WentOn k (forms.Rcall o) (relative (descriptor k) o) next
called_near_is k next at o here pushed after =
    on_by k (forms.Rcall o) _ next _ (after ∙ ap (λ a. with_push k (wrapping_sum a 1)) here) (called_near_here k o (subst (λ a. Pushes k (wrapping_sum a 1)) here pushed))

-- a byte at hand is loaded from address a: what becomes of the core, by the byte, is f
after_load : (k : Kernel) (form : Form) (f : ℕ → Cpu) (a words byte : ℕ)
    → execution k form
    ≡ execution_by k (answered_by (λ answer. with_counter (f (loaded (core_here k) a (number_of answer))) (wrapping_sum (f (loaded (core_here k) a (number_of answer))).pc words))
    (answer_of guarded_calls (memory_of k) (load_of a)))
    → IsPaged k.mote.sram k.mote.swap → LoadsAtHand k.mote.sram a byte → WentOn k form (wrapping_sum (f byte).pc words) (put_back k (f byte) (memory_of k))
unfolding answer_of load_of loaded
after_load k form f a words byte is paged hit =
    let core = core_of k (descriptor k) in
    sym (is
    ∙ ap (λ b. execution_by k (answered_by (λ answer. with_counter (f (if b then own_byte core a else number_of answer)) (wrapping_sum (f (if b then own_byte core a else number_of answer)).pc words))
    (answer_of guarded_calls (memory_of k) (if b then Nothing else Load a)))) hit.outside
    ∙ ap (λ o. execution_by k (answered_by (λ answer. with_counter (f (number_of answer)) (wrapping_sum (f (number_of answer)).pc words)) (answered_by Byte o))) (hit.loads (memory_of k) refl paged))

-- a byte is stored at address a, where the one there is at hand; the core becomes f of it
after_store : (k : Kernel) (form : Form) (f : Cpu → Cpu) (a v words : ℕ)
    → execution k form
    ≡ execution_by k (answered_by (λ (_ : Answer). with_counter (f (stored (core_here k) a v)) (wrapping_sum (f (stored (core_here k) a v)).pc words))
    (answer_of guarded_calls (memory_of k) (store_of a v)))
    → IsPaged k.mote.sram k.mote.swap → StoresAtHand k.mote.sram a v
    → WentOn k form (wrapping_sum (f (core_here k)).pc words) (put_back k (f (core_here k)) (memory_of (with_sram k (stored_at_hand k.mote.sram a v))))
unfolding answer_of store_of stored
after_store k form f a v words is paged hit =
    let core = core_of k (descriptor k) in
    sym (is
    ∙ ap (λ b. execution_by k (answered_by (λ (_ : Answer). with_counter (f (if b then with_own_byte core a v else core)) (wrapping_sum (f (if b then with_own_byte core a v else core)).pc words))
    (answer_of guarded_calls (memory_of k) (if b then Nothing else Store a v)))) hit.outside
    ∙ ap (λ o. execution_by k (answered_by (λ (_ : Answer). with_counter (f core) (wrapping_sum (f core).pc words)) (answered_by (λ _. Done) o))) (hit.stores (memory_of k) refl paged))

pub lds_is : (k next : Kernel) (d a : ℕ) → IsPaged k.mote.sram k.mote.swap → IsLoaded k d a next → WentOn k (forms.Lds d a) (wrapping_sum (descriptor k) 2) next
unfolding executed exec_of ask_of finish_of
lds_is k next d a paged is =
    on_by k (forms.Lds d a) _ next _ is.after (after_load k (forms.Lds d a) (λ byte. with_register (core_here k) d byte) a 2 is.byte refl paged is.hit)

pub ldd_is : (k next : Kernel) (d : ℕ) (base : Base) (q : ℕ) → IsPaged k.mote.sram k.mote.swap → IsLoaded k d (displaced (core_here k) base q) next
    → WentOn k (forms.LoadOff d base q) (wrapping_sum (descriptor k) 1) next
unfolding executed exec_of ask_of finish_of
ldd_is k next d base q paged is =
    on_by k (forms.LoadOff d base q) _ next _ is.after (after_load k (forms.LoadOff d base q) (λ byte. with_register (core_here k) d byte) (displaced (core_here k) base q) 1 is.byte refl paged is.hit)

-- the kernel after a store at address a
abbrev pub with_store : Kernel → (a v : ℕ) → Kernel
with_store k a v = put_back k (core_of k 0) (memory_of (with_sram k (stored_at_hand k.mote.sram a v)))

pub sts_is : (k next : Kernel) (a r : ℕ) → IsPaged k.mote.sram k.mote.swap → StoresAtHand k.mote.sram a (register k.mote.cpu r) → next ≡ with_store k a (register k.mote.cpu r)
    → WentOn k (forms.Sts a r) (wrapping_sum (descriptor k) 2) next
unfolding executed exec_of ask_of finish_of
sts_is k next a r paged hit after =
    on_by k (forms.Sts a r) _ next _ after (after_store k (forms.Sts a r) (λ core. core) a (register k.mote.cpu r) 2 refl paged hit)

pub std_is : (k next : Kernel) (base : Base) (q r : ℕ) → IsPaged k.mote.sram k.mote.swap → StoresAtHand k.mote.sram (displaced (core_here k) base q) (register k.mote.cpu r)
    → next ≡ with_store k (displaced (core_here k) base q) (register k.mote.cpu r) → WentOn k (forms.StoreOff base q r) (wrapping_sum (descriptor k) 1) next
unfolding executed exec_of ask_of finish_of
std_is k next base q r paged hit after =
    on_by k (forms.StoreOff base q r) _ next _ after (after_store k (forms.StoreOff base q r) (λ core. core) (displaced (core_here k) base q) (register k.mote.cpu r) 1 refl paged hit)

-- a pointer that changes, in the mote's registers
abbrev pub with_cpu : Kernel → Cpu → Kernel
with_cpu k cpu = record k { mote = record k.mote { cpu = cpu } }

pointer_put : (k : Kernel) (core : Cpu) (memory : Guarded) (p : Ptr) (v : ℕ)
    → with_cpu (put_back k core memory) (with_pointer (put_back k core memory).mote.cpu p v) ≡ put_back k (with_pointer core p v) memory
unfolding with_pointer
pointer_put k core memory ZInc v = refl
pointer_put k core memory _ v = refl

-- the data address of a pointer in the mote's registers, and its value
abbrev pub pointed_at : Kernel → Ptr → ℕ
pointed_at k p = target (core_here k) p

abbrev pub pointing : Kernel → Ptr → ℕ
pointing k p = pointer_value (core_here k) p

abbrev with_load_by : Kernel → (d : ℕ) → Ptr → (byte : ℕ) → Cpu
with_load_by k d p byte = with_pointer (with_register (core_here k) d byte) p (pointing k p)

abbrev LoadsBy : Kernel → (d : ℕ) → Ptr → Type 0
LoadsBy k d p = (byte : ℕ) → LoadsAtHand k.mote.sram (pointed_at k p) byte
    → WentOn k (forms.LoadAt d p) (wrapping_sum (descriptor k) 1) (put_back k (with_load_by k d p byte) (memory_of k))

loads_by : (k : Kernel) (d : ℕ) (p : Ptr) → IsPaged k.mote.sram k.mote.swap → LoadsBy k d p
unfolding executed exec_of ask_of finish_of with_pointer
loads_by k d ZInc paged = λ byte hit. after_load k (forms.LoadAt d ZInc) (with_load_by k d ZInc) (pointed_at k ZInc) 1 byte refl paged hit
loads_by k d p paged = λ byte hit. after_load k (forms.LoadAt d p) (with_load_by k d p) (pointed_at k p) 1 byte refl paged hit

pub ld_is : (k left : Kernel) (d : ℕ) (p : Ptr) (cpu : Cpu) → IsPaged k.mote.sram k.mote.swap → IsLoaded k d (pointed_at k p) left → cpu ≡ with_pointer left.mote.cpu p (pointing k p)
    → WentOn k (forms.LoadAt d p) (wrapping_sum (descriptor k) 1) (with_cpu left cpu)
ld_is k left d p cpu paged is moved =
    on_by k (forms.LoadAt d p) _ (with_cpu left cpu) _
    (ap (λ c. with_cpu left c) moved ∙ ap (λ (l : Kernel). with_cpu l (with_pointer l.mote.cpu p (pointing k p))) is.after
    ∙ pointer_put k (with_register (core_here k) d is.byte) (memory_of k) p (pointing k p))
    (loads_by k d p paged is.byte is.hit)

abbrev with_store_by : Kernel → Ptr → Cpu → Cpu
with_store_by k p core = with_pointer core p (pointing k p)

abbrev StoresBy : Kernel → Ptr → (r : ℕ) → Type 0
StoresBy k p r = StoresAtHand k.mote.sram (pointed_at k p) (register k.mote.cpu r)
    → WentOn k (forms.StoreAt p r) (wrapping_sum (descriptor k) 1)
    (put_back k (with_store_by k p (core_here k)) (memory_of (with_sram k (stored_at_hand k.mote.sram (pointed_at k p) (register k.mote.cpu r)))))

stores_by : (k : Kernel) (p : Ptr) (r : ℕ) → IsPaged k.mote.sram k.mote.swap → StoresBy k p r
unfolding executed exec_of ask_of finish_of with_pointer
stores_by k ZInc r paged = λ hit. after_store k (forms.StoreAt ZInc r) (with_store_by k ZInc) (pointed_at k ZInc) (register k.mote.cpu r) 1 refl paged hit
stores_by k p r paged = λ hit. after_store k (forms.StoreAt p r) (with_store_by k p) (pointed_at k p) (register k.mote.cpu r) 1 refl paged hit

pub st_is : (k left : Kernel) (p : Ptr) (r : ℕ) (cpu : Cpu) → IsPaged k.mote.sram k.mote.swap → StoresAtHand k.mote.sram (pointed_at k p) (register k.mote.cpu r)
    → left ≡ with_store k (pointed_at k p) (register k.mote.cpu r) → cpu ≡ with_pointer left.mote.cpu p (pointing k p)
    → WentOn k (forms.StoreAt p r) (wrapping_sum (descriptor k) 1) (with_cpu left cpu)
st_is k left p r cpu paged hit after moved =
    on_by k (forms.StoreAt p r) _ (with_cpu left cpu) _
    (ap (λ c. with_cpu left c) moved ∙ ap (λ (l : Kernel). with_cpu l (with_pointer l.mote.cpu p (pointing k p))) after
    ∙ pointer_put k (core_here k) (memory_of (with_sram k (stored_at_hand k.mote.sram (pointed_at k p) (register k.mote.cpu r)))) p (pointing k p))
    (stores_by k p r paged hit)

-- one byte of the stack
pub pop_is : (k next : Kernel) (d : ℕ) → is_stack (wrapping_sum (virtual_sp k) 1) ≡ true
    → next ≡ put_back k (with_stack (with_register (core_of k 0) d (byte_at k.mote.sram (wrapping_sum (virtual_sp k) 1))) (wrapping_sum (virtual_sp k) 1)) (memory_of k)
    → WentOn k (forms.Pop d) (wrapping_sum (descriptor k) 1) next
unfolding executed exec_of answer_of ask_of finish_of pop pop_from
pop_is k next d held after =
    let above = wrapping_sum (virtual_sp k) 1 in
    on_by k (forms.Pop d) _ next _ after
    (ap (λ b. execution_by k (answered_by (finish_of (forms.Pop d) (core_here k) (next_size (image_held k) (descriptor k)))
    (answered_by Byte (if b then Went (byte_at k.mote.sram above) (memory_of k) else Stopped (StackStop above))))) (sym held))

pub push_is : (k next : Kernel) (r : ℕ) → is_stack (virtual_sp k) ≡ true
    → next ≡ put_back k (with_stack (core_of k 0) (wrapping_difference (virtual_sp k) 1)) (memory_of (with_sram k (with_byte k.mote.sram (virtual_sp k) (register k.mote.cpu r))))
    → WentOn k (forms.Push r) (wrapping_sum (descriptor k) 1) next
unfolding executed exec_of answer_of ask_of finish_of push push_on
push_is k next r held after =
    let sp = virtual_sp k in
    on_by k (forms.Push r) _ next _ after
    (ap (λ b. execution_by k (answered_by (finish_of (forms.Push r) (core_here k) (next_size (image_held k) (descriptor k)))
    (answered_by (λ _. Done) (if b then Went tt (memory_of (with_sram k (with_byte k.mote.sram sp (register k.mote.cpu r)))) else Stopped (StackStop sp))))) (sym held))

-- SPL and SPH
pub in_low : (k next : Kernel) (d a : ℕ) → a ≡ 0x3D → next ≡ put_back k (with_register (core_of k 0) d (virtual_sp k % 256)) (memory_of k)
    → WentOn k (forms.InIo d a) (wrapping_sum (descriptor k) 1) next
unfolding executed exec_of answer_of ask_of finish_of load_of loaded own_byte
in_low k next d a is after = subst (λ f. WentOn k (forms.InIo d f) (wrapping_sum (descriptor k) 1) next) (sym is) (on_by k (forms.InIo d 0x3D) _ next _ after refl)

pub in_high : (k next : Kernel) (d a : ℕ) → a ≡ 0x3E → next ≡ put_back k (with_register (core_of k 0) d (virtual_sp k / 256)) (memory_of k)
    → WentOn k (forms.InIo d a) (wrapping_sum (descriptor k) 1) next
unfolding executed exec_of answer_of ask_of finish_of load_of loaded own_byte
in_high k next d a is after = subst (λ f. WentOn k (forms.InIo d f) (wrapping_sum (descriptor k) 1) next) (sym is) (on_by k (forms.InIo d 0x3E) _ next _ after refl)

pub out_low : (k next : Kernel) (a r : ℕ) → a ≡ 0x3D → next ≡ put_back k (with_stack (core_of k 0) (virtual_sp k / 256 * 256 + register k.mote.cpu r)) (memory_of k)
    → WentOn k (forms.OutIo a r) (wrapping_sum (descriptor k) 1) next
unfolding executed exec_of answer_of ask_of finish_of store_of stored with_own_byte
out_low k next a r is after = subst (λ f. WentOn k (forms.OutIo f r) (wrapping_sum (descriptor k) 1) next) (sym is) (on_by k (forms.OutIo 0x3D r) _ next _ after refl)

pub out_high : (k next : Kernel) (a r : ℕ) → a ≡ 0x3E → next ≡ put_back k (with_stack (core_of k 0) (register k.mote.cpu r * 256 + virtual_sp k % 256)) (memory_of k)
    → WentOn k (forms.OutIo a r) (wrapping_sum (descriptor k) 1) next
unfolding executed exec_of answer_of ask_of finish_of store_of stored with_own_byte
out_high k next a r is after = subst (λ f. WentOn k (forms.OutIo f r) (wrapping_sum (descriptor k) 1) next) (sym is) (on_by k (forms.OutIo 0x3E r) _ next _ after refl)

-- LPM: the byte of the program at Z
abbrev pub byte_at_z : Kernel → ℕ
byte_at_z k = byte (image_held k) (pair k.mote.cpu 30)

z_put : (k left : Kernel) (d : ℕ) (inc : Bool) (cpu : Cpu) → left ≡ put_back k (with_register (core_here k) d (byte_at_z k)) (memory_of k)
    → cpu ≡ with_z_raised_if left.mote.cpu inc (pair k.mote.cpu 30)
    → WentOn k (forms.Lpm d inc) (wrapping_sum (descriptor k) 1) (with_cpu left cpu)
unfolding executed exec_of answer_of ask_of finish_of
z_put k left d true cpu after raised =
    on_by k (forms.Lpm d true) _ (with_cpu left cpu) _ (ap (λ c. with_cpu left c) raised ∙ ap (λ (l : Kernel). with_cpu l (with_z_raised_if l.mote.cpu true (pair k.mote.cpu 30))) after) refl
z_put k left d inc cpu after raised =
    on_by k (forms.Lpm d inc) _ (with_cpu left cpu) _ (ap (λ c. with_cpu left c) raised ∙ ap (λ (l : Kernel). with_cpu l (with_z_raised_if l.mote.cpu inc (pair k.mote.cpu 30))) after) refl

pub lpm_is : (k left : Kernel) (d z value : ℕ) (inc : Bool) (cpu : Cpu) → z ≡ pair k.mote.cpu 30 → value ≡ byte (image_held k) z → left ≡ put_back k (with_register (core_of k 0) d value) (memory_of k)
    → cpu ≡ with_z_raised_if left.mote.cpu inc z → WentOn k (forms.Lpm d inc) (wrapping_sum (descriptor k) 1) (with_cpu left cpu)
lpm_is k left d z value inc cpu there read after raised =
    z_put k left d inc cpu (after ∙ ap (λ v. put_back k (with_register (core_here k) d v) (memory_of k)) (read ∙ ap (byte (image_held k)) there))
    (raised ∙ ap (with_z_raised_if left.mote.cpu inc) there)

-- the instruction at an address that is the descriptor's
pub instruction_is : (k : Kernel) (at : ℕ) (kept told form : Form) → at ≡ descriptor k → instruction_at (image_held k) at ≡ Some kept → told ≡ kept → told ≡ form → instruction k ≡ Some form
instruction_is k at kept told form there is held found = sym (ap (instruction_at (image_held k)) there) ∙ is ∙ ap Some (sym held ∙ found)

-- an instruction that reads no word of the program may be executed, and LPM where nothing is shut
pub done_by : (k next : Kernel) (form : Form) (pc : ℕ) → instruction k ≡ Some form → reads_program form ≡ false → WentOn k form pc next → IsExecuted k next
done_by k next form pc is apart went = record {
  form = form;
  is = is;
  reads = ap (foreign_in k) is ∙ ap (if_foreign k.part) (asks_none (stored_byte k.mote.devices rampz_address) form (core_here k) apart);
  pc = pc;
  went = went;
}

pub read_by_lpm : (k next : Kernel) (d : ℕ) (inc : Bool) → instruction k ≡ Some (forms.Lpm d inc) → k.part.shut ≡ false → WentOn k (forms.Lpm d inc) (wrapping_sum (descriptor k) 1) next
    → IsExecuted k next
unfolding ask_of
read_by_lpm k next d inc is unshut went =
    let word = pair (core_here k) 30 / 2 in
    record {
      form = forms.Lpm d inc;
      is = is;
      reads = ap (foreign_in k) is ∙ ap (λ b. if b && not (is_own k.part word) then Some word else None) unshut;
      pc = wrapping_sum (descriptor k) 1;
      went = went;
    }

-- the word of RET, whatever is behind it
pub ret_read : (image : List ℕ) (a : ℕ) → word image a ≡ 0x9508 → instruction_at image a ≡ Some forms.Ret
unfolding is_valid fields_in_range is_undefined first_word second_word
ret_read image a is = the_form_only forms.Ret (word image a) (word image ((a + 1) % 65536)) refl (record { opcode = is; address = tt })
