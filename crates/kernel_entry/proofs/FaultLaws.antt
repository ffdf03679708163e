-- FAULT against the original program: what may not be executed stops it. Nothing is asked of the heap.
use Rattle.std.proofs.Common.{◌≡◌, ℕ, ◌+◌, ◌<◌, Bool, true, false, cond, refl, sym, ap, ◌∙◌, arith, IsTrue}
use Rattle.std.specs.Prelude.{◌≢◌, ◌^◌, ◌==◌, Option, Some, None, if◌then◌else◌, not, ◌&&◌, nat_lt}
use Rattle.std.proofs.lemmas.Bool.Decides.{nat_tests}
use Rattle.avr_isa.specs.Instruction.{is_valid, fields_in_range}
use Rattle.avr_isa.specs.UndefinedPairs.{is_undefined}
use Rattle.avr_isa.specs.IoTable.{can_read, can_write, io_address}
use Rattle.avr_isa.specs.declared.form.Form.{Form}
use Rattle.avr_isa.specs.declared.form.Form.TheVariants as forms
use Rattle.decode_laws.proofs.Decoded.{valid_at}
use Rattle.avr_flags.specs.Status.{has_bit, interrupts}
use Rattle.avr_exec.specs.declared.ask.Ask.TheVariants.{Nothing, Load, Store, Modify}
use Rattle.avr_exec.specs.declared.answer.Answer.TheVariants.{Done, Byte}
use Rattle.avr_exec.specs.declared.stop.BusStop.TheVariants.{Io as IoStop}
use Rattle.avr_isa.specs.Addresses.{relative}
use Rattle.avr_exec.specs.Registers.{register, is_own}
use Rattle.avr_exec.specs.Asks.{ask_of, load_of, store_of}
use Rattle.avr_exec.specs.Execution.{answered_by, answer_of, is_executed}
use Rattle.avr_exec.specs.Spaces.{Stopped}
use Rattle.avr_exec.proofs.OneAnswer.{exec_stopped}
use Rattle.flash_words.specs.Memory.{AreWords}
use Rattle.flash_model.proofs.ImageLaws.{front_fits}
use Rattle.mote_devices.specs.State.{State}
use Rattle.mote_devices.specs.Accesses.{Refused, read, modify as modify_device, written_back}
use Rattle.mote_devices.proofs.AccessLaws.{read_refused, write_refused}
use Rattle.nat_template.specs.declared.shapes.TemplateShape.{TemplateShape}
use Rattle.nat_template.specs.declared.shapes.TemplateShape.TheVariants.{Native, Mem, Jump, Skip, SelfJump, Fault}
use Rattle.nat_template.specs.Shapes.{shape_of, shape_of_form, is_stack_pointer, can_modify}
use Rattle.flat_machine.specs.declared.address.AddrClass.TheVariants.{Io}
use Rattle.flat_machine.specs.Classes.{class_of}
use Rattle.flat_machine.proofs.ClassLaws.{load_in, store_in, load_by_class, store_by_class}
use Rattle.flat_machine.specs.FlatSpace.{FlatSpace, flat_calls, from_device, to_device}
use Rattle.flat_machine.specs.FlatMachine.{slept as slept_at, Stops, Io as IoEnd, tried, stepped, next_size, jumps_to_itself}
use Rattle.flat_machine.proofs.MachineLaws.{tried_illegal, tried_spm, tried_sleep, tried_step}
use Rattle.kernel_entry.proofs.LeftLaws.{core_here}
use Rattle.kernel_entry.specs.declared.kernel.Kernel.{Kernel}
use Rattle.flat_machine.proofs.ReadLaws.{reads_program}
use Rattle.mem_guard.proofs.GuardedStep.{reads_own}
use Rattle.kernel_entry.specs.Parts.{descriptor, instruction, memory_of, image_held}
use Rattle.kernel_entry.specs.Services.{is_sleep, fault_of}
use Rattle.kernel_entry.specs.Seen.{space_of, program, state_at, end_of}
use Rattle.kernel_entry.specs.Conditions.{shape_behind}

-- a register that may not be accessed so stops the program
pub io_class : (a : ℕ) → a < 256 → is_own a ≡ false → class_of a ≡ Io
unfolding class_of
io_class a low own = grind (arith, nat_tests)

refused_load : (s : FlatSpace) (a : ℕ) → a < 256 → is_own a ≡ false → can_read a ≡ false → answer_of flat_calls s (load_of a) ≡ Stopped (IoStop a)
unfolding answer_of load_of
refused_load s a low own can =
    ap (λ b. answer_of flat_calls s (cond b Nothing (Load a))) own
    ∙ ap (answered_by Byte) (load_by_class s a ∙ ap (λ c. load_in c s a) (io_class a low own))
    ∙ ap (λ o. answered_by Byte (from_device s a o)) (read_refused s.devices a can)

refused_store : (s : FlatSpace) (a v : ℕ) → a < 256 → is_own a ≡ false → can_write a ≡ false → answer_of flat_calls s (store_of a v) ≡ Stopped (IoStop a)
unfolding answer_of store_of
refused_store s a v low own can =
    ap (λ b. answer_of flat_calls s (cond b Nothing (Store a v))) own
    ∙ ap (answered_by {A = Unit {0}} (λ _. Done)) (store_by_class s a v ∙ ap (λ c. store_in c s a v) (io_class a low own))
    ∙ ap (λ o. answered_by {A = Unit {0}} (λ _. Done) (to_device s a o)) (write_refused s.devices a v can)

pub reads_not : (r w : Bool) → w ≡ true → r && w ≡ false → r ≡ false
reads_not true w on off = absurd (let e = sym on ∙ off in cc)
reads_not false w on off = refl

modify_refused : (s : State) (a clear set : ℕ) (b : Bool) → can_write a ≡ b → can_modify a ≡ false → modify_device s a clear set ≡ Refused
unfolding modify_device
modify_refused s a clear set true w can =
    ap (λ b. if b then written_back (read s a) a clear set else Refused) w ∙ ap (λ o. written_back o a clear set) (read_refused s a (reads_not (can_read a) (can_write a) w can))
modify_refused s a clear set false w can = ap (λ b. if b then written_back (read s a) a clear set else Refused) w

refused_modify : (s : FlatSpace) (a clear set : ℕ) → can_modify a ≡ false → answer_of flat_calls s (Modify a clear set) ≡ Stopped (IoStop a)
unfolding answer_of
refused_modify s a clear set can = ap (λ o. answered_by {A = Unit {0}} (λ _. Done) (to_device s a o)) (modify_refused s.devices a clear set (can_write a) refl can)

-- the fields of a valid instruction; of SPL, SPH and SREG, which the core answers itself, none faults
pub six_right : (d q : ℕ) → IsTrue ((nat_lt d 32 && nat_lt q 64) && true) → q < 64
six_right d q valid = grind (arith, nat_tests)

pub low_left : (q r : ℕ) → IsTrue ((nat_lt q 32 && nat_lt r 8) && true) → q < 32
low_left q r valid = grind (arith, nat_tests)

low_own : (q : ℕ) → q < 32 → is_own (q + 0x20) ≡ false
low_own q low = grind (arith, nat_tests)

pub only_sreg : (q : ℕ) → q < 64 → is_stack_pointer q ≡ false → is_own (q + 0x20) ≡ true → q ≡ 0x3F
only_sreg q low apart own = grind (arith, nat_tests)

pub own_read : (q : ℕ) (b : Bool) → is_own (q + 0x20) ≡ b → q < 64 → is_stack_pointer q ≡ false → can_read (q + 0x20) ≡ false → b ≡ false
unfolding can_read
own_read q true own low apart can = absurd (let e : true ≡ false = sym (ap (λ q. can_read (q + 0x20)) (only_sreg q low apart own)) ∙ can in cc)
own_read q false own low apart can = refl

pub own_write : (q : ℕ) (b : Bool) → is_own (q + 0x20) ≡ b → q < 64 → is_stack_pointer q ≡ false → can_write (q + 0x20) ≡ false → b ≡ false
unfolding can_write
own_write q true own low apart can = absurd (let e : true ≡ false = sym (ap (λ q. can_write (q + 0x20)) (only_sreg q low apart own)) ∙ can in cc)
own_write q false own low apart can = refl

-- the tests by which the shape was chosen
fault_io : (b c : Bool) → cond b Mem (cond c Native Fault) ≡ Fault → (b ≡ false) × (c ≡ false)
fault_io true c is = absurd (cc)
fault_io false true is = absurd (cc)
fault_io false false is = (refl, refl)

fault_one : (c : Bool) (own : TemplateShape) → own ≢ Fault → cond c own Fault ≡ Fault → c ≡ false
fault_one true own apart is = absurd (apart is)
fault_one false own apart is = refl

fault_self : (c : Bool) → cond c SelfJump Jump ≡ Fault → ⊥
fault_self true is = cc
fault_self false is = cc

abbrev TriedSo : Kernel → Option Form → Type 0
TriedSo k form = is_sleep form ≡ false → (s c : ℕ) → tried (program k) (state_at k (descriptor k) s c) ≡ Stops (end_of (fault_of (descriptor k) form))

io_stops : (k : Kernel) (b : ℕ) (form : Form) → instruction k ≡ Some form → is_executed form ≡ true → reads_program form ≡ false → jumps_to_itself (descriptor k) form ≡ false
    → answer_of flat_calls (space_of k) (ask_of form (core_here k)) ≡ Stopped (IoStop b) → (s c : ℕ) → tried (program k) (state_at k (descriptor k) s c) ≡ Stops (IoEnd (descriptor k) b)
io_stops k b form is runs reads apart stopped s c =
    tried_step (program k) (state_at k (descriptor k) s c) form is runs (reads_own k.part (memory_of k) (core_here k) form reads) (ap (λ b. b && not (has_bit k.mote.cpu.sreg interrupts)) apart)
    ∙ ap (stepped (state_at k (descriptor k) s c)) (exec_stopped flat_calls form (core_here k) (space_of k) (next_size (image_held k) (descriptor k)) (IoStop b) stopped)

some_tries : (k : Kernel) (form : Form) → instruction k ≡ Some form → IsTrue (is_valid form) → shape_of_form (descriptor k) form ≡ Fault → TriedSo k (Some form)
unfolding shape_of_form is_executed ask_of is_valid fields_in_range is_undefined
some_tries k forms.Sleep is valid shape = λ none. absurd (cc)
some_tries k forms.Spm is valid shape = λ none s c. tried_spm (program k) (state_at k (descriptor k) s c) is
some_tries k (forms.InIo d q) is valid shape =
    let t = fault_io (is_stack_pointer q) (can_read (io_address q)) shape in
    let low = six_right d q valid in
    λ none. io_stops k (q + 0x20) (forms.InIo d q) is refl refl refl (refused_load (space_of k) (q + 0x20) (omega arith) (own_read q (is_own (q + 0x20)) refl low t.0 t.1) t.1)
some_tries k (forms.OutIo q r) is valid shape =
    let t = fault_io (is_stack_pointer q) (can_write (io_address q)) shape in
    let low = six_right r q valid in
    λ none. io_stops k (q + 0x20) (forms.OutIo q r) is refl refl refl
    (refused_store (space_of k) (q + 0x20) (register (core_here k) r) (omega arith) (own_write q (is_own (q + 0x20)) refl low t.0 t.1) t.1)
some_tries k (forms.Cbi q b) is valid shape =
    λ none. io_stops k (q + 0x20) (forms.Cbi q b) is refl refl refl (refused_modify (space_of k) (q + 0x20) (2 ^ b) 0 (fault_one (can_modify (io_address q)) Native (λ e. cc) shape))
some_tries k (forms.Sbi q b) is valid shape =
    λ none. io_stops k (q + 0x20) (forms.Sbi q b) is refl refl refl (refused_modify (space_of k) (q + 0x20) 0 (2 ^ b) (fault_one (can_modify (io_address q)) Native (λ e. cc) shape))
some_tries k (forms.Sbic q b) is valid shape =
    let low = low_left q b valid in
    λ none. io_stops k (q + 0x20) (forms.Sbic q b) is refl refl refl (refused_load (space_of k) (q + 0x20) (omega arith) (low_own q low) (fault_one (can_read (io_address q)) Skip (λ e. cc) shape))
some_tries k (forms.Sbis q b) is valid shape =
    let low = low_left q b valid in
    λ none. io_stops k (q + 0x20) (forms.Sbis q b) is refl refl refl (refused_load (space_of k) (q + 0x20) (omega arith) (low_own q low) (fault_one (can_read (io_address q)) Skip (λ e. cc) shape))
some_tries k (forms.Rjmp d) is valid shape = absurd (fault_self (relative (descriptor k) d == descriptor k) shape)
some_tries k (forms.Jmp t) is valid shape = absurd (fault_self (t == descriptor k) shape)
some_tries k _ is valid shape = absurd (cc)

any_tries : (k : Kernel) (form : Option Form) → instruction k ≡ form → AreWords k.mote.flash.words → shape_of (descriptor k) form ≡ Fault → TriedSo k form
any_tries k None is fit shape = λ none s c. tried_illegal (program k) (state_at k (descriptor k) s c) is
any_tries k (Some form) is fit shape = some_tries k form is (valid_at (image_held k) (descriptor k) form (λ a. front_fits k.mote.flash.words k.layout.image_words a fit) is) shape

pub fault_tried : (k : Kernel) → AreWords k.mote.flash.words → shape_behind k ≡ Fault → TriedSo k (instruction k)
fault_tried k fit shape = any_tries k (instruction k) refl fit shape

-- a SLEEP
sleep_form : (form : Option Form) → is_sleep form ≡ true → form ≡ Some forms.Sleep
sleep_form None is = absurd (cc)
sleep_form (Some forms.Sleep) is = refl
sleep_form (Some _) is = absurd (cc)

pub sleep_tried : (k : Kernel) → is_sleep (instruction k) ≡ true → (s c : ℕ) → tried (program k) (state_at k (descriptor k) s c) ≡ slept_at (state_at k (descriptor k) s c)
sleep_tried k is s c = tried_sleep (program k) (state_at k (descriptor k) s c) (sleep_form (instruction k) is)
