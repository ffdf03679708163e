-- Instructions that stop the program, tried by the original machine.
use Rattle.std.proofs.Common.{ℕ, ◌≡◌, ◌+◌, ◌<◌, ◌==◌, ◌∙◌, Bool, true, false, cond, refl, ap, arith, IsTrue}
use Rattle.std.specs.Prelude.{◌^◌, if◌then◌else◌, ◌&&◌, Option, Some, None, not}
use Rattle.avr_isa.specs.Instruction.{is_valid, fields_in_range}
use Rattle.avr_isa.specs.UndefinedPairs.{is_undefined}
use Rattle.avr_isa.specs.IoTable.{can_read, can_write, io_address}
use Rattle.avr_isa.specs.declared.form.Form.{Form}
use Rattle.avr_isa.specs.declared.form.Form.TheVariants as forms
use Rattle.avr_flags.specs.Status.{has_bit, interrupts}
use Rattle.avr_exec.specs.declared.ask.Ask.TheVariants as asks
use Rattle.avr_exec.specs.declared.answer.Answer.TheVariants.{Done, Byte}
use Rattle.avr_exec.specs.declared.stop.BusStop.TheVariants as bus
use Rattle.avr_isa.specs.Addresses.{relative}
use Rattle.avr_exec.specs.Registers.{register, is_own}
use Rattle.avr_exec.specs.Asks.{ask_of, load_of, store_of}
use Rattle.avr_exec.specs.Execution.{answered_by, answer_of, is_executed}
use Rattle.avr_exec.specs.Spaces.{Stopped as StoppedOn}
use Rattle.avr_exec.proofs.OneAnswer.{exec_stopped}
use Rattle.heap_frames.specs.Paged.{IsPaged}
use Rattle.mote_devices.specs.State.{State as Devices}
use Rattle.mote_devices.specs.Accesses.{Refused, read, modify as modify_device, written_back}
use Rattle.mote_devices.proofs.AccessLaws.{read_refused, write_refused}
use Rattle.nat_template.specs.declared.shapes.TemplateShape.TheVariants.{Native, Mem, Jump, Skip, SelfJump, Fault}
use Rattle.nat_template.specs.Shapes.{shape_of, shape_of_form, is_stack_pointer, can_modify}
use Rattle.flat_machine.specs.FlatMachine.{Stops, tried, next_size, jumps_to_itself}
use Rattle.flat_machine.specs.FlatMachine as flat_ends
use Rattle.mem_guard.specs.Guarded.{Guarded, guarded_calls, load, store, modify, load_in, store_in, from_device, to_device}
use Rattle.mem_guard.proofs.GuardedStep.{guarded_stops}
use Rattle.flat_machine.proofs.MachineLaws.{tried_illegal, tried_spm}
use Rattle.kernel_entry.specs.declared.kernel.Kernel.{Kernel}
use Rattle.step_laws.proofs.SkipLaw.{low_field}
use Rattle.avr_decode.specs.Program.{instruction_at}
use Rattle.kernel_entry.specs.Parts.{core_of, memory_of, image_held}
use Rattle.kernel_entry.specs.Services.{fault_of, is_sleep}
use Rattle.step_laws.proofs.ShapeTests.{not_chosen, chosen_other}
use Rattle.kernel_entry.specs.Seen.{program, state_at, end_of}
use Rattle.kernel_entry.proofs.FaultLaws.{io_class, reads_not, six_right, low_left, own_read, own_write}
use Rattle.step_laws.proofs.AskedLaw.{owns_by}
use Rattle.flat_machine.proofs.ReadLaws.{reads_program}

-- a register that isn't allowed stops the program
refused_load : (g : Guarded) (a : ℕ) → a < 256 → is_own a ≡ false → can_read a ≡ false → answer_of guarded_calls g (load_of a) ≡ StoppedOn (bus.Io a)
unfolding answer_of load load_of
refused_load g a low own can =
    ap (λ b. answer_of guarded_calls g (cond b asks.Nothing (asks.Load a))) own
    ∙ ap (λ c. answered_by Byte (load_in c g a)) (io_class a low own)
    ∙ ap (λ o. answered_by Byte (from_device g a o)) (read_refused g.devices a can)

refused_store : (g : Guarded) (a v : ℕ) → a < 256 → is_own a ≡ false → can_write a ≡ false → answer_of guarded_calls g (store_of a v) ≡ StoppedOn (bus.Io a)
unfolding answer_of store store_of
refused_store g a v low own can =
    ap (λ b. answer_of guarded_calls g (cond b asks.Nothing (asks.Store a v))) own
    ∙ ap (λ c. answered_by {A = Unit {0}} (λ _. Done) (store_in c g a v)) (io_class a low own)
    ∙ ap (λ o. answered_by {A = Unit {0}} (λ _. Done) (to_device g a o)) (write_refused g.devices a v can)

modify_refused : (s : Devices) (a clear set : ℕ) (b : Bool) → can_write a ≡ b → can_modify a ≡ false → modify_device s a clear set ≡ Refused
unfolding modify_device
modify_refused s a clear set true w can =
    ap (λ b. if b then written_back (read s a) a clear set else Refused) w ∙ ap (λ o. written_back o a clear set) (read_refused s a (reads_not (can_read a) (can_write a) w can))
modify_refused s a clear set false w can = ap (λ b. if b then written_back (read s a) a clear set else Refused) w

refused_modify : (g : Guarded) (a clear set : ℕ) → can_modify a ≡ false → answer_of guarded_calls g (asks.Modify a clear set) ≡ StoppedOn (bus.Io a)
unfolding answer_of modify
refused_modify g a clear set can = ap (λ o. answered_by {A = Unit {0}} (λ _. Done) (to_device g a o)) (modify_refused g.devices a clear set _ refl can)

-- the tests by which the shape was chosen
fault_io : (b c : Bool) → (if b then Mem else if c then Native else Fault) ≡ Fault → (b ≡ false) × (c ≡ false)
fault_io true c is = absurd (cc)
fault_io false true is = absurd (cc)
fault_io false false is = (refl, refl)

abbrev Tries : Kernel → ℕ → Option Form → Type 0
Tries k a form = is_sleep form ≡ false → (s c : ℕ) → tried (program k) (state_at k a s c) ≡ Stops (end_of (fault_of a form))

io_stops : (k : Kernel) (a b : ℕ) (form : Form) → IsPaged k.mote.sram k.mote.swap → instruction_at (image_held k) a ≡ Some form → is_executed form ≡ true → reads_program form ≡ false
    → jumps_to_itself a form ≡ false
    → answer_of guarded_calls (memory_of k) (ask_of form (core_of k a)) ≡ StoppedOn (bus.Io b) → (s c : ℕ) → tried (program k) (state_at k a s c) ≡ Stops (flat_ends.Io a b)
io_stops k a b form paged is runs reads apart stopped s c =
    guarded_stops _ _ (memory_of k) (core_of k a) s c form (bus.Io b) paged refl is runs (owns_by k a form reads) (ap (λ b. b && not (has_bit k.mote.cpu.sreg interrupts)) apart)
    (exec_stopped guarded_calls form (core_of k a) (memory_of k) (next_size (image_held k) a) (bus.Io b) stopped)

some_tries : (k : Kernel) (a : ℕ) (form : Form) → IsPaged k.mote.sram k.mote.swap → instruction_at (image_held k) a ≡ Some form → IsTrue (is_valid form) → shape_of_form a form ≡ Fault
    → Tries k a (Some form)
unfolding shape_of_form is_executed ask_of is_valid fields_in_range is_undefined
some_tries k a forms.Sleep paged is valid shape = λ none. absurd (cc)
some_tries k a forms.Spm paged is valid shape = λ none s c. tried_spm (program k) (state_at k a s c) is
some_tries k a (forms.InIo d q) paged is valid shape =
    let t = fault_io (is_stack_pointer q) (can_read (io_address q)) shape in
    let low = six_right d q valid in
    λ none. io_stops k a (q + 0x20) (forms.InIo d q) paged is refl refl refl (refused_load (memory_of k) (q + 0x20) (omega arith) (own_read q _ refl low t.0 t.1) t.1)
some_tries k a (forms.OutIo q r) paged is valid shape =
    let t = fault_io (is_stack_pointer q) (can_write (io_address q)) shape in
    let low = six_right r q valid in
    λ none. io_stops k a (q + 0x20) (forms.OutIo q r) paged is refl refl refl (refused_store (memory_of k) (q + 0x20) (register (core_of k a) r) (omega arith) (own_write q _ refl low t.0 t.1) t.1)
some_tries k a (forms.Cbi q b) paged is valid shape =
    λ none. io_stops k a (q + 0x20) (forms.Cbi q b) paged is refl refl refl
    (refused_modify (memory_of k) (q + 0x20) (2 ^ b) 0 (chosen_other (can_modify (io_address q)) Native Fault Fault (λ e. cc) shape))
some_tries k a (forms.Sbi q b) paged is valid shape =
    λ none. io_stops k a (q + 0x20) (forms.Sbi q b) paged is refl refl refl
    (refused_modify (memory_of k) (q + 0x20) 0 (2 ^ b) (chosen_other (can_modify (io_address q)) Native Fault Fault (λ e. cc) shape))
some_tries k a (forms.Sbic q b) paged is valid shape =
    let low = low_left q b valid in
    λ none. io_stops k a (q + 0x20) (forms.Sbic q b) paged is refl refl refl
    (refused_load (memory_of k) (q + 0x20) (omega arith) (low_field q _ valid) (chosen_other (can_read (io_address q)) Skip Fault Fault (λ e. cc) shape))
some_tries k a (forms.Sbis q b) paged is valid shape =
    let low = low_left q b valid in
    λ none. io_stops k a (q + 0x20) (forms.Sbis q b) paged is refl refl refl
    (refused_load (memory_of k) (q + 0x20) (omega arith) (low_field q _ valid) (chosen_other (can_read (io_address q)) Skip Fault Fault (λ e. cc) shape))
some_tries k a (forms.Rjmp d) paged is valid shape = absurd (not_chosen (relative a d == a) SelfJump Jump Fault (λ e. cc) (λ e. cc) shape)
some_tries k a (forms.Jmp t) paged is valid shape = absurd (not_chosen (t == a) SelfJump Jump Fault (λ e. cc) (λ e. cc) shape)
some_tries k a _ paged is valid shape = absurd (cc)

pub fault_tries : (k : Kernel) (a : ℕ) (form : Option Form) → IsPaged k.mote.sram k.mote.swap → instruction_at (image_held k) a ≡ form → ((f : Form) → form ≡ Some f → IsTrue (is_valid f))
    → shape_of a form ≡ Fault → Tries k a form
fault_tries k a None paged is valid shape = λ none s c. tried_illegal (program k) (state_at k a s c) is
fault_tries k a (Some form) paged is valid shape = some_tries k a form paged is (valid form refl) shape
