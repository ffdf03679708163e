-- A call of the kernel: the plain move of the CALL, and the services that stubs call.
use Rattle.std.proofs.Common.{true, ℕ, ◌≡◌, ◌+◌, ◌*◌, ◌/◌, ◌%◌, ◌<◌, ◌≤◌, ◌∙◌, Bool, false, List, length, sym, ap, ap₂, arith}
use Rattle.std.specs.Prelude.{◌≢◌, ◌==◌, Some, None, Option}
use Rattle.avr_isa.specs.declared.form.Form.TheVariants as forms
use Rattle.avr_isa.specs.Addresses.{wrapping_difference}
use Rattle.flash_words.specs.Pages.{word_at}
use Rattle.sram_layout.specs.Bytes.{byte_at, with_byte, first_address}
use Rattle.sram_layout.specs.Cells.{count_cell}
use Rattle.sram_layout.proofs.Laws.{byte_same, length-with_byte}
use Rattle.inline_laws.proofs.Cells.{byte_apart}
use Rattle.nat_template.specs.Stubs.{call_word}
use Rattle.kernel_entry.specs.declared.kernel.Kernel.{Kernel}
use Rattle.kernel_entry.specs.declared.kernel.Served.{Served}
use Rattle.kernel_entry.specs.declared.kernel.Served.TheVariants as answers
use Rattle.avr_exec.specs.declared.cpu.Cpu.{Cpu}
use Rattle.step_laws.specs.States.{Begins, InPool, State, after_service, is_stop, line_served, mote_of, with_mote}
use Rattle.step_laws.specs.Settings.{IsRunning}
use Rattle.step_laws.specs.Walks.{MakesPlain, MakesServe}
use Rattle.step_laws.proofs.PlainMoves.{call_form, form_there, quiet_move}
use Rattle.kernel_entry.specs.Parts.{descriptor, rested, return_address}
use Rattle.kernel_entry.specs.Services.{served, served_at, quantum_ended, is_due, due_by}
use Rattle.kernel_entry.specs.Conditions.{CanServe}
use Rattle.mote_core.specs.QuietSteps.{flash_form, IsQuiet}
use Rattle.mote_core.proofs.QuietMemory.{quiet_call}

-- the return address that a call leaves
abbrev pub pushed : List ℕ → ℕ → List ℕ
pushed ram ret = with_byte (with_byte ram 0x011F (ret % 256)) 0x011E (ret / 256)

pub pushed_address : (ram : List ℕ) (ret : ℕ) → length ram ≡ 4096 → byte_at (pushed ram ret) 0x011E * 256 + byte_at (pushed ram ret) 0x011F ≡ ret
pushed_address ram ret size =
    ap₂ (λ a b. a * 256 + b) (byte_same (with_byte ram 0x011F (ret % 256)) 0x011E (ret / 256) (omega arith) (omega (arith, length-with_byte ram 0x011F (ret % 256))))
    (byte_apart (with_byte ram 0x011F (ret % 256)) 0x011E 0x011F (ret / 256) (omega arith) ∙ byte_same ram 0x011F (ret % 256) (omega arith) (omega arith))
    ∙ omega arith

pub pushed_kept : (ram : List ℕ) (ret b : ℕ) → (first_address ≤ b) × (b ≢ 0x011E) × (b ≢ 0x011F) → byte_at (pushed ram ret) b ≡ byte_at ram b
pushed_kept ram ret b apart = byte_apart (with_byte ram 0x011F (ret % 256)) 0x011E b (ret / 256) (omega arith) ∙ byte_apart ram 0x011F b (ret % 256) (omega arith)

pub pushed_size : (ram : List ℕ) (ret : ℕ) → length (pushed ram ret) ≡ length ram
pushed_size ram ret = length-with_byte (with_byte ram 0x011F (ret % 256)) 0x011E (ret / 256) ∙ length-with_byte ram 0x011F (ret % 256)

-- the state after the CALL at v of an entry of the kernel
abbrev pub called_of : State → ℕ → ℕ → State
called_of x v entry = with_mote x (record (mote_of x) { cpu = record (mote_of x).cpu { sp = 0x011D; pc = entry }; sram = pushed (mote_of x).sram (v + 2) })

pub running_at : (x : State) (cpu : Cpu) (ram : List ℕ) → IsRunning x → IsRunning (with_mote x (record (mote_of x) { cpu = cpu; sram = ram }))
running_at x cpu ram free = record { free = free.free; going = free.going; room = free.room }

pub serve_by : (x : State) (answer : Served × Kernel) → IsRunning x → CanServe x.kernel → served x.kernel ≡ answer
    → MakesServe x (line_served answer.0) (is_stop answer.0) (after_service (is_due x.kernel) answer)
serve_by x answer free can is = record {
  free = free.free;
  going = free.going;
  can = can;
  written = ap (λ (o : Served × Kernel). line_served o.0) is;
  halts = ap (λ (o : Served × Kernel). is_stop o.0) is;
  result = sym (ap (after_service (is_due x.kernel)) is);
}

pub call_move : (x : State) (p entry : ℕ) (b : Bool) → IsRunning x → (mote_of x).cpu.pc ≡ p → InPool x.kernel.layout p → p < 0xF000 → Begins x.kernel.layout (mote_of x).flash.words p b
    → word_at (mote_of x).flash.words p ≡ call_word → word_at (mote_of x).flash.words (p + 1) ≡ entry → (mote_of x).cpu.sp ≡ 0x011F
    → MakesPlain x b None (with_mote x (record (mote_of x) { cpu = record (mote_of x).cpu { sp = 0x011D; pc = entry }; sram = pushed (mote_of x).sram (p + 2) }))
call_move x p entry b free is pool low starts first second top =
    let m = mote_of x in
    let form : flash_form m m.cpu.pc ≡ Some (forms.Call entry) = ap (flash_form m) is ∙ form_there m p call_word entry (Some (forms.Call entry)) (first, second, low) (call_form entry) in
    let ret : m.cpu.pc + 2 ≡ p + 2 = omega arith in
    let called : IsQuiet m (record m { cpu = record m.cpu { sp = 0x011D; pc = entry }; sram = pushed m.sram (p + 2) }) =
    rw ret at (quiet_call m m.cpu.r m.cpu.sreg m.cpu.pc m.sram entry form top (omega arith)) in
    quiet_move x (record m { cpu = record m.cpu { sp = 0x011D; pc = entry }; sram = pushed m.sram (p + 2) }) b free (rw is pool) (rw is starts) called

-- the service BRIDGE behind the address p
abbrev pub owing : Kernel → (t : ℕ) → Option ℕ → Bool → State
owing k t stub due = record { kernel = k; owed = Some (record { target = t; stub = stub; due = due }); end = None; torn = None }

-- whether an interrupt is due behind a service, by its answer
pub due_is : (k : Kernel) (answer : Served × Kernel) → served k ≡ answer → is_due k ≡ due_by k.mote.cpu.pc (descriptor k) (byte_at k.mote.sram count_cell == 1) answer.0
unfolding is_due
due_is k answer is = ap (λ (o : Served × Kernel). due_by k.mote.cpu.pc (descriptor k) (byte_at k.mote.sram count_cell == 1) o.0) is

pub bridge_move : (x : State) (p t : ℕ) → IsRunning x → (mote_of x).cpu.pc ≡ 0xF000 → p + 2 < 65536 → return_address x.kernel ≡ p + 2 → word_at (mote_of x).flash.words (p + 2) ≡ t
    → MakesServe x None false (owing (rested x.kernel) t (Some p) false)
unfolding served
bridge_move x p t free at low back word =
    let k = x.kernel in
    let target : descriptor k ≡ t = ap (word_at k.mote.flash.words) back ∙ word in
    let stub : wrapping_difference (return_address k) 2 ≡ p = omega arith in
    let is : served k ≡ (answers.Goto t (Some p), rested k) = ap (λ pc. served_at pc k) at ∙ ap₂ (λ w q. (answers.Goto w (Some q), rested k)) target stub in
    record {
      free = free.free;
      going = free.going;
      can = CanServe.AtBridge at;
      written = ap (λ (o : Served × Kernel). line_served o.0) is;
      halts = ap (λ (o : Served × Kernel). is_stop o.0) is;
      result = sym (ap₂ after_service (due_is k (answers.Goto t (Some p), rested k) is) is);
    }

-- the service QUANTUM
abbrev pub quantum_state : State → ℕ → State
quantum_state x t = owing (quantum_ended x.kernel).1 t None true

pub quantum_move : (x : State) (p t : ℕ) → IsRunning x → (mote_of x).cpu.pc ≡ 0xF002 → return_address x.kernel ≡ p + 2 → word_at (mote_of x).flash.words (p + 2) ≡ t
    → MakesServe x None false (quantum_state x t)
unfolding served
quantum_move x p t free at back word =
    let k = x.kernel in
    let target : descriptor k ≡ t = ap (word_at k.mote.flash.words) back ∙ word in
    let is : served k ≡ (answers.Goto t None, (quantum_ended k).1) = ap (λ pc. served_at pc k) at ∙ ap (λ w. (answers.Goto w None, (quantum_ended k).1)) target in
    record {
      free = free.free;
      going = free.going;
      can = CanServe.AtQuantum at;
      written = ap (λ (o : Served × Kernel). line_served o.0) is;
      halts = ap (λ (o : Served × Kernel). is_stop o.0) is;
      result = sym (ap₂ after_service (due_is k (answers.Goto t None, (quantum_ended k).1) is ∙ ap (λ e. due_by e (descriptor k) (byte_at k.mote.sram count_cell == 1) (answers.Goto t None)) at) is);
    }
