-- An instruction that stops the program: no instruction, SPM, and registers of I/O that aren't allowed; and SLEEP, which an
-- interrupt may end.
use Rattle.std.proofs.Common.{[], ℕ, ◌≡◌, ◌+◌, ◌∷◌, ◌∙◌, Bool, true, false, refl, sym, ap, ap₂, subst, arith}
use Rattle.std.specs.Prelude.{Option, Some, None}
use Rattle.avr_flags.specs.Status.{has_bit, interrupts}
use Rattle.avr_isa.specs.Addresses.{wrapping_sum}
use Rattle.decode_laws.proofs.Decoded.{valid_at}
use Rattle.avr_decode.specs.Program.{instruction_at}
use Rattle.sram_layout.specs.Bytes.{byte_at}
use Rattle.sram_layout.specs.Cells.{count_cell, vsp_cell}
use Rattle.mote_devices.specs.State.{State as Devices}
use Rattle.mote_devices.specs.Waking.{wake}
use Rattle.mote_devices.proofs.WakeLaws.{wake_polls}
use Rattle.nat_template.specs.declared.shapes.TemplateShape.TheVariants.{Fault}
use Rattle.nat_template.specs.Stubs.{fault_entry}
use Rattle.nat_template.specs.Templates.{template_by}
use Rattle.flat_machine.specs.FlatMachine.{Wakes, tried}
use Rattle.preempt_count.specs.Counting.{count_over, crossed}
use Rattle.preempt_count.proofs.CountLaws.{count_crossed}
use Rattle.kernel_entry.specs.declared.kernel.Stop.TheVariants as stops
use Rattle.kernel_entry.specs.declared.kernel.Served.TheVariants as answers
use Rattle.kernel_entry.specs.declared.kernel.Kernel.{Kernel}
use Rattle.kernel_entry.specs.Parts.{rested, with_sram, image_held, descriptor, instruction}
use Rattle.kernel_entry.specs.Services.{served_at, fault_of, faulted, slept_by, is_sleep, woken, served, is_due}
use Rattle.kernel_entry.specs.Conditions.{CanServe}
use Rattle.kernel_entry.specs.Seen.{program, state_at}
use Rattle.kernel_entry.proofs.ServedLaws.{slept_is, faulted_is, sleep_woken, sleep_never, sleep_off}
use Rattle.step_laws.proofs.PlainLaw.{keeps_mote}
use Rattle.step_laws.specs.Links.{Links}
use Rattle.step_laws.specs.Moves.{Serve, lines_of}
use Rattle.step_laws.specs.Numbers.{moved}
use Rattle.step_laws.specs.Settings.{IsSetting}
use Rattle.step_laws.specs.States.{State, mote_of}
use Rattle.step_laws.specs.Walks.{MakesServe}
use Rattle.step_laws.specs.StepLaws.{Reaches, ShapeLaw, StepLaw, Outcome, crossings_over}
use Rattle.step_laws.proofs.SameProgram.{same_byte, SameProgram, flat_same, paged_after}
use Rattle.step_laws.proofs.Executed.{same_crossed}
use Rattle.step_laws.proofs.AskedLaw.{Called, called, called_by, stop_law}
use Rattle.step_laws.proofs.FaultForms.{fault_tries}
use Rattle.step_laws.proofs.KernelCalls.{called_of, due_is, pushed_kept, serve_by, running_at}
use Rattle.step_laws.proofs.CodeLaws.{image_words, by_shape}

-- FAULT's answer
served_faulted : (k : Kernel) → k.mote.cpu.pc ≡ fault_entry → served k ≡ faulted k
unfolding served
served_faulted k is = ap (λ pc. served_at pc k) is

-- the service wakes the program, and owes an arrival
wake_law : (links : Links) (x : State) (a v : ℕ) (devices : Devices) → IsSetting links x a v → Called x a v fault_entry → CanServe (called x v fault_entry)
    → is_sleep (instruction (called x v fault_entry)) ≡ true → has_bit (mote_of x).cpu.sreg interrupts ≡ true → wake (mote_of x).devices ≡ Some devices → StepLaw links x a
unfolding lines_of moved
wake_law links x a v devices s c can is on wakes =
    let k = x.kernel in
    let kc = called x v fault_entry in
    let y = called_of x v fault_entry in
    let ram = k.mote.sram in
    let from = descriptor kc in
    let to = wrapping_sum from 1 in
    let k2 = woken kc to devices in
    let z : State = record { kernel = k2; owed = Some (record { target = to; stub = None; due = is_due kc }); end = None; torn = None } in
    let answer : served kc ≡ (answers.Woke to, k2) = served_faulted kc refl ∙ faulted_is kc true is ∙ slept_is kc true on ∙ ap (slept_by kc) wakes in
    let served' : MakesServe y None false z = serve_by y (answers.Woke to, k2) (running_at x _ _ s.ready.running) can answer in
    let due' : is_due kc ≡ true = due_is kc (answers.Woke to, k2) answer in
    let count' : byte_at kc.mote.sram count_cell ≡ byte_at ram count_cell = pushed_kept ram (v + 2) count_cell (omega arith) in
    let k3 = with_sram (rested kc) (crossed k.quantum from to kc.mote.sram) in
    let same2 : SameProgram (rested kc).mote k3.mote = same_crossed (rested kc) k.quantum from to kc.mote.sram refl in
    let polls = wake_polls (mote_of x).devices devices s.ready.bounded.timely wakes in
    let tries : (n p : ℕ) → tried (program kc) (state_at kc a n p) ≡ Wakes (state_at k2 to (n + 1) (crossings_over a to p)) =
    λ n p. subst (λ w. tried (program kc) (state_at kc w n p) ≡ Wakes (state_at k2 to (n + 1) (crossings_over w to p))) c.behind (sleep_woken kc devices is on wakes n p) in
    record {
      end = z;
      first = None;
      rest = Serve None false ∷ [];
      line = None;
      walk = (y, c.first, (z, served', refl));
      few = omega arith;
      serves = omega arith;
      lines = refl;
      keeps = keeps_mote x z refl refl refl (paged_after (rested kc).mote k3.mote same2 c.can.paged) refl refl (omega arith)
          (λ b low high. same_byte same2 b (omega arith) ∙ pushed_kept ram (v + 2) b (omega arith))
          (let pointer = s.ready.idle.pointer in omega (arith, same_byte same2 vsp_cell (omega arith), pushed_kept ram (v + 2) vsp_cell (omega arith)));
      outcome = Outcome.Went to (record {
        wakes = true;
        silent = λ e. refl;
        fresh = λ e n. refl;
        polls = λ e. absurd (cc);
        going = refl;
        original = λ n p. ap (tried (program k)) (sym (flat_same k (rested kc) a n p c.same)) ∙ tries n p;
        reaches = subst (λ d. Reaches links to d z) due' (Reaches.Owing None (λ e. refl) refl tt);
        count = count_crossed k.quantum from to kc.mote.sram (omega arith) ∙ ap₂ (λ w n. count_over k.quantum w to n) c.behind count';
        unstopped = refl;
        reset = λ crosses one n. refl;
      });
    }

-- with interrupts on
sleep_law : (links : Links) (x : State) (a v : ℕ) (o : Option Devices) → wake (mote_of x).devices ≡ o → IsSetting links x a v → Called x a v fault_entry → CanServe (called x v fault_entry)
    → is_sleep (instruction (called x v fault_entry)) ≡ true → has_bit (mote_of x).cpu.sreg interrupts ≡ true → StepLaw links x a
sleep_law links x a v (Some devices) wakes s c can is on = wake_law links x a v devices s c can is on wakes
sleep_law links x a v None never s c can is on =
    let kc = called x v fault_entry in
    stop_law links x a v fault_entry (stops.Asleep a) s c can (served_faulted kc refl ∙ faulted_is kc true is ∙ slept_is kc true on ∙ ap (slept_by kc) never
    ∙ ap (λ w. (answers.Stopped (stops.Asleep w), rested kc)) c.behind)
    (λ n p. ap (tried (program x.kernel)) (sym (flat_same x.kernel (rested kc) a n p c.same)) ∙ sleep_never kc a c.behind is on never n p)

fault_by : (links : Links) (x : State) (a v : ℕ) (b i : Bool) → is_sleep (instruction_at (image_held x.kernel) a) ≡ b → has_bit (mote_of x).cpu.sreg interrupts ≡ i → IsSetting links x a v
    → Called x a v fault_entry → CanServe (called x v fault_entry)
    → (is_sleep (instruction_at (image_held x.kernel) a) ≡ false → StepLaw links x a) → StepLaw links x a
fault_by links x a v false i is on s c can other = other is
fault_by links x a v true true is on s c can other = sleep_law links x a v _ refl s c can (ap (λ w. is_sleep (instruction_at (image_held x.kernel) w)) c.behind ∙ is) on
fault_by links x a v true false is off s c can other =
    let kc = called x v fault_entry in
    let is' = ap (λ w. is_sleep (instruction_at (image_held x.kernel) w)) c.behind ∙ is in
    stop_law links x a v fault_entry (stops.Asleep a) s c can (served_faulted kc refl ∙ faulted_is kc true is' ∙ slept_is kc false off
    ∙ ap (λ w. (answers.Stopped (stops.Asleep w), rested kc)) c.behind)
    (λ n p. ap (tried (program x.kernel)) (sym (flat_same x.kernel (rested kc) a n p c.same)) ∙ sleep_off kc a c.behind is' off n p)

pub fault_law : ShapeLaw Fault
unfolding template_by
fault_law links x a v s shape =
    let k = x.kernel in
    let image = image_held k in
    let c = called_by links x a v fault_entry [] s (by_shape image a _ shape) in
    let kc = called x v fault_entry in
    let can : CanServe kc = CanServe.AtFault refl (c.shape ∙ shape) (record { count = c.counts; timely = s.ready.bounded.timely }) in
    fault_by links x a v _ _ refl refl s c can (λ other.
    stop_law links x a v fault_entry (fault_of a (instruction_at image a)) s c can
    (served_faulted kc refl ∙ faulted_is kc false (ap (λ w. is_sleep (instruction_at image w)) c.behind ∙ other)
    ∙ ap (λ w. (answers.Stopped (fault_of w (instruction_at image w)), rested kc)) c.behind)
    (fault_tries k a (instruction_at image a) s.ready.paged refl (λ f is. valid_at image a f (image_words x.kernel s.ready.bounded) is) shape other))
