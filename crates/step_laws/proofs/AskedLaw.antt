-- A call of the kernel, behind any plain moves of a template or as the template itself, and what follows from the service's
-- answer.
use Rattle.std.proofs.Common.{[], ℕ, ◌≡◌, ◌+◌, ◌<◌, ◌≤◌, ◌∷◌, ◌++◌, ◌∙◌, true, false, List, length, refl, sym, ap, arith, inl}
use Rattle.std.specs.Prelude.{◌≢◌, ◌&&◌, Option, Some, None, not}
use Rattle.avr_isa.specs.Crossing.{is_crossing}
use Rattle.avr_isa.specs.declared.form.Form.{Form}
use Rattle.avr_flags.specs.Status.{has_bit, interrupts}
use Rattle.avr_exec.specs.declared.cpu.Cpu.{Cpu}
use Rattle.avr_exec.specs.declared.stop.BusStop.{BusStop}
use Rattle.avr_isa.specs.Addresses.{wrapping_sum}
use Rattle.avr_exec.specs.Execution.{is_executed}
use Rattle.avr_exec.specs.Spaces.{Outcome, Went as WentOn, Stopped as StoppedOn}
use Rattle.sram_layout.specs.Bytes.{byte_at, with_word}
use Rattle.sram_layout.specs.Cells.{vsp_cell, count_cell}
use Rattle.sram_layout.specs.Regions.{KeepsRegion, place_cells}
use Rattle.sram_layout.proofs.Laws.{length-with_word, word_low}
use Rattle.heap_frames.specs.Paged.{IsPaged}
use Rattle.heap_frames.proofs.SamePagingLaws.{same_paging_word, paged_same}
use Rattle.nat_template.specs.declared.shapes.TemplateShape.TheVariants.{SelfJump, Fault}
use Rattle.nat_template.specs.Shapes.{shape_of_form, shape_of}
use Rattle.page_draft.specs.Runs.{shape_at, template_at}
use Rattle.flat_machine.specs.FlatMachine.{Goes, Stops, tried, next_size, jumps_to_itself, word_asked, if_foreign}
use Rattle.mote_devices.specs.State.{stored, rampz_address}
use Rattle.avr_exec.specs.Asks.{ask_of}
use Rattle.avr_exec.specs.declared.ask.Ask.{Ask}
use Rattle.avr_exec.specs.declared.ask.Ask.TheVariants as asks
use Rattle.mote_core.specs.Conditions.{is_device_ask}
use Rattle.flat_machine.proofs.MachineLaws.{tried_read}
use Rattle.flat_machine.proofs.ReadLaws.{reads_program}
use Rattle.mem_guard.specs.Guarded.{Guarded, guarded_calls}
use Rattle.mem_guard.specs.Left.{IsKept}
use Rattle.mem_guard.proofs.GuardedStep.{ReadsOwn, reads_own, guarded_goes, guarded_stops}
use Rattle.kernel_entry.specs.declared.kernel.Kernel.{Kernel}
use Rattle.kernel_entry.specs.declared.kernel.Stop.{Stop}
use Rattle.kernel_entry.specs.declared.kernel.Stop.TheVariants.{Read}
use Rattle.kernel_entry.specs.declared.kernel.Served.TheVariants as answers
use Rattle.nat_template.specs.declared.shapes.TemplateShape.{TemplateShape}
use Rattle.kernel_entry.proofs.LeftLaws.{word_kept}
use Rattle.step_laws.specs.States.{State, mote_of, with_mote}
use Rattle.step_laws.specs.Settings.{IsIdle, IsRunning, IsSetting}
use Rattle.step_laws.specs.Links.{Links}
use Rattle.step_laws.specs.Walks.{MakesServe, WalkFrom, MakesPlain}
use Rattle.step_laws.proofs.Ways.{from_on}
use Rattle.step_laws.proofs.PlainLaw.{keeps_mote, plain_on, serve_on, stop_on, plains_are, plains_lines, works_law}
use Rattle.step_laws.proofs.Onward.{Onward}
use Rattle.step_laws.specs.Moves.{Serve, lines_of, plains}
use Rattle.step_laws.specs.StepLaws.{StepLaw, Outcome as StepOutcome, crossings_over}
use Rattle.step_laws.proofs.KernelCalls.{pushed, serve_by, call_move, called_of, pushed_address, pushed_kept, pushed_size, running_at}
use Rattle.avr_exec.proofs.RegistersKept.{exec_kept}
use Rattle.step_laws.proofs.Executed.{end_stop, flat_put, kept_of, executed_at, returned, executed_is}
use Rattle.kernel_entry.specs.declared.kernel.End.TheVariants as ends
use Rattle.avr_decode.specs.Program.{instruction_at}
use Rattle.kernel_entry.specs.Parts.{core_of, descriptor, memory_of, rested, return_address, image_held}
use Rattle.kernel_entry.specs.Services.{foreign_in, foreign_read, read_by, accessed, resumed, resumed_by, served, stop_of, if_instruction, execution, execution_by}
use Rattle.kernel_entry.specs.Conditions.{CanExecute, CanServe, shape_behind, CanCount}
use Rattle.preempt_count.specs.Counting.{count_over}
use Rattle.kernel_entry.specs.declared.kernel.Served.{Served}
use Rattle.kernel_entry.specs.Seen.{program, state_at, end_of}
use Rattle.kernel_entry.proofs.ShapeLaws.{jumps_on, runs_or_faults}
use Rattle.flash_words.specs.Pages.{word_at as flash_word}
use Rattle.nat_template.specs.declared.piece.Piece.{Piece}
use Rattle.nat_template.specs.declared.piece.Piece.TheVariants.{Fixed}
use Rattle.nat_template.specs.Stubs.{call_word}
use Rattle.page_draft.specs.Standing.{size}
use Rattle.step_laws.proofs.Stretches.{template_here, stretch_of, size_three}
use Rattle.step_laws.proofs.SameProgram.{SameProgram, flat_same, paged_after, same_sram}

-- The state at the entry of a service, where SRAM was `ram` before the call, which left the address `back`; and its kernel.
abbrev pub asked_of : State → List ℕ → (back entry : ℕ) → State
asked_of x ram back entry = with_mote x (record (mote_of x) { cpu = record (mote_of x).cpu { sp = 0x011D; pc = entry }; sram = pushed ram back })

abbrev pub asked : State → List ℕ → (back entry : ℕ) → Kernel
asked x ram back entry = (asked_of x ram back entry).kernel

-- nothing is owed, and the program goes on
abbrev pub resting : Kernel → State
resting k = record { kernel = k; owed = None; end = None; torn = None }

-- MEM, or another service, is asked there for the instruction at a, and the program sees what it saw.
pub record IsAsked (x : State) (a : ℕ) (ram : List ℕ) (back entry : ℕ) : Type 0 where
  pub low : back + 1 ≤ 0xF000
  pub address : return_address (asked x ram back entry) ≡ back
  pub behind : descriptor (asked x ram back entry) ≡ a
  pub sees : (pc s c : ℕ) → state_at (rested (asked x ram back entry)) pc s c ≡ state_at x.kernel pc s c
  pub count : byte_at (pushed ram back) count_cell ≡ byte_at (mote_of x).sram count_cell
  pub pointer : byte_at (pushed ram back) vsp_cell < 256
  pub tables : KeepsRegion place_cells (mote_of x).sram (pushed ram back)
  pub shape : shape_behind (asked x ram back entry) ≡ shape_at (image_held x.kernel) a
  pub can : CanExecute (asked x ram back entry)

-- A first plain move and `more` others led there.
pub record Asked (x : State) (a : ℕ) (ram : List ℕ) (back entry more : ℕ) : Type 0 where
  pub few : more ≤ 20
  pub walk : WalkFrom x true None (plains more) (asked_of x ram back entry)
  pub state : IsAsked x a ram back entry

-- the service stops the program
pub stop_asked : (links : Links) (x : State) (a v : ℕ) (ram : List ℕ) (back entry more : ℕ) (stop : Stop) → IsSetting links x a v → Asked x a ram back entry more → CanServe (asked x ram back entry)
    → served (asked x ram back entry) ≡ (answers.Stopped stop, rested (asked x ram back entry)) → ((s c : ℕ) → tried (program x.kernel) (state_at x.kernel a s c) ≡ Stops (end_of stop))
    → StepLaw links x a
unfolding lines_of
stop_asked links x a v ram back entry more stop s c can is stops =
    let kc = asked x ram back entry in
    let y = asked_of x ram back entry in
    let ms = Serve None true ∷ [] in
    let plain = plains_are more in
    let z : State = record { kernel = rested kc; owed = None; end = Some (ends.Stopped stop); torn = None } in
    let served' : MakesServe y None true z = serve_by y (answers.Stopped stop, rested kc) (running_at x _ _ s.ready.running) can is in
    record {
      end = z;
      first = None;
      rest = plains more ++ ms;
      line = None;
      walk = from_on x y z true None (plains more) ms c.walk (z, served', refl);
      few = let few = c.few in omega (arith, plain_on (plains more) ms, plain.0);
      serves = omega (arith, serve_on (plains more) ms, plain.1);
      lines = plains_lines more ms;
      keeps = keeps_mote x z refl refl refl c.state.can.paged refl refl (omega arith) c.state.tables c.state.pointer;
      outcome = StepOutcome.Stopped stop (record {
        ended = refl;
        free = refl;
        silent = refl;
        original = stops;
        same = c.state.sees a;
        count = c.state.count;
        stopped = omega (arith, stop_on (plains more) ms, plain.2);
      });
    }

-- what the service executes, as the original's step
abbrev pub RunsOn : Kernel → ℕ → Form → Type 0
RunsOn k a form = jumps_to_itself a form && not (has_bit k.mote.cpu.sreg interrupts) ≡ false

-- this is the instruction at a
pub record IsRun (k : Kernel) (a : ℕ) (form : Form) : Type 0 where
  pub is : instruction_at (image_held k) a ≡ Some form
  pub runs : is_executed form ≡ true
  pub apart : RunsOn k a form

-- and it reads no word of the program that it may not
abbrev pub Owns : Kernel → ℕ → Form → Type 0
Owns k a form = ReadsOwn k.part (memory_of k) (core_of k a) form

pub owns_by : (k : Kernel) (a : ℕ) (form : Form) → reads_program form ≡ false → Owns k a form
owns_by k a form none = reads_own k.part (memory_of k) (core_of k a) form none

-- nor does what asks for a device's register alone
device_none : (r : ℕ) (ask : Ask) → is_device_ask ask ≡ true → word_asked r ask ≡ None
unfolding is_device_ask
device_none r (asks.Program z) is = absurd (cc)
device_none r (asks.ExtendedProgram z) is = absurd (cc)
device_none r (asks.ExtendedProgramRaising z) is = absurd (cc)
device_none r _ is = refl

pub device_owns : (k : Kernel) (a : ℕ) (form : Form) → is_device_ask (ask_of form (core_of k a)) ≡ true → Owns k a form
device_owns k a form is = ap (if_foreign k.part) (device_none (stored k.mote.devices rampz_address) (ask_of form (core_of k a)) is)

-- what may not be read, where the service is asked for the instruction at a
abbrev pub foreign_at : Kernel → ℕ → Form → Option ℕ
foreign_at k a form = if_foreign k.part (word_asked (stored k.mote.devices rampz_address) (ask_of form (core_of k a)))

pub foreign_is : (k : Kernel) (a : ℕ) (form : Form) → descriptor k ≡ a → instruction_at (image_held k) a ≡ Some form → foreign_read k ≡ foreign_at k a form
foreign_is k a form behind is = ap (foreign_in k) (ap (instruction_at (image_held k)) behind ∙ is) ∙ ap (λ w. foreign_at k w form) behind

-- MEM's answer by that
pub accessed_own : (k : Kernel) → foreign_read k ≡ None → accessed k ≡ resumed k
unfolding accessed
accessed_own k none = ap (read_by k) none

pub accessed_foreign : (k : Kernel) (a w : ℕ) → descriptor k ≡ a → foreign_read k ≡ Some w → accessed k ≡ (answers.Stopped (Read a w), rested k)
unfolding accessed
accessed_foreign k a w behind is = ap (read_by k) is ∙ ap (λ at. (answers.Stopped (Read at w), rested k)) behind

pub read_stops_asked : (x : State) (a w : ℕ) (ram : List ℕ) (back entry more : ℕ) (form : Form) → Asked x a ram back entry more → instruction_at (image_held x.kernel) a ≡ Some form
    → is_executed form ≡ true
    → foreign_at (asked x ram back entry) a form ≡ Some w → (s c : ℕ) → tried (program x.kernel) (state_at x.kernel a s c) ≡ Stops (end_of (Read a w))
read_stops_asked x a w ram back entry more form c is runs foreign n m =
    let kc = asked x ram back entry in
    ap (tried (program x.kernel)) (sym (c.state.sees a n m)) ∙ tried_read (program kc) (state_at kc a n m) form w is runs foreign

pub bus_stops_asked : (x : State) (a : ℕ) (ram : List ℕ) (back entry more : ℕ) (form : Form) (stop : BusStop) → Asked x a ram back entry more → IsRun x.kernel a form
    → Owns (asked x ram back entry) a form
    → executed_at (asked x ram back entry) a form ≡ StoppedOn stop → (s c : ℕ) → tried (program x.kernel) (state_at x.kernel a s c) ≡ Stops (end_of (stop_of a stop))
bus_stops_asked x a ram back entry more form stop c f own stopped n m =
    let kc = asked x ram back entry in
    ap (tried (program x.kernel)) (sym (c.state.sees a n m))
    ∙ guarded_stops _ _ (memory_of kc) (core_of kc a) n m form stop c.state.can.paged refl f.is f.runs own f.apart stopped
    ∙ ap Stops (sym (end_stop a stop))

-- the service goes on behind the descriptor
pub resume_asked : (links : Links) (x : State) (a v : ℕ) (ram : List ℕ) (back entry more to : ℕ) (form : Form) (cpu : Cpu) (g : Guarded) → IsSetting links x a v → Asked x a ram back entry more
    → CanServe (asked x ram back entry)
    → IsRun x.kernel a form → Owns (asked x ram back entry) a form → executed_at (asked x ram back entry) a form ≡ WentOn cpu g → cpu.pc ≡ to
    → served (asked x ram back entry) ≡ (answers.Resume g.line, returned (asked x ram back entry) cpu g (wrapping_sum back 1))
    → (let z = resting (returned (asked x ram back entry) cpu g (wrapping_sum back 1)) in IsRunning z → IsIdle z.kernel
    → Onward 0 links z to (count_over x.kernel.quantum a to (byte_at (mote_of z).sram count_cell)) (is_crossing a to)) → StepLaw links x a
unfolding lines_of
resume_asked links x a v ram back entry more to form cpu g s c can f own went pc answer ahead =
    let k = x.kernel in
    let image = image_held k in
    let kc = asked x ram back entry in
    let y = asked_of x ram back entry in
    let kept : IsKept (memory_of kc) g = kept_of kc a form cpu g c.state.can.paged went in
    let size' : length g.sram ≡ 4096 = kept.paged.sized.sram in
    let z1 = resting (returned kc cpu g (wrapping_sum back 1)) in
    let served' : MakesServe y g.line false z1 = serve_by y (answers.Resume g.line, returned kc cpu g (wrapping_sum back 1)) (running_at x _ _ s.ready.running) can answer in
    let count' : byte_at (with_word g.sram vsp_cell cpu.sp) count_cell ≡ byte_at k.mote.sram count_cell = word_kept g.sram cpu.sp count_cell (omega arith)
    ∙ kept.cells count_cell (omega arith) (omega arith) ∙ c.state.count in
    let pointer' : byte_at (with_word g.sram vsp_cell cpu.sp) vsp_cell < 256 = omega (arith, word_low g.sram vsp_cell cpu.sp (omega arith) (omega arith)) in
    let some = s.ready.idle.some in
    let most = s.ready.idle.most in
    let room = s.ready.bounded.polls in
    let registers' : length cpu.r ≡ length k.mote.cpu.r = exec_kept guarded_calls form (core_of kc a) cpu (memory_of kc) g (next_size image a) went in
    let registers = s.ready.idle.registers in
    let fit' : IsIdle z1.kernel = record { registers = omega arith; size = length-with_word g.sram vsp_cell cpu.sp ∙ size'; pointer = pointer'; top = refl; some = omega arith; most = omega arith } in
    let on = ahead (record { free = refl; going = refl; room = let polls = kept.polls in omega arith }) fit' in
    let paged'' : IsPaged z1.kernel.mote.sram z1.kernel.mote.swap =
    paged_same g.sram (with_word g.sram vsp_cell cpu.sp) g.swap (same_paging_word g.sram vsp_cell cpu.sp (omega arith) (inl (omega arith))) kept.paged in
    let goes : (n m : ℕ) → tried (program k) (state_at k a n m) ≡ Goes g.line (state_at z1.kernel cpu.pc (n + 1) (crossings_over a cpu.pc m)) = λ n m.
    ap (tried (program k)) (sym (c.state.sees a n m)) ∙ guarded_goes _ _ (memory_of kc) g (core_of kc a) cpu n m form c.state.can.paged refl f.is f.runs own f.apart went
    ∙ ap (Goes g.line) (sym (flat_put kc cpu g (wrapping_sum back 1) (n + 1) (crossings_over a cpu.pc m) size')) in
    let ms = Serve g.line false ∷ [] in
    let plain = plains_are more in
    let polls = kept.polls in
    works_law links x a to g.line None (plains more ++ ms) z1 0 (let few = c.few in omega (arith, plain_on (plains more) ms, plain.0)) (record {
      walk = from_on x y z1 true None (plains more) ms c.walk (z1, served', refl);
      told = plains_lines more ms;
      stops = omega (arith, stop_on (plains more) ms, plain.2);
      serves = omega (arith, serve_on (plains more) ms, plain.1);
      keeps = keeps_mote x z1 refl refl kept.slots paged'' registers' refl (omega arith)
          (λ b low high. word_kept g.sram cpu.sp b (omega arith) ∙ kept.tables b (omega arith) high ∙ c.state.tables b low high) pointer';
      polls = polls;
      count = count';
      goes = rw pc at goes;
    }) on

-- the answer, by the outcome of the execution
abbrev pub resumed_to : Kernel → (back a : ℕ) → Outcome Guarded Cpu → Served × Kernel
resumed_to k back a (WentOn cpu g) = (answers.Resume g.line, returned k cpu g (wrapping_sum back 1))
resumed_to k back a (StoppedOn stop) = (answers.Stopped (stop_of a stop), rested k)

resumed_by_is : (k : Kernel) (back a : ℕ) (o : Outcome Guarded Cpu) → return_address k ≡ back → descriptor k ≡ a → resumed_by k (execution_by k o).0 (execution_by k o).1 ≡ resumed_to k back a o
resumed_by_is k back a (WentOn cpu g) address behind = ap (λ b. (answers.Resume g.line, returned k cpu g (wrapping_sum b 1))) address
resumed_by_is k back a (StoppedOn stop) address behind = ap (λ w. (answers.Stopped (stop_of w stop), rested k)) behind

pub resumed_is : (k : Kernel) (back a : ℕ) (form : Form) (o : Outcome Guarded Cpu) → return_address k ≡ back → descriptor k ≡ a → instruction_at (image_held k) a ≡ Some form → executed_at k a form ≡ o
    → resumed k ≡ resumed_to k back a o
unfolding resumed
resumed_is k back a form o address behind is done =
    ap (λ i. if_instruction k i (λ form. resumed_by k (execution k form).0 (execution k form).1)) (ap (instruction_at (image_held k)) behind ∙ is)
    ∙ ap (λ o. resumed_by k (execution_by k o).0 (execution_by k o).1) (executed_is k a form behind ∙ done)
    ∙ resumed_by_is k back a o address behind

pub runs_on : (k : Kernel) (a : ℕ) (form : Form) → shape_of_form a form ≢ SelfJump → RunsOn k a form
runs_on k a form apart = ap (λ b. b && not (has_bit k.mote.cpu.sreg interrupts)) (jumps_on a form apart)

pub run_there : (k : Kernel) (a : ℕ) (form : Form) (shape : TemplateShape) → instruction_at (image_held k) a ≡ Some form → shape_of_form a form ≡ shape → shape ≢ Fault → shape ≢ SelfJump
    → IsRun k a form
run_there k a form shape is same fault self = record { is = is; runs = runs_or_faults a form (λ e. fault (sym same ∙ e)); apart = runs_on k a form (λ e. self (sym same ∙ e)) }

-- the mote after the CALL at an entry's place
abbrev pub called : State → ℕ → ℕ → Kernel
called x v entry = (called_of x v entry).kernel

pub record Called (x : State) (a v entry : ℕ) : Type 0 where
  pub low : v + 3 ≤ 0xF000
  pub word : flash_word (mote_of x).flash.words (v + 2) ≡ a
  pub first : MakesPlain x true None (called_of x v entry)
  pub back : return_address (called x v entry) ≡ v + 2
  pub behind : descriptor (called x v entry) ≡ a
  pub same : SameProgram (mote_of x) (rested (called x v entry)).mote
  pub shape : shape_behind (called x v entry) ≡ shape_at (image_held x.kernel) a
  pub can : CanExecute (called x v entry)
  pub counts : CanCount (called x v entry)

pub called_by : (links : Links) (x : State) (a v entry : ℕ) (rest : List Piece) → IsSetting links x a v → template_at (image_held x.kernel) a ≡ Fixed call_word ∷ Fixed entry ∷ Fixed a ∷ rest
    → Called x a v entry
called_by links x a v entry rest s template =
    let k = x.kernel in
    let image = image_held k in
    let words = (mote_of x).flash.words in
    let three : size (template_at image a) ≡ 3 + size rest = ap size template ∙ size_three call_word entry a rest in
    let row = stretch_of links k.layout image words a v s.ready.bounded.right s.code in
    let low = row.low in
    let stands = (template_here links x a v _ s template).stands in
    let second : v + 1 + 1 ≡ v + 2 = omega arith in
    let word' : flash_word words (v + 2) ≡ a = ap (flash_word words) (sym second) ∙ stands.1.1.0 in
    let kc = called x v entry in
    let ram = k.mote.sram in
    let same : SameProgram k.mote (rested kc).mote = same_sram k.mote 0x011F entry (pushed ram (v + 2)) refl (pushed_size ram (v + 2)) (λ b apart. pushed_kept ram (v + 2) b (omega arith)) in
    let count = pushed_kept ram (v + 2) count_cell (omega arith) in
    let back : return_address kc ≡ v + 2 = pushed_address ram (v + 2) s.ready.idle.size in
    let behind : descriptor kc ≡ a = ap (flash_word words) back ∙ word' in
    let some = s.ready.idle.some in
    let most = s.ready.bounded.most in
    let polls = s.ready.bounded.polls in
    record {
      low = omega arith;
      word = word';
      first = call_move x v entry true s.ready.running s.at s.code.pool (omega arith) s.code.place stands.0 stands.1.0 s.ready.idle.top;
      back = back;
      behind = behind;
      same = same;
      shape = ap (λ w. shape_of w (instruction_at image w)) behind;
      can = record { paged = paged_after k.mote (rested kc).mote same s.ready.paged; room = omega arith };
      counts = record { some = omega arith; most = omega arith };
    }

-- so it is asked at the first move
pub asked_by : (x : State) (a v entry : ℕ) → IsIdle x.kernel → Called x a v entry → Asked x a (mote_of x).sram (v + 2) entry 0
asked_by x a v entry idle c =
    let ram = (mote_of x).sram in
    let low = c.low in
    let pointer = idle.pointer in
    record {
      few = omega arith;
      walk = (called_of x v entry, c.first, refl);
      state = record {
        low = omega arith;
        address = c.back;
        behind = c.behind;
        sees = λ pc s n. flat_same x.kernel (rested (called x v entry)) pc s n c.same;
        count = pushed_kept ram (v + 2) count_cell (omega arith);
        pointer = omega (arith, pushed_kept ram (v + 2) vsp_cell (omega arith));
        tables = λ b low high. pushed_kept ram (v + 2) b (omega arith);
        shape = c.shape;
        can = c.can;
      };
    }

pub stop_law : (links : Links) (x : State) (a v entry : ℕ) (stop : Stop) → IsSetting links x a v → Called x a v entry → CanServe (called x v entry)
    → served (called x v entry) ≡ (answers.Stopped stop, rested (called x v entry)) → ((s c : ℕ) → tried (program x.kernel) (state_at x.kernel a s c) ≡ Stops (end_of stop)) → StepLaw links x a
stop_law links x a v entry stop s c can is stops = stop_asked links x a v (mote_of x).sram (v + 2) entry 0 stop s (asked_by x a v entry s.ready.idle c) can is stops

pub bus_stops : (links : Links) (x : State) (a v entry : ℕ) (form : Form) (stop : BusStop) → IsSetting links x a v → Called x a v entry → IsRun x.kernel a form → reads_program form ≡ false
    → executed_at (called x v entry) a form ≡ StoppedOn stop → (s c : ℕ) → tried (program x.kernel) (state_at x.kernel a s c) ≡ Stops (end_of (stop_of a stop))
bus_stops links x a v entry form stop s c f reads stopped =
    bus_stops_asked x a (mote_of x).sram (v + 2) entry 0 form stop (asked_by x a v entry s.ready.idle c) f (owns_by (called x v entry) a form reads) stopped

pub resume_law : (links : Links) (x : State) (a v entry to : ℕ) (form : Form) (cpu : Cpu) (g : Guarded) → IsSetting links x a v → Called x a v entry → CanServe (called x v entry)
    → IsRun x.kernel a form → reads_program form ≡ false → executed_at (called x v entry) a form ≡ WentOn cpu g → cpu.pc ≡ to
    → served (called x v entry) ≡ (answers.Resume g.line, returned (called x v entry) cpu g (wrapping_sum (v + 2) 1))
    → (let z = resting (returned (called x v entry) cpu g (wrapping_sum (v + 2) 1)) in IsRunning z → IsIdle z.kernel
    → Onward 0 links z to (count_over x.kernel.quantum a to (byte_at (mote_of z).sram count_cell)) (is_crossing a to)) → StepLaw links x a
resume_law links x a v entry to form cpu g s c can f reads went pc answer ahead =
    resume_asked links x a v (mote_of x).sram (v + 2) entry 0 to form cpu g s (asked_by x a v entry s.ready.idle c) can f (owns_by (called x v entry) a form reads) went pc answer ahead
