-- An instruction that stands as it is.
use Rattle.std.proofs.Common.{◌%◌, [], ℕ, ◌≡◌, ◌+◌, ◌<◌, ◌≤◌, ◌∷◌, ◌∙◌, true, false, length, refl, sym, ap, ap₂, arith, subst}
use Rattle.std.specs.Prelude.{if◌then◌else◌, ◌&&◌, Option, Some, None, not}
use Rattle.avr_isa.specs.Image.{word}
use Rattle.avr_isa.specs.declared.form.Form.{Form}
use Rattle.avr_exec.specs.declared.cpu.Cpu.{Cpu}
use Rattle.avr_isa.specs.Addresses.{wrapping_sum}
use Rattle.avr_exec.specs.Asks.{ask_of, finish_of}
use Rattle.avr_exec.specs.Execution.{answered_by, exec_of}
use Rattle.avr_exec.specs.Spaces.{Outcome, Went as WentOn}
use Rattle.avr_exec.specs.Likeness.{placed}
use Rattle.avr_exec.proofs.OneAnswer.{exec_went}
use Rattle.avr_exec.proofs.OtherPlace.{exec_straight, ask_of_straight}
use Rattle.mote_devices.specs.declared.line.Line.{Line}
use Rattle.mote_devices.specs.State.{State as Devices}
use Rattle.mote_core.specs.declared.mote.Mote.{Mote}
use Rattle.mote_core.specs.Physical.{Physical, physical_calls}
use Rattle.std.specs.Option.{option_map}
use Rattle.sram_layout.specs.Bytes.{data_word_at as cell_at}
use Rattle.sram_layout.specs.Cells.{vsp_cell}
use Rattle.mote_core.specs.declared.mote.Plain.{Plain}
use Rattle.mote_core.specs.declared.mote.Plain.TheVariants as shown
use Rattle.mote_core.specs.Conditions.{can_step, is_device_ask}
use Rattle.mote_core.specs.Shown.{line_shown}
use Rattle.mote_core.specs.Step.{space_of, stepped, IsPlainStep, next_size as mote_next_size, form_at as form_at_mote}
use Rattle.avr_decode.specs.Decoding.{the_form, is_long}
use Rattle.decode_laws.proofs.Lengths.{the_form-second, the_form-size}
use Rattle.avr_flags.specs.Status.{has_bit, interrupts}
use Rattle.flash_words.specs.Pages.{word_at}
use Rattle.heap_frames.specs.Frames.{pages}
use Rattle.heap_frames.specs.Memory.{vmem}
use Rattle.nat_template.specs.declared.piece.Piece.TheVariants.{Fixed}
use Rattle.nat_template.specs.Templates.{template_by}
use Rattle.nat_template.proofs.Sizes.{native_size, stub_bound}
use Rattle.page_draft.specs.Standing.{size}
use Rattle.page_draft.specs.Runs.{template_at, size_at, next_of, is_closed}
use Rattle.flat_machine.specs.FlatMachine.{Goes, tried, next_size}
use Rattle.mem_guard.proofs.GuardedStep.{guarded_goes}
use Rattle.kernel_entry.specs.declared.kernel.Kernel.{Kernel}
use Rattle.mem_guard.specs.Guarded.{guarded_calls, Guarded}
use Rattle.nat_template.specs.declared.shapes.TemplateShape.TheVariants.{Native}
use Rattle.nat_template.specs.Shapes.{shape_of_form}
use Rattle.step_laws.proofs.Stretches.{template_here, stretch_of}
use Rattle.step_laws.specs.States.{with_mote}
use Rattle.step_laws.specs.Settings.{IsIdle}
use Rattle.step_laws.proofs.NativeForms.{IsNative, native_form}
use Rattle.step_laws.specs.Walks.{MakesPlain}
use Rattle.step_laws.specs.StepLaws.{crossings_over, ShapeLaw}
use Rattle.avr_exec.proofs.RegistersKept.{exec_kept}
use Rattle.step_laws.proofs.CodeLaws.{form_of_shape, one_by, setting_short, image_words, by_shape}
use Rattle.step_laws.specs.Moves.{lines_of}
use Rattle.step_laws.proofs.Onward.{onward}
use Rattle.step_laws.proofs.PlainLaw.{keeps_core, works_law}
use Rattle.step_laws.proofs.Executed.{straight_goes}
use Rattle.avr_decode.specs.Program.{instruction_at}
use Rattle.kernel_entry.specs.Parts.{core_of, memory_of, image_held}
use Rattle.step_laws.proofs.DeviceAnswers.{answers_alike}
use Rattle.mote_core.proofs.DeviceAsks.{can_step_device}
use Rattle.mote_core.proofs.StepsByAnswer.{keeps_same}
use Rattle.mote_core.specs.QuietSteps.{KeepsKernel}
use Rattle.kernel_entry.specs.Seen.{program, state_at}
use Rattle.step_laws.proofs.AskedLaw.{device_owns}

-- what a plain step shows for this line
abbrev shown_of : Option Line → Plain
shown_of None = shown.Went
shown_of (Some line) = shown.Wrote line

one_word : (a : ℕ) (form : Form) (first second : ℕ) → first < 65536 → the_form first second ≡ Some form → shape_of_form a form ≡ Native → is_long first ≡ false
one_word a form first second fits is shape = one_by (is_long first) (sym (the_form-size first second form fits is) ∙ native_size a form shape)

-- the same core at the place of the rewritten code
pub record Executes (k : Kernel) (a v : ℕ) (form : Form) : Type 0 where
  pub cpu : Cpu
  pub devices : Devices
  pub line : Option Line
  pub next : Mote
  pub can : can_step (form_at_mote k.mote) k.mote.cpu ≡ true
  pub step : IsPlainStep k.mote (shown_of line) next
  pub after : next ≡ record k.mote { cpu = placed cpu (wrapping_sum v 1) 0x011F; devices = devices }
  pub original : exec_of guarded_calls form (core_of k a) (memory_of k) (next_size (image_held k) a) ≡ WentOn cpu (record (memory_of k) { devices = devices; line = line })
  pub pc : cpu.pc ≡ wrapping_sum a 1
  pub sp : cpu.sp ≡ cell_at k.mote.sram vsp_cell
  pub polls : devices.polls ≤ k.mote.devices.polls + 1

-- pc and SP of a core that an instruction leaves
core_left : {S : Type 0} (cpu core : Cpu) (g : S) (p q : ℕ) (o : Outcome S Cpu) → o ≡ answered_by (λ t. placed t p q) o → o ≡ WentOn cpu g → (cpu.pc ≡ p) × (cpu.sp ≡ q)
core_left cpu core g p q o same is =
    let one : cpu ≡ placed cpu p q = cc in
    (ap (λ (c : Cpu). c.pc) one, ap (λ (c : Cpu). c.sp) one)

line_of_shown : (line : Option Line) → line_shown (shown_of line) ≡ line
line_of_shown None = refl
line_of_shown (Some l) = refl

pub executes : (k : Kernel) (a v : ℕ) (form : Form) → k.mote.cpu.pc ≡ v → k.mote.cpu.sp ≡ 0x011F → form_at_mote k.mote ≡ Some form → IsNative form (core_of k a) → Executes k a v form
unfolding can_step stepped
executes k a v form at top is native =
    let m = k.mote in
    let core = core_of k a in
    let n = next_size (image_held k) a in
    let ag = answers_alike m.flash.words (memory_of k) (ask_of form core) native.asks in
    let cpu = finish_of form core n ag.answer in
    let space : Physical = record (space_of m None) { devices = ag.devices; line = ag.line } in
    let here : m.cpu ≡ placed core v 0x011F = ap₂ (λ p s. record m.cpu { pc = p; sp = s }) at top in
    let phys : exec_of physical_calls form core (space_of m None) n ≡ WentOn cpu space = exec_went physical_calls form core (space_of m None) n ag.answer space ag.physical in
    let moved : exec_of physical_calls form m.cpu (space_of m None) (mote_next_size m) ≡ WentOn (placed cpu (wrapping_sum v 1) 0x011F) space =
    ap (λ c. exec_of physical_calls form c (space_of m None) (mote_next_size m)) here ∙ exec_straight physical_calls form core (space_of m None) n (mote_next_size m) v 0x011F native.straight
    ∙ ap (answered_by (λ t. placed t (wrapping_sum v 1) 0x011F)) phys in
    let g : Guarded = record (memory_of k) { devices = ag.devices; line = ag.line } in
    let orig : exec_of guarded_calls form core (memory_of k) n ≡ WentOn cpu g = exec_went guarded_calls form core (memory_of k) n ag.answer g ag.guarded in
    let left = core_left cpu core g (wrapping_sum a 1) core.sp _ (exec_straight guarded_calls form core (memory_of k) n n a core.sp native.straight) orig in
    let next : Mote = record m { cpu = placed cpu (wrapping_sum v 1) 0x011F; devices = ag.devices } in
    let asks' : ask_of form m.cpu ≡ ask_of form core = ap (ask_of form) here ∙ ask_of_straight form core v (λ _. 0x011F) native.straight in
    record {
      cpu = cpu;
      devices = ag.devices;
      line = ag.line;
      next = next;
      can = can_step_device (form_at_mote m) form m.cpu is native.runs (ap is_device_ask asks' ∙ native.asks);
      step = record {
        executed = ap (option_map (λ (f : Form). exec_of physical_calls f m.cpu (space_of m None) (mote_next_size m))) is
            ∙ ap Some (moved ∙ ap (λ l. WentOn (placed cpu (wrapping_sum v 1) 0x011F) (record (space_of m None) { devices = ag.devices; line = l })) (sym (line_of_shown ag.line)));
        flash = refl;
        swap = refl;
      };
      after = refl;
      original = orig;
      pc = left.0;
      sp = left.1;
      polls = ag.polls;
    }

-- and on behind it
pub native_law : ShapeLaw Native
unfolding template_by lines_of
native_law links x a v s shape =
    let free = s.ready.running in
    let fit = s.ready.idle in
    let set = s.ready.bounded in
    let paged = s.ready.paged in
    let at = s.at in
    let code = s.code in
    let k = x.kernel in
    let m = k.mote in
    let image = image_held k in
    let words = m.flash.words in
    let some = form_of_shape Native a (instruction_at image a) shape (λ e. cc) in
    let form : Form = some.0 in
    let inside = code.inside in
    let short = setting_short x s.ready.bounded.right in
    let instr : instruction_at image a ≡ Some form = some.1 in
    let native = native_form a form (core_of k a) some.2 in
    let template : template_at image a ≡ Fixed (word image a) ∷ [] = by_shape image a _ shape in
    let stands = (template_here links x a v _ s template).stands in
    let one : size (template_at image a) ≡ 1 = ap size template in
    let row = stretch_of links k.layout image words a v s.ready.bounded.right code in
    let low = row.low in
    let short' : is_long (word image a) ≡ false = one_word a form (word image a) (word image ((a + 1) % 65536)) (image_words k set a) some.1 some.2 in
    let there : wrapping_sum m.cpu.pc 1 ≡ m.cpu.pc + 1 = omega arith in
    let is : form_at_mote m ≡ Some form = ap (λ w. the_form w (word_at words (wrapping_sum m.cpu.pc 1))) (ap (word_at words) at ∙ stands.0)
    ∙ the_form-second (word image a) (word_at words (wrapping_sum m.cpu.pc 1)) (word image ((a + 1) % 65536)) short' ∙ some.1 in
    let e = executes k a v form at fit.top is native in
    let y = with_mote x (record m { cpu = placed e.cpu (wrapping_sum v 1) 0x011F; devices = e.devices }) in
    let room = set.polls in
    let polls = e.polls in
    let first : MakesPlain x true e.line y = record {
      free = free.free;
      going = free.going;
      pool = rw at code.pool;
      starts = rw at code.place;
      can = e.can;
      room = free.room;
      shown = shown_of e.line;
      next = e.next;
      step = e.step;
      written = line_of_shown e.line;
      kept = subst (λ (n : Mote). KeepsKernel m.sram n.sram) (sym e.after) (keeps_same m.sram);
      result = ap (with_mote x) (sym e.after);
    } in
    let registers : length e.cpu.r ≡ length m.cpu.r = exec_kept guarded_calls form (core_of k a) e.cpu (memory_of k) _ (next_size image a) e.original in
    let some' = fit.registers in
    let fit' : IsIdle y.kernel = record { registers = omega arith; size = fit.size; pointer = fit.pointer; top = refl; some = fit.some; most = fit.most } in
    let behind : wrapping_sum v 1 ≡ v + size (template_at image a) = omega arith in
    let on = onward links y image a v (record { free = free.free; going = free.going; room = omega arith }) fit' s.ready.bounded.right code (omega arith)
    (let b = stub_bound a (next_of image a) in omega arith) (ap is_closed shape) behind in
    let long : size_at image a ≡ 1 = ap (λ b. if b then 2 else 1) short' in
    let next : e.cpu.pc ≡ next_of image a = e.pc ∙ omega arith in
    let goes : (s c : ℕ) → tried (program k) (state_at k a s c) ≡ Goes e.line (state_at y.kernel (next_of image a) (s + 1) (crossings_over a (next_of image a) c)) = λ s c.
    guarded_goes _ _ (memory_of k) (record (memory_of k) { devices = e.devices; line = e.line }) (core_of k a) e.cpu s c form paged refl instr native.runs (device_owns k a form native.asks)
    (ap (λ b. b && not (has_bit m.cpu.sreg interrupts)) (straight_goes a form native.transfer)) e.original
    ∙ ap₂ (λ p q. Goes e.line (record {
      cpu = record { r = e.cpu.r; sreg = e.cpu.sreg; sp = q; pc = p };
      memory = vmem m.sram m.swap;
      devices = e.devices;
      pages = pages m.sram;
      steps = s + 1;
      crossings = crossings_over a p c;
    })) next e.sp in
    works_law links x a (next_of image a) e.line e.line [] y 0 (omega arith) (record {
      walk = (y, first, refl);
      told = refl;
      stops = refl;
      serves = omega arith;
      keeps = keeps_core x (placed e.cpu (wrapping_sum v 1) 0x011F) e.devices s.ready registers refl e.polls;
      polls = e.polls;
      count = refl;
      goes = goes;
    }) on
