-- An inline template: inside the stack window its steps make the program's step, and outside they come to the service MEM.
use Rattle.std.proofs.Common.{false, ◌≡◌, ℕ, ◌+◌, ◌-◌, ◌/◌, ◌%◌, ◌<◌, ◌≤◌, ◌∙◌, true, List, length, refl, sym, ap, arith, subst, inl, inr}
use Rattle.std.specs.Prelude.{None}
use Rattle.avr_isa.specs.Instruction.{size_of}
use Rattle.avr_isa.specs.declared.form.Form.{Form}
use Rattle.avr_isa.specs.Addresses.{wrapping_sum}
use Rattle.avr_exec.specs.Spaces.{Went as WentOn}
use Rattle.flash_words.specs.Pages.{word_at as flash_word}
use Rattle.sram_layout.specs.Bytes.{byte_at, with_byte, data_word_at, first_address}
use Rattle.sram_layout.specs.Cells.{vsp_cell, count_cell}
use Rattle.sram_layout.specs.Regions.{stack_window}
use Rattle.std.proofs.lemmas.Bool.{cases_lt}
use Rattle.kernel_entry.specs.Conditions.{CanServe}
use Rattle.heap_frames.specs.Paged.{IsPaged}
use Rattle.heap_frames.specs.SamePaging.{SamePaging}
use Rattle.heap_frames.proofs.SamePagingLaws.{paged_same}
use Rattle.mote_core.specs.declared.mote.Mote.{Mote}
use Rattle.mote_core.specs.QuietSteps.{IsQuiet, held}
use Rattle.nat_template.specs.Shapes.{shape_of}
use Rattle.nat_template.specs.Stubs.{mem_entry}
use Rattle.nat_template.proofs.Sizes.{stub_bound}
use Rattle.page_draft.specs.Standing.{size}
use Rattle.page_draft.specs.Runs.{template_at, next_of, is_closed}
use Rattle.avr_decode.specs.Program.{instruction_at}
use Rattle.flat_machine.specs.FlatMachine.{Goes, tried}
use Rattle.mem_guard.specs.Left.{IsKept}
use Rattle.mem_guard.proofs.GuardedStep.{guarded_goes}
use Rattle.kernel_entry.specs.Parts.{core_of, descriptor, memory_of, rested, return_address, image_held}
use Rattle.kernel_entry.specs.Seen.{program, state_at}
use Rattle.inline_laws.specs.InlineWays.{Passes, CanPass, Ways, placed, begun, trapped, saved_of, pointer_of}
use Rattle.inline_laws.proofs.Cells.{SameButCells, saved_of_same, pointer_of_saved, pointer_byte_of, pointer_apart}
use Rattle.step_laws.specs.Links.{Links}
use Rattle.step_laws.specs.Moves.{lines_of, plains}
use Rattle.step_laws.specs.Settings.{IsIdle, IsRunning, IsSetting}
use Rattle.step_laws.specs.States.{State, mote_of, with_mote}
use Rattle.step_laws.specs.StepLaws.{StepLaw, crossings_over}
use Rattle.step_laws.specs.Walks.{MakesPlain, WalkFrom}
use Rattle.step_laws.proofs.AskedLaw.{Asked, IsAsked, asked, owns_by}
use Rattle.step_laws.proofs.Executed.{executed_at, kept_of}
use Rattle.step_laws.proofs.InlineSeen.{core_after, memory_after, seen_alike}
use Rattle.step_laws.proofs.PlainMoves.{passes_walk, quiet_move}
use Rattle.step_laws.proofs.KernelCalls.{pushed, pushed_address, pushed_kept, pushed_size, running_at}
use Rattle.step_laws.proofs.Onward.{onward}
use Rattle.step_laws.proofs.MemService.{IsReached, served_by}
use Rattle.step_laws.proofs.PlainLaw.{keeps_mote, plains_are, works_law}
use Rattle.step_laws.proofs.Stretches.{stretch_of}
use Rattle.flat_machine.proofs.ReadLaws.{reads_program}

-- the walk of the steps, from the place of the template on
pub inline_walk : (links : Links) (x : State) (a v n more : ℕ) (last : Mote) → IsSetting links x a v → size (template_at (image_held x.kernel) a) ≡ n
    → IsQuiet (placed (mote_of x) v) (begun (mote_of x) v)
    → Passes (v + 1) (v + n) more (begun (mote_of x) v) last → WalkFrom x true None (plains more) (with_mote x last)
inline_walk links x a v n more last s is first passes =
    let m = mote_of x in
    let row = stretch_of links x.kernel.layout (image_held x.kernel) m.flash.words a v s.ready.bounded.right s.code in
    let Q : ℕ → Type 0 = λ pc. IsQuiet (held m m.cpu.r m.cpu.sreg pc m.sram) (begun m v) in
    let first' : MakesPlain x true None (with_mote x (begun m v)) = quiet_move x (begun m v) true s.ready.running (rw s.at s.code.pool) (rw s.at s.code.place) (subst Q (sym s.at) first) in
    (with_mote x (begun m v), first', passes_walk x v (size (template_at (image_held x.kernel) a)) more (begun m v) last s.ready.running row refl refl (rw is passes))

-- Inside: the steps leave these registers and bytes, which agree but for the cells with what the instruction leaves.
pub record Inside (x : State) (a v n more : ℕ) (form : Form) (r sram sram' : List ℕ) (sp : ℕ) : Type 0 where
  pub few : more ≤ 20
  pub walk : WalkFrom x true None (plains more) (with_mote x (held (mote_of x) r (mote_of x).cpu.sreg (v + n) sram'))
  pub reads : reads_program form ≡ false
  pub went : executed_at x.kernel a form ≡ WentOn (core_after x.kernel a r sp) (memory_after x.kernel sram)
  pub same : SameButCells sram sram'
  pub pointer : data_word_at sram' vsp_cell ≡ sp
  pub low : byte_at sram' vsp_cell < 256
  pub registers : length r ≡ length (mote_of x).cpu.r

-- which is the original program's step
pub inside_goes : (x : State) (a v n more : ℕ) (form : Form) (r sram sram' : List ℕ) (sp : ℕ) → Inside x a v n more form r sram sram' sp → IsPaged (mote_of x).sram (mote_of x).swap
    → IsReached x a form
    → (s c : ℕ) → tried (program x.kernel) (state_at x.kernel a s c)
    ≡ Goes None (state_at (with_mote x (held (mote_of x) r (mote_of x).cpu.sreg (v + n) sram')).kernel (wrapping_sum a 1) (s + 1) (crossings_over a (wrapping_sum a 1) c))
inside_goes x a v n more form r sram sram' sp f paged g s c =
    let k = x.kernel in
    let y = with_mote x (held (mote_of x) r (mote_of x).cpu.sreg (v + n) sram') in
    guarded_goes _ _ (memory_of k) (memory_after k sram) (core_of k a) (core_after k a r sp) s c form paged refl g.is g.runs (owns_by k a form f.reads) g.apart f.went
    ∙ ap (Goes None) (sym (seen_alike k y.kernel sram sp (wrapping_sum a 1) (s + 1) (crossings_over a (wrapping_sum a 1) c) f.pointer f.same.size (λ b from. f.same.bytes b (omega arith)) refl refl))

pub inside_law : (links : Links) (x : State) (a v n more : ℕ) (form : Form) (r sram sram' : List ℕ) (sp : ℕ) → IsSetting links x a v → Inside x a v n more form r sram sram' sp → IsReached x a form
    → wrapping_sum a 1 ≡ next_of (image_held x.kernel) a → size (template_at (image_held x.kernel) a) ≡ n → 1 ≤ n → StepLaw links x a
unfolding lines_of
inside_law links x a v n more form r sram sram' sp s f g next width some =
    let k = x.kernel in
    let m = mote_of x in
    let image = image_held k in
    let y = with_mote x (held m r m.cpu.sreg (v + n) sram') in
    let kept : IsKept (memory_of k) (memory_after k sram) = kept_of k a form (core_after k a r sp) (memory_after k sram) s.ready.paged f.went in
    let paging : SamePaging sram sram' = record { size = f.same.size; cells = λ b from to. f.same.bytes b (omega arith); tables = λ b from to. f.same.bytes b (omega arith) } in
    let paged : IsPaged sram' m.swap = paged_same sram sram' m.swap paging kept.paged in
    let count : byte_at sram' count_cell ≡ byte_at m.sram count_cell = f.same.front count_cell (omega arith) (omega arith) ∙ kept.cells count_cell (omega arith) (omega arith) in
    let registers = s.ready.idle.registers in
    let positive = s.ready.idle.some in
    let most = s.ready.idle.most in
    let registers' = f.registers in
    let fit : IsIdle y.kernel = record { registers = omega arith; size = f.same.size ∙ kept.paged.sized.sram; pointer = f.low; top = s.ready.idle.top; some = omega arith; most = omega arith } in
    let free : IsRunning y = running_at x _ _ s.ready.running in
    let bound = stub_bound a (next_of image a) in
    let there : v + n ≡ v + size (template_at image a) = ap (λ i. v + i) (sym width) in
    let on = onward links y image a v free fit s.ready.bounded.right s.code (omega arith) (omega arith) (ap is_closed g.shape) there in
    let plain = plains_are more in
    works_law links x a (next_of image a) None None (plains more) y 0 (let few = f.few in omega (arith, plain.0)) (record {
      walk = f.walk;
      told = plain.3;
      stops = plain.2;
      serves = omega (arith, plain.1);
      keeps = keeps_mote x y refl refl refl paged registers' s.ready.idle.top (omega arith) (λ b low high. f.same.bytes b (omega arith) ∙ kept.tables b (omega arith) high) f.low;
      polls = omega arith;
      count = count;
      goes = rw next at (inside_goes x a v n more form r sram sram' sp f s.ready.paged g);
    }) on

pointer_pushed : (ram : List ℕ) (back : ℕ) → data_word_at (pushed ram back) vsp_cell ≡ data_word_at ram vsp_cell
pointer_pushed ram back = pointer_apart (with_byte ram 0x011F (back % 256)) 0x011E (back / 256) (omega arith) ∙ pointer_apart ram 0x011F (back % 256) (omega arith)

-- outside: MEM is asked at the trap, whose last word is the template's
pub trap_asks : (links : Links) (x : State) (a v n : ℕ) → IsSetting links x a v → CanPass (mote_of x) v → size (template_at (image_held x.kernel) a) ≡ n + 1
    → flash_word (mote_of x).flash.words (v + n) ≡ a
    → IsAsked x a (saved_of (mote_of x)) (v + n) mem_entry
trap_asks links x a v n s can width word =
    let k = x.kernel in
    let m = mote_of x in
    let image = image_held k in
    let ram = saved_of m in
    let back = v + n in
    let kc = asked x ram back mem_entry in
    let low = (stretch_of links k.layout image m.flash.words a v s.ready.bounded.right s.code).low in
    let same : SameButCells m.sram ram = saved_of_same m in
    let bytes : (b : ℕ) → 0x0120 ≤ b → byte_at (pushed ram back) b ≡ byte_at m.sram b = λ b from. pushed_kept ram back b (omega arith) ∙ same.bytes b (omega arith) in
    let size' : length (pushed ram back) ≡ length m.sram = pushed_size ram back ∙ same.size in
    let address : return_address kc ≡ back = pushed_address ram back (same.size ∙ can.size) in
    let behind : descriptor kc ≡ a = ap (flash_word m.flash.words) address ∙ word in
    let paging : SamePaging m.sram (pushed ram back) = record { size = size'; cells = λ b from to. bytes b from; tables = λ b from to. bytes b (omega arith) } in
    let pointer : data_word_at (pushed ram back) vsp_cell ≡ pointer_of m = pointer_pushed ram back ∙ pointer_of_saved m in
    record {
      low = omega arith;
      address = address;
      behind = behind;
      sees = λ pc steps c. seen_alike k (rested kc) m.sram (pointer_of m) pc steps c pointer size' bytes refl refl;
      count = pushed_kept ram back count_cell (omega arith) ∙ same.front count_cell (omega arith) (omega arith);
      pointer = omega (arith, pushed_kept ram back vsp_cell (omega arith), pointer_byte_of m vsp_cell (omega arith));
      tables = λ b from to. bytes b (omega arith);
      shape = ap (λ w. shape_of w (instruction_at image w)) behind;
      can = record { paged = paged_same m.sram (pushed ram back) m.swap paging s.ready.paged; room = omega arith };
    }

-- An inline template of n + 1 words that reaches this address: its ways, and what it does inside the window.
pub record IsInline (x : State) (a v n address steps lower upper : ℕ) (form : Form) (r sram sram' : List ℕ) (sp : ℕ) : Type 0 where
  pub ways : Ways (mote_of x) v (n + 1) address steps lower upper r sram'
  pub width : size (template_at (image_held x.kernel) a) ≡ n + 1
  pub word_there : flash_word (mote_of x).flash.words (v + n) ≡ a
  pub one : size_of form ≡ 1
  pub reads : reads_program form ≡ false
  pub few : (steps ≤ 20) × (lower ≤ 20) × (upper ≤ 20)
  pub went : stack_window.first ≤ address → address < stack_window.behind → executed_at x.kernel a form ≡ WentOn (core_after x.kernel a r sp) (memory_after x.kernel sram)
  pub same : stack_window.first ≤ address → address < stack_window.behind → SameButCells sram sram'
  pub pointer : 0x0D00 ≤ address → data_word_at sram' vsp_cell ≡ sp
  pub low : 0x0D00 ≤ address → byte_at sram' vsp_cell < 256
  pub registers : length r ≡ length (mote_of x).cpu.r
  pub others : 0x0D00 ≤ address → (b : ℕ) → first_address ≤ b → b < 0x0D00 → byte_at sram b ≡ byte_at (mote_of x).sram b

pub can_pass : (links : Links) (x : State) (a v : ℕ) → IsSetting links x a v → CanPass (mote_of x) v
can_pass links x a v s =
    record { registers = s.ready.idle.registers; size = s.ready.idle.size; pointer = s.ready.idle.pointer; top = s.ready.idle.top; room = omega arith }

-- inside the window, and outside it
pub inside_of : (links : Links) (x : State) (a v n address steps lower upper : ℕ) (form : Form) (r sram sram' : List ℕ) (sp : ℕ) → IsSetting links x a v
    → IsInline x a v n address steps lower upper form r sram sram' sp
    → stack_window.first ≤ address → address < stack_window.behind → Inside x a v (n + 1) steps form r sram sram' sp
inside_of links x a v n address steps lower upper form r sram sram' sp s t from to = record {
  few = t.few.0;
  walk = inline_walk links x a v (n + 1) steps (held (mote_of x) r (mote_of x).cpu.sreg (v + (n + 1)) sram') s t.width t.ways.first (t.ways.inside from to);
  reads = t.reads;
  went = t.went from to;
  same = t.same from to;
  pointer = t.pointer from;
  low = t.low from;
  registers = t.registers;
}

pub outside_of : (links : Links) (x : State) (a v n more : ℕ) → IsSetting links x a v → size (template_at (image_held x.kernel) a) ≡ n + 1 → flash_word (mote_of x).flash.words (v + n) ≡ a → more ≤ 20
    → IsQuiet (placed (mote_of x) v) (begun (mote_of x) v) → Passes (v + 1) (v + (n + 1)) more (begun (mote_of x) v) (trapped (mote_of x) (v + (n + 1) - 1) (saved_of (mote_of x)))
    → Asked x a (saved_of (mote_of x)) (v + n) mem_entry more
outside_of links x a v n more s width word few first passes =
    let m = mote_of x in
    let W : ℕ → Type 0 = λ back. WalkFrom x true None (plains more) (with_mote x (trapped m back (saved_of m))) in
    record {
      few = few;
      walk = subst W (omega arith) (inline_walk links x a v (n + 1) more (trapped m (v + (n + 1) - 1) (saved_of m)) s width first passes);
      state = trap_asks links x a v n s (can_pass links x a v s) width word;
    }

pub inline_law : (links : Links) (x : State) (a v n address steps lower upper : ℕ) (form : Form) (r sram sram' : List ℕ) (sp : ℕ) → IsSetting links x a v → IsReached x a form
    → IsInline x a v n address steps lower upper form r sram sram' sp → StepLaw links x a
inline_law links x a v n address steps lower upper form r sram sram' sp s f t =
    let outside : (more : ℕ) → more ≤ 20 → Passes (v + 1) (v + (n + 1)) more (begun (mote_of x) v) (trapped (mote_of x) (v + (n + 1) - 1) (saved_of (mote_of x))) → StepLaw links x a =
    λ more few passes.
    let c = outside_of links x a v n more s t.width t.word_there few t.ways.first passes in
    served_by links x a v (saved_of (mote_of x)) (v + n) more form s c (CanServe.AtMem refl (c.state.shape ∙ f.shape) c.state.can) f (let width = t.width in omega arith) in
    elim (cases_lt address stack_window.first) [
      | inl under ↦ outside lower t.few.1 (t.ways.below under)
      | inr from ↦ elim (cases_lt address stack_window.behind) [
        | inl to ↦ inside_law links x a v (n + 1) steps form r sram sram' sp s
            (inside_of links x a v n address steps lower upper form r sram sram' sp s t from to)
            f (ap (wrapping_sum a) (sym t.one) ∙ f.next) t.width (omega arith)
        | inr over ↦ outside upper t.few.2 (t.ways.above over)
      ]
    ]
