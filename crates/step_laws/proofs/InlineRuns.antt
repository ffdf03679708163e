-- What an inline template does, step by step: the program's step, as MEM makes it, or the call of MEM.
use Rattle.std.proofs.Common.{◌≡◌, ℕ, suc, ◌+◌, ◌-◌, ◌≤◌, ◌∙◌, Bool, true, false, List, refl, sym, ap, ap₂, arith, subst}
use Rattle.std.specs.Prelude.{◌≢◌, if◌then◌else◌, Option, Some, None}
use Rattle.avr_isa.specs.declared.form.Form.{Form}
use Rattle.avr_isa.specs.declared.form.Form.TheVariants as forms
use Rattle.avr_isa.specs.declared.operation.Base.TheVariants.{Y}
use Rattle.avr_decode.specs.Program.{instruction_at}
use Rattle.avr_exec.specs.declared.cpu.Cpu.{Cpu}
use Rattle.avr_isa.specs.Addresses.{wrapping_sum}
use Rattle.avr_exec.specs.Execution.{is_executed}
use Rattle.avr_exec.specs.Spaces.{Outcome, Went as WentOn, Stopped as StoppedOn}
use Rattle.heap_frames.specs.Paged.{IsPaged}
use Rattle.mote_core.specs.QuietSteps.{held}
use Rattle.nat_template.specs.declared.shapes.TemplateShape.TheVariants.{Mem, SelfJump}
use Rattle.nat_template.specs.Shapes.{shape_of, shape_of_form}
use Rattle.nat_template.specs.Inline.{push_forms, pop_forms, load_forms, store_forms}
use Rattle.nat_template.specs.Stubs.{mem_entry}
use Rattle.nat_template.specs.Templates.{is_z, mem_pieces, mem_or}
use Rattle.page_draft.specs.Runs.{shape_at}
use Rattle.flat_machine.specs.FlatMachine.{FlatState, Goes, tried}
use Rattle.mem_guard.specs.Guarded.{Guarded, state_of}
use Rattle.mem_guard.proofs.GuardedStep.{guarded_goes, guarded_stops}
use Rattle.kernel_entry.specs.declared.kernel.Kernel.{Kernel}
use Rattle.kernel_entry.specs.declared.kernel.Served.TheVariants as answers
use Rattle.kernel_entry.specs.Conditions.{CanServe}
use Rattle.kernel_entry.specs.Parts.{core_of, descriptor, memory_of, return_address, image_held}
use Rattle.kernel_entry.specs.Seen.{program, state_at}
use Rattle.kernel_entry.specs.Services.{foreign_read, served, served_at}
use Rattle.inline_laws.specs.InlineWays.{Passes, begun, trapped, saved_of}
use Rattle.inline_laws.proofs.Cells.{saved_of_same}
use Rattle.step_laws.specs.Moves.{plains}
use Rattle.step_laws.specs.Walks.{Walk, WalkFrom}
use Rattle.step_laws.proofs.Ways.{walk_of}
use Rattle.step_laws.specs.InlineLaws.{Inline, inline_of, plain_moves, IsAsMem, AsksMem, CallsMem, HasInlineRun, RunInline}
use Rattle.step_laws.specs.Links.{Links}
use Rattle.step_laws.specs.Settings.{IsSetting}
use Rattle.step_laws.specs.States.{State, mote_of, with_mote}
use Rattle.step_laws.specs.StepLaws.{tried_at, crossings_over, links_at}
use Rattle.step_laws.proofs.AskedLaw.{IsAsked, RunsOn, Owns, foreign_at, foreign_is, accessed_own, asked, resumed_is, runs_on}
use Rattle.flat_machine.proofs.MachineLaws.{tried_read}
use Rattle.step_laws.proofs.EveryShape.{entry_setting}
use Rattle.step_laws.proofs.Executed.{executed_at, flat_put, kept_of, returned}
use Rattle.step_laws.proofs.InlineLaw.{IsInline, can_pass, inside_goes, inside_of, outside_of, trap_asks}
use Rattle.step_laws.proofs.MemLaw.{push_inline, pop_inline, load_inline, store_inline}
use Rattle.step_laws.proofs.KernelCalls.{pushed_kept}
use Rattle.step_laws.proofs.MemService.{IsReached, reached_by, mem_template}

-- the heap is in order where MEM may be asked
paged_at : (k : Kernel) → CanServe k → k.mote.cpu.pc ≡ mem_entry → IsPaged k.mote.sram k.mote.swap
paged_at k (CanServe.AtBridge at) is = absurd (omega arith)
paged_at k (CanServe.AtQuantum at) is = absurd (omega arith)
paged_at k (CanServe.AtMem at shape can) is = can.paged
paged_at k (CanServe.AtPushReturn at shape can) is = can.paged
paged_at k (CanServe.AtReturn at shape can counts) is = can.paged
paged_at k (CanServe.AtIndirect at shape can counts) is = can.paged
paged_at k (CanServe.AtSelf at shape can counts) is = can.paged
paged_at k (CanServe.AtFault at shape can) is = absurd (omega arith)

-- MEM's answer, by what the execution comes to
mem_executes : (k : Kernel) (a to : ℕ) (form : Form) (end : Kernel) (crossings : ℕ) (o : Outcome Guarded Cpu) → executed_at k a form ≡ o → IsPaged k.mote.sram k.mote.swap → k.mote.cpu.pc ≡ mem_entry
    → descriptor k ≡ a
    → instruction_at (image_held k) a ≡ Some form → is_executed form ≡ true → foreign_read k ≡ None → Owns k a form → RunsOn k a form
    → tried (program k) (state_at k a 0 0) ≡ Goes None (state_at end to 1 crossings)
    → ((served k).0 ≡ answers.Resume None) × ((s c : ℕ) → state_at (served k).1 to s c ≡ state_at end to s c)
unfolding served
mem_executes k a to form end crossings (WentOn cpu g) done paged at behind is runs none own apart goes =
    let tries = guarded_goes _ _ (memory_of k) g (core_of k a) cpu 0 0 form paged refl is runs own apart done in
    let both = sym tries ∙ goes in
    let silent : g.line ≡ None = cc in
    let same : state_of g cpu 1 (crossings_over a cpu.pc 0) ≡ state_at end to 1 crossings = cc in
    let there : cpu.pc ≡ to = ap (λ (f : FlatState). f.cpu.pc) same in
    let k' = returned k cpu g (wrapping_sum (return_address k) 1) in
    let size = (kept_of k a form cpu g paged done).paged.sized.sram in
    let answer : served k ≡ (answers.Resume g.line, k') = ap (λ pc. served_at pc k) at ∙ accessed_own k none ∙ resumed_is k (return_address k) a form (WentOn cpu g) refl behind is done in
    let P : ℕ → Type 0 = λ pc. (s c : ℕ) → state_at k' pc s c ≡ state_at end to s c in
    let sees : P cpu.pc = λ s c. flat_put k cpu g (wrapping_sum (return_address k) 1) s c size ∙ ap (λ (f : FlatState). record f { steps = s; crossings = c }) same in
    (ap (λ o. o.0) answer ∙ ap (λ l. answers.Resume l) silent, λ s c. ap (λ o. state_at o.1 to s c) answer ∙ subst P there sees s c)
mem_executes k a to form end crossings (StoppedOn stop) done paged at behind is runs none own apart goes =
    let both = sym (guarded_stops _ _ (memory_of k) (core_of k a) 0 0 form stop paged refl is runs own apart done) ∙ goes in
    absurd (cc)

-- it executes, since the original program goes on
mem_goes : (k : Kernel) (a to : ℕ) (form : Form) (end : Kernel) (crossings : ℕ) (foreign : Option ℕ) → foreign_at k a form ≡ foreign → IsPaged k.mote.sram k.mote.swap → k.mote.cpu.pc ≡ mem_entry
    → descriptor k ≡ a
    → instruction_at (image_held k) a ≡ Some form → is_executed form ≡ true → RunsOn k a form → tried (program k) (state_at k a 0 0) ≡ Goes None (state_at end to 1 crossings)
    → ((served k).0 ≡ answers.Resume None) × ((s c : ℕ) → state_at (served k).1 to s c ≡ state_at end to s c)
mem_goes k a to form end crossings None none paged at behind is runs apart goes =
    mem_executes k a to form end crossings _ refl paged at behind is runs (foreign_is k a form behind is ∙ none) none apart goes
mem_goes k a to form end crossings (Some w) foreign paged at behind is runs apart goes =
    let both = sym (tried_read (program k) (state_at k a 0 0) form w is runs foreign) ∙ goes in
    absurd (cc)

as_mem : (x : State) (a to : ℕ) (form : Form) (end : Kernel) → IsReached x a form → ((s c : ℕ) → tried_at x a s c ≡ Goes None (state_at end to (s + 1) (crossings_over a to c))) → IsAsMem x a to end
as_mem x a to form end f original k asks =
    let image : image_held k ≡ image_held x.kernel = ap (λ p. p.image) asks.same in
    let apart : shape_of_form a form ≢ SelfJump = λ e. let e' = sym (sym (ap (shape_of a) f.is) ∙ f.shape) ∙ e in cc in
    mem_goes k a to form end (crossings_over a to 0) _ refl (paged_at k asks.can asks.at) asks.at asks.address (ap (λ i. instruction_at i a) image ∙ f.is) f.runs (runs_on k a form apart)
    (ap₂ (λ p s. tried p s) asks.same (asks.sees a 0 0) ∙ original 0 0)

-- MEM is asked at the trap
trap_asks_mem : (x : State) (a back : ℕ) (ram : List ℕ) → IsAsked x a ram back mem_entry → shape_at (image_held x.kernel) a ≡ Mem → AsksMem x a (asked x ram back mem_entry)
trap_asks_mem x a back ram c shape = record { at = refl; can = CanServe.AtMem refl (c.shape ∙ shape) c.can; address = c.behind; same = refl; sees = c.sees }

-- the walk of a step as moves
step_walk : (x z : State) (more : ℕ) → WalkFrom x true None (plains more) z → Walk x (plain_moves (suc more)) z
step_walk x z more walk = (walk.0, walk.1, walk_of walk.0 z (plains more) walk.2)

-- the ways through a template
runs_of : (links : Links) (x : State) (a v n address steps lower upper : ℕ) (form : Form) (r sram sram' : List ℕ) (sp : ℕ) → IsSetting links x a v → IsReached x a form
    → IsInline x a v n address steps lower upper form r sram sram' sp
    → HasInlineRun x a (record { words = n + 1; address = address; inside = suc steps; below = suc lower; above = suc upper })
runs_of links x a v n address steps lower upper form r sram sram' sp s f t =
    let m = mote_of x in
    let trap = trap_asks links x a v n s (can_pass links x a v s) t.width t.word_there in
    let saves = saved_of_same m in
    let calls : (more : ℕ) → more ≤ 20 → Passes (v + 1) (v + (n + 1)) more (begun m v) (trapped m (v + (n + 1) - 1) (saved_of m)) → CallsMem x a (n + 1) (suc more) = λ more few passes. record {
      end = trapped m (v + n) (saved_of m);
      walk = step_walk x _ more (outside_of links x a v n more s t.width t.word_there few t.ways.first passes).walk;
      asks = trap_asks_mem x a (v + n) (saved_of m) trap f.shape;
      called = omega (arith, trap.address, s.at);
      leaves = record {
        flash = refl;
        swap = refl;
        devices = refl;
        front = λ b from to. pushed_kept (saved_of m) (v + n) b (omega arith) ∙ saves.front b from to;
        bytes = λ b from to. pushed_kept (saved_of m) (v + n) b (omega arith) ∙ saves.bytes b from;
        heap = λ b from to. pushed_kept (saved_of m) (v + n) b (omega arith) ∙ saves.bytes b (omega arith);
      };
    } in
    record {
      inside = λ from to.
          let i = inside_of links x a v n address steps lower upper form r sram sram' sp s t from to in
          let goes = inside_goes x a v (n + 1) steps form r sram sram' sp i s.ready.paged f in
          let end = held m r m.cpu.sreg (v + (n + 1)) sram' in
          record {
            end = end;
            walk = step_walk x _ steps i.walk;
            behind = ap (λ pc. pc + (n + 1)) (sym s.at);
            top = s.ready.idle.top;
            stack = λ b low high. i.same.bytes b (omega arith) ∙ t.others from b (omega arith) (omega arith);
            original = goes;
            service = as_mem x a (wrapping_sum a 1) form (with_mote x end).kernel f goes;
            asker = (asked x (saved_of m) (v + n) mem_entry, trap_asks_mem x a (v + n) (saved_of m) trap f.shape);
            leaves = record {
              flash = refl;
              swap = refl;
              devices = refl;
              front = λ b low high. i.same.front b low high ∙ t.others from b low (omega arith);
              bytes = λ b low high. i.same.bytes b low ∙ t.others from b (omega arith) (omega arith);
              heap = λ b low high. i.same.bytes b (omega arith) ∙ t.others from b (omega arith) high;
            };
          };
      below = λ under. calls lower t.few.1 (t.ways.below under);
      above = λ over. calls upper t.few.2 (t.ways.above over);
    }

-- a test that chooses the call of MEM leaves no template, and the other this one
chosen : (z : Bool) (x : State) (a : ℕ) (own t : Inline) → (if z then None else Some own) ≡ Some t → (z ≡ false → HasInlineRun x a own) → HasInlineRun x a t
chosen true x a own t is runs = absurd (cc)
chosen false x a own t is runs = let same : own ≡ t = cc in subst (HasInlineRun x a) same (runs refl)

-- by the instruction
runs_by : (links : Links) (x : State) (a v : ℕ) (form : Option Form) (t : Inline) → IsSetting links x a v → instruction_at (image_held x.kernel) a ≡ form → inline_of (mote_of x) form ≡ Some t
    → HasInlineRun x a t
unfolding shape_of_form mem_pieces
runs_by links x a v (Some (forms.Push d)) t s is here = chosen (is_z d) x a _ t here (λ plain.
    let f = reached_by links x a v (forms.Push d) s is refl in
    runs_of links x a v 38 _ 18 12 14 (forms.Push d) _ _ _ _ s f (push_inline links x a v d plain s f (mem_template x a (forms.Push d) f ∙ ap (λ z. mem_or z (push_forms d) a) plain)))
runs_by links x a v (Some (forms.Pop d)) t s is here = chosen (is_z d) x a _ t here (λ plain.
    let f = reached_by links x a v (forms.Pop d) s is refl in
    runs_of links x a v 38 _ 18 13 15 (forms.Pop d) _ _ _ _ s f (pop_inline links x a v d plain s f (mem_template x a (forms.Pop d) f ∙ ap (λ z. mem_or z (pop_forms d) a) plain)))
runs_by links x a v (Some (forms.LoadOff d Y q)) t s is here = chosen (is_z d) x a _ t here (λ plain.
    let f = reached_by links x a v (forms.LoadOff d Y q) s is refl in
    runs_of links x a v 31 _ 15 12 14 (forms.LoadOff d Y q) _ _ _ _ s f
    (load_inline links x a v d q plain s f (mem_template x a (forms.LoadOff d Y q) f ∙ ap (λ z. mem_or z (load_forms d q) a) plain)))
runs_by links x a v (Some (forms.StoreOff Y q d)) t s is here = chosen (is_z d) x a _ t here (λ plain.
    let f = reached_by links x a v (forms.StoreOff Y q d) s is refl in
    runs_of links x a v 31 _ 15 12 14 (forms.StoreOff Y q d) _ _ _ _ s f
    (store_inline links x a v d q plain s f (mem_template x a (forms.StoreOff Y q d) f ∙ ap (λ z. mem_or z (store_forms q d) a) plain)))
runs_by links x a v _ t s is here = absurd (cc)

pub runs_inline : RunInline
runs_inline x a t here is = runs_by (links_at x) x a (mote_of x).cpu.pc (instruction_at (image_held x.kernel) a) t (entry_setting x a here) refl is
