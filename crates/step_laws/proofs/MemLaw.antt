-- A load or a store: the kernel executes it over the program's memory, or one of the four inline templates does the same.
use Rattle.std.proofs.Common.{List, length, ℕ, ◌≡◌, ◌+◌, ◌-◌, ◌<◌, ◌∙◌, Bool, true, false, refl, ap, arith}
use Rattle.std.specs.Prelude.{slice_index, slice_set, IsTrue, Some}
use Rattle.std.proofs.lemmas.List.{length-set}
use Rattle.avr_isa.specs.declared.form.Form.{Form}
use Rattle.avr_isa.specs.declared.form.Form.TheVariants as forms
use Rattle.avr_isa.specs.declared.operation.Base.TheVariants.{Y}
use Rattle.avr_isa.specs.Encoding.{second_word}
use Rattle.avr_isa.specs.Instruction.{is_valid, size_of}
use Rattle.sram_layout.specs.Bytes.{byte_at, with_byte}
use Rattle.flash_words.specs.Pages.{word_at as flash_word}
use Rattle.inline_laws.specs.Rows.{Row}
use Rattle.nat_template.specs.Words.{words_of_forms}
use Rattle.nat_template.specs.Inline.{push_forms, pop_forms, load_forms, store_forms}
use Rattle.nat_template.specs.Templates.{mem_or, inline, is_z, mem_pieces}
use Rattle.page_draft.specs.Standing.{size}
use Rattle.page_draft.specs.Runs.{template_at}
use Rattle.kernel_entry.specs.Parts.{image_held}
use Rattle.inline_laws.specs.InlineWays.{saved_of, with_pushed, with_pointer, pointer_of, above_pointer, from_frame}
use Rattle.inline_laws.proofs.Cells.{byte_apart, saved_of_same, stack_written, pushed_same, pointer_same, pointer_written, pointer_low, pointer_of_saved, pointer_apart, pointer_byte_of}
use Rattle.inline_laws.proofs.PushLaw.{push_passes}
use Rattle.inline_laws.proofs.PopLaw.{pop_passes}
use Rattle.inline_laws.proofs.FrameLaw.{load_passes, store_passes}
use Rattle.sram_layout.proofs.Laws.{length-with_byte}
use Rattle.sram_layout.specs.Cells.{vsp_cell}
use Rattle.step_laws.proofs.Stretches.{template_here}
use Rattle.step_laws.specs.Settings.{IsSetting, IsBounded}
use Rattle.step_laws.specs.Links.{Links}
use Rattle.step_laws.specs.StepLaws.{StepLaw, ShapeLaw}
use Rattle.step_laws.specs.States.{State, mote_of}
use Rattle.step_laws.proofs.CodeLaws.{image_words, form_of_shape}
use Rattle.decode_laws.proofs.Decoded.{valid_at}
use Rattle.step_laws.proofs.InlineRows.{other_than_z, push_valid, pop_valid, frame_load_valid, frame_store_valid, AreValid, inline_row}
use Rattle.step_laws.proofs.InlineSeen.{push_executed, pop_executed, load_executed, store_executed}
use Rattle.step_laws.proofs.InlineLaw.{IsInline, can_pass, inline_law}
use Rattle.step_laws.proofs.MemService.{IsReached, called_law, reached_by, mem_template}
use Rattle.avr_decode.specs.Program.{instruction_at}
use Rattle.nat_template.specs.declared.shapes.TemplateShape.TheVariants.{Mem}

-- the program's own instruction is valid
valid_there : (x : State) (a : ℕ) (form : Form) → IsBounded x.kernel → IsReached x a form → IsTrue (is_valid form)
valid_there x a form bounded f = valid_at (image_held x.kernel) a form (image_words x.kernel bounded) f.is

row_there : (links : Links) (x : State) (a v : ℕ) (forms : List Form) → IsSetting links x a v → v + length (words_of_forms forms) + 1 < 65536 → AreValid forms
    → template_at (image_held x.kernel) a ≡ inline forms a
    → Row (mote_of x).flash.words v forms × (flash_word (mote_of x).flash.words (v + length (words_of_forms forms)) ≡ a)
row_there links x a v forms s room valid template = inline_row links.enters (mote_of x).flash.words v a forms room valid (template_here links x a v (inline forms a) s template).stands

-- PUSH
pub push_inline : (links : Links) (x : State) (a v d : ℕ) → is_z d ≡ false → IsSetting links x a v → IsReached x a (forms.Push d) → template_at (image_held x.kernel) a ≡ inline (push_forms d) a
    → (let m = mote_of x in let p = pointer_of m in IsInline x a v 38 p 18 12 14 (forms.Push d) (m.cpu.r) (with_byte m.sram p (slice_index m.cpu.r d))
    (with_pushed (saved_of m) p (slice_index m.cpu.r d)) (p - 1))
unfolding push_forms second_word size_of
push_inline links x a v d is s f template =
    let m = mote_of x in
    let can = can_pass links x a v s in
    let p = pointer_of m in
    let saves = saved_of_same m in
    let row = row_there links x a v (push_forms d) s (omega arith) (push_valid d (valid_there x a (forms.Push d) s.ready.bounded f)) template in
    record {
      ways = push_passes m v d can (other_than_z d is) row.0;
      width = ap size template;
      word_there = row.1;
      one = refl;
      reads = refl;
      few = omega arith;
      went = λ from to. push_executed x.kernel a d from to;
      same = λ from to. pushed_same m.sram (saved_of m) p (slice_index m.cpu.r d) can.size from to saves;
      pointer = λ from. pointer_written (with_byte (saved_of m) p (slice_index m.cpu.r d)) (p - 1) (length-with_byte (saved_of m) p (slice_index m.cpu.r d) ∙ saves.size ∙ can.size);
      low = λ from. pointer_low (with_byte (saved_of m) p (slice_index m.cpu.r d)) (p - 1) (length-with_byte (saved_of m) p (slice_index m.cpu.r d) ∙ saves.size ∙ can.size);
      others = λ from b low high. byte_apart m.sram p b (slice_index m.cpu.r d) (omega arith);
      registers = refl;
    }

-- POP
pub pop_inline : (links : Links) (x : State) (a v d : ℕ) → is_z d ≡ false → IsSetting links x a v → IsReached x a (forms.Pop d) → template_at (image_held x.kernel) a ≡ inline (pop_forms d) a
    → (let m = mote_of x in let p = above_pointer m in IsInline x a v 38 p 18 13 15 (forms.Pop d) (slice_set m.cpu.r d (byte_at m.sram p)) (m.sram) (with_pointer (saved_of m) p) (p))
unfolding pop_forms second_word size_of
pop_inline links x a v d is s f template =
    let m = mote_of x in
    let can = can_pass links x a v s in
    let p = above_pointer m in
    let saves = saved_of_same m in
    let row = row_there links x a v (pop_forms d) s (omega arith) (pop_valid d (valid_there x a (forms.Pop d) s.ready.bounded f)) template in
    record {
      ways = pop_passes m v d can (other_than_z d is) row.0;
      width = ap size template;
      word_there = row.1;
      one = refl;
      reads = refl;
      few = omega arith;
      went = λ from to. pop_executed x.kernel a d from to;
      same = λ from to. pointer_same m.sram (saved_of m) p saves;
      pointer = λ from. pointer_written (saved_of m) p (saves.size ∙ can.size);
      low = λ from. pointer_low (saved_of m) p (saves.size ∙ can.size);
      others = λ from b low high. refl;
      registers = length-set m.cpu.r d (byte_at m.sram p);
    }

-- LDD with Y+q
pub load_inline : (links : Links) (x : State) (a v d q : ℕ) → is_z d ≡ false → IsSetting links x a v → IsReached x a (forms.LoadOff d Y q)
    → template_at (image_held x.kernel) a ≡ inline (load_forms d q) a
    → (let m = mote_of x in let p = from_frame m q in IsInline x a v 31 p 15 12 14 (forms.LoadOff d Y q) (slice_set m.cpu.r d (byte_at m.sram p)) (m.sram) (saved_of m) (pointer_of m))
unfolding load_forms second_word size_of
load_inline links x a v d q is s f template =
    let m = mote_of x in
    let can = can_pass links x a v s in
    let p = from_frame m q in
    let saves = saved_of_same m in
    let row = row_there links x a v (load_forms d q) s (omega arith) (frame_load_valid d q (valid_there x a (forms.LoadOff d Y q) s.ready.bounded f)) template in
    record {
      ways = load_passes m v d q can (other_than_z d is) row.0;
      width = ap size template;
      word_there = row.1;
      one = refl;
      reads = refl;
      few = omega arith;
      went = λ from to. load_executed x.kernel a d q from to;
      same = λ from to. saves;
      pointer = λ from. pointer_of_saved m;
      low = λ from. let byte = can.pointer in omega (arith, pointer_byte_of m vsp_cell (omega arith));
      others = λ from b low high. refl;
      registers = length-set m.cpu.r d (byte_at m.sram p);
    }

-- STD with Y+q
pub store_inline : (links : Links) (x : State) (a v d q : ℕ) → is_z d ≡ false → IsSetting links x a v → IsReached x a (forms.StoreOff Y q d)
    → template_at (image_held x.kernel) a ≡ inline (store_forms q d) a
    → (let m = mote_of x in let p = from_frame m q in IsInline x a v 31 p 15 12 14 (forms.StoreOff Y q d) (m.cpu.r) (with_byte m.sram p (slice_index m.cpu.r d))
    (with_byte (saved_of m) p (slice_index m.cpu.r d)) (pointer_of m))
unfolding store_forms second_word size_of
store_inline links x a v d q is s f template =
    let m = mote_of x in
    let can = can_pass links x a v s in
    let p = from_frame m q in
    let saves = saved_of_same m in
    let row = row_there links x a v (store_forms q d) s (omega arith) (frame_store_valid q d (valid_there x a (forms.StoreOff Y q d) s.ready.bounded f)) template in
    record {
      ways = store_passes m v d q can (other_than_z d is) row.0;
      width = ap size template;
      word_there = row.1;
      one = refl;
      reads = refl;
      few = omega arith;
      went = λ from to. store_executed x.kernel a d q from to;
      same = λ from to. stack_written m.sram (saved_of m) p (slice_index m.cpu.r d) can.size from to saves;
      pointer = λ from. pointer_apart (saved_of m) p (slice_index m.cpu.r d) (omega arith) ∙ pointer_of_saved m;
      low = λ from. let byte = can.pointer in omega (arith, byte_apart (saved_of m) p vsp_cell (slice_index m.cpu.r d) (omega arith), pointer_byte_of m vsp_cell (omega arith));
      others = λ from b low high. byte_apart m.sram p b (slice_index m.cpu.r d) (omega arith);
      registers = refl;
    }

-- the template, or the call where the instruction names r30 or r31
pub inline_or_call : (links : Links) (x : State) (a v n address steps lower upper : ℕ) (form : Form) (r sram sram' : List ℕ) (sp : ℕ) (forms : List Form) (called : Bool) → IsSetting links x a v
    → IsReached x a form
    → template_at (image_held x.kernel) a ≡ mem_or called forms a
    → (called ≡ false → template_at (image_held x.kernel) a ≡ inline forms a → IsInline x a v n address steps lower upper form r sram sram' sp) → StepLaw links x a
inline_or_call links x a v n address steps lower upper form r sram sram' sp forms true s f template own = called_law links x a v form s f template
inline_or_call links x a v n address steps lower upper form r sram sram' sp forms false s f template own =
    inline_law links x a v n address steps lower upper form r sram sram' sp s f (own refl template)

-- by the instruction
mem_by : (links : Links) (x : State) (a v : ℕ) (form : Form) → IsSetting links x a v → IsReached x a form → template_at (image_held x.kernel) a ≡ mem_pieces a (Some form) → StepLaw links x a
unfolding mem_pieces
mem_by links x a v (forms.Push d) s f template = inline_or_call links x a v 38 _ 18 12 14 (forms.Push d) _ _ _ _ (push_forms d) (is_z d) s f template (λ is same. push_inline links x a v d is s f same)
mem_by links x a v (forms.Pop d) s f template = inline_or_call links x a v 38 _ 18 13 15 (forms.Pop d) _ _ _ _ (pop_forms d) (is_z d) s f template (λ is same. pop_inline links x a v d is s f same)
mem_by links x a v (forms.LoadOff d Y q) s f template =
    inline_or_call links x a v 31 _ 15 12 14 (forms.LoadOff d Y q) _ _ _ _ (load_forms d q) (is_z d) s f template (λ is same. load_inline links x a v d q is s f same)
mem_by links x a v (forms.StoreOff Y q d) s f template =
    inline_or_call links x a v 31 _ 15 12 14 (forms.StoreOff Y q d) _ _ _ _ (store_forms q d) (is_z d) s f template (λ is same. store_inline links x a v d q is s f same)
mem_by links x a v form s f template = called_law links x a v form s f template

pub mem_law : ShapeLaw Mem
mem_law links x a v s shape =
    let some = form_of_shape Mem a (instruction_at (image_held x.kernel) a) shape (λ e. cc) in
    let f = reached_by links x a v some.0 s some.1 some.2 in
    mem_by links x a v some.0 s f (mem_template x a some.0 f)
