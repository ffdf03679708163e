-- A branch on a bit of SREG, and a skip: what each form asks, and by which test it passes over the next instruction.
use Rattle.std.proofs.Common.{◌%◌, ℕ, ◌≡◌, ◌+◌, ◌==◌, ◌∙◌, Bool, true, false, refl, sym, ap, ap₂, arith, subst, IsTrue, MatchOption, cond}
use Rattle.std.specs.Prelude.{⊤, ℤ, ◌^◌, if◌then◌else◌, ◌&&◌, Option, Some, None, not, nat_lt, pos}
use Rattle.avr_isa.specs.Image.{word}
use Rattle.avr_isa.specs.Encoding.{first_word, second_word}
use Rattle.avr_isa.specs.Instruction.{is_valid, fields_in_range, size_of}
use Rattle.avr_isa.specs.UndefinedPairs.{is_undefined}
use Rattle.avr_isa.specs.declared.form.Form.{Form}
use Rattle.avr_isa.specs.declared.form.Form.TheVariants as forms
use Rattle.avr_isa.specs.IoTable.{can_read, can_write, io_address}
use Rattle.avr_decode.specs.Decoding.{the_form, is_long, size_by_first_word}
use Rattle.decode_laws.proofs.Decoded.{the_form_only, valid_at}
use Rattle.decode_laws.proofs.Lengths.{the_form-size, the_form-second}
use Rattle.avr_flags.specs.Status.{has_bit, interrupts}
use Rattle.avr_exec.specs.declared.ask.Ask.TheVariants as asks
use Rattle.avr_exec.specs.declared.answer.Answer.TheVariants.{Done}
use Rattle.avr_isa.specs.Addresses.{relative, wrapping_sum}
use Rattle.avr_exec.specs.Registers.{with_counter, register, is_own, own_byte}
use Rattle.avr_exec.specs.Asks.{ask_of, finish_of, number_of, load_of}
use Rattle.avr_exec.specs.Execution.{is_executed, answer_of, exec_of}
use Rattle.flash_words.specs.Pages.{word_at}
use Rattle.mote_core.specs.Step.{form_at as form_at_mote, next_size as mote_next_size, space_of, stepped}
use Rattle.nat_template.specs.declared.shapes.TemplateShape.TheVariants.{Native, Jump, Branch, Skip, SelfJump, Fault}
use Rattle.nat_template.specs.Shapes.{shape_of_form, is_stack_pointer, can_modify}
use Rattle.nat_template.specs.Stubs.{stub}
use Rattle.nat_template.specs.Templates.{template_by, target_of, passing, short_branch}
use Rattle.page_draft.specs.Runs.{shape_at, template_at, size_at, next_of, is_closed}
use Rattle.flat_machine.specs.FlatMachine.{next_size, jumps_to_itself}
use Rattle.step_laws.proofs.Stretches.{template_here, stretch_of}
use Rattle.step_laws.specs.Settings.{IsSetting}
use Rattle.step_laws.specs.Links.{Links}
use Rattle.step_laws.specs.StepLaws.{ShapeLaw, StepLaw}
use Rattle.step_laws.specs.States.{State, mote_of}
use Rattle.step_laws.proofs.ForkLaw.{fork_law}
use Rattle.step_laws.proofs.CodeLaws.{form_of_shape, setting_short, image_words, by_shape, one_by}
use Rattle.step_laws.proofs.JumpLaw.{jump_tried}
use Rattle.avr_decode.specs.Program.{instruction_at}
use Rattle.kernel_entry.specs.Parts.{core_of, image_held, memory_of}
use Rattle.step_laws.proofs.PlainMoves.{form_there, quiet_nothing}
use Rattle.step_laws.proofs.ShapeTests.{not_chosen, not_io, chosen_one}
use Rattle.std.proofs.lemmas.Bool.Decides.{nat_tests}
use Rattle.avr_exec.specs.declared.cpu.Cpu.{Cpu}
use Rattle.avr_exec.specs.declared.answer.Answer.{Answer}
use Rattle.avr_exec.specs.Effects.{loaded, skip_if}
use Rattle.avr_exec.specs.Likeness.{placed, is_transfer}
use Rattle.mote_core.specs.Conditions.{is_device_ask, can_step}
use Rattle.std.specs.Option.{option_map}
use Rattle.avr_isa.specs.Crossing.{is_crossing}
use Rattle.avr_exec.specs.Spaces.{Went as WentOn}
use Rattle.avr_exec.proofs.OneAnswer.{exec_went}
use Rattle.mote_core.specs.Physical.{physical_calls}
use Rattle.nat_template.proofs.Sizes.{stub_size}
use Rattle.mem_guard.specs.Guarded.{Guarded, guarded_calls}
use Rattle.mem_guard.proofs.GuardedStep.{guarded_goes}
use Rattle.step_laws.proofs.DeviceAnswers.{answers_alike}
use Rattle.mem_guard.proofs.LineLaws.{transfer_line}
use Rattle.mote_core.proofs.DeviceAsks.{can_step_device}
use Rattle.step_laws.proofs.AskedLaw.{device_owns}

-- by the branch in the image and the short one in its template, which passes over one word
short_valid : (p q : Bool) → IsTrue ((p && q) && true) → IsTrue ((p && true) && true)
short_valid true true h = h
short_valid true false h = absurd (cc)
short_valid false q h = absurd (cc)

branch_by : (links : Links) (x : State) (a v : ℕ) (form short : Form) (far : Bool) (t : ℕ) → IsSetting links x a v → shape_at (image_held x.kernel) a ≡ Branch
    → instruction_at (image_held x.kernel) a ≡ Some form
    → size_of form ≡ 1 → target_of a (Some form) ≡ t → short_branch (Some form) ≡ first_word short → IsTrue (is_valid short) → second_word short ≡ None
    → is_executed form ≡ true → is_executed short ≡ true → jumps_to_itself a form ≡ false → ask_of form (core_of x.kernel a) ≡ asks.Nothing → ask_of short (mote_of x).cpu ≡ asks.Nothing
    → ((n : ℕ) → finish_of form (core_of x.kernel a) n Done ≡ core_of x.kernel (if far then t else wrapping_sum a 1))
    → ((n : ℕ) → finish_of short (mote_of x).cpu n Done ≡ with_counter (mote_of x).cpu (if far then relative (mote_of x).cpu.pc (pos 1) else wrapping_sum (mote_of x).cpu.pc 1)) → StepLaw links x a
unfolding template_by relative
branch_by links x a v form short far t s shape is one target first valid none runs runs' apart asks asks' after after' =
    let k = x.kernel in
    let m = k.mote in
    let image = image_held k in
    let words = m.flash.words in
    let inside = s.code.inside in
    let short' = setting_short x s.ready.bounded.right in
    let instr : instruction_at image a ≡ Some form = is in
    let template : template_at image a ≡ passing (first_word short) (stub a t) =
    by_shape image a _ shape
    ∙ ap (λ f. passing (short_branch f) (stub a (target_of a f))) is ∙ ap₂ (λ w t. passing w (stub a t)) first target in
    let stands = (template_here links x a v _ s template).stands in
    let row = stretch_of links k.layout image words a v s.ready.bounded.right s.code in
    let low = row.low in
    let at = s.at in
    let w : ℕ = word_at words (m.cpu.pc + 1) in
    let meant : the_form (first_word short) w ≡ Some short =
    the_form_only short (first_word short) w valid (record { opcode = refl; address = subst (λ (o : Option ℕ). MatchOption o ⊤ (λ b. w ≡ b)) (sym none) tt }) in
    let form' : form_at_mote m ≡ Some short = form_there m m.cpu.pc (first_word short) w (Some short) (ap (word_at words) s.at ∙ stands.0, refl, omega arith) meant in
    let long : size_of form ≡ size_at image a = the_form-size (word image a) (word image ((a + 1) % 65536)) form ((image_words x.kernel s.ready.bounded) a) is in
    let next : wrapping_sum a 1 ≡ next_of image a = omega arith in
    let there : relative m.cpu.pc (pos 1) ≡ v + 2 = omega arith in
    let there' : wrapping_sum m.cpu.pc 1 ≡ v + 1 = omega arith in
    let made = quiet_nothing m short _ form' runs' asks' (after' (mote_next_size m) ∙ ap₂ (λ p q. with_counter m.cpu (if far then p else q)) there there') in
    fork_law links x a v t far (first_word short) s (ap is_closed shape) template (record {
      devices = m.devices;
      can = made.can;
      step = made.step;
      polls = omega arith;
      goes = jump_tried k a (if far then t else next_of image a) form s.ready.paged instr runs apart asks (after (next_size image a) ∙ ap (λ q. core_of k (if far then t else q)) next);
    })

-- the forms
data IsBranch (form : Form) : Type 0 where
  BySet : (b : ℕ) (n : ℤ) → form ≡ forms.Brbs b n → IsBranch form
  ByClear : (b : ℕ) (n : ℤ) → form ≡ forms.Brbc b n → IsBranch form

branch_form : (pc : ℕ) (form : Form) → shape_of_form pc form ≡ Branch → IsBranch form
unfolding shape_of_form
branch_form pc (forms.Brbs b n) is = IsBranch.BySet b n refl
branch_form pc (forms.Brbc b n) is = IsBranch.ByClear b n refl
branch_form pc (forms.Rjmp k) is = absurd (not_chosen (relative pc k == pc) SelfJump Jump Branch (λ e. cc) (λ e. cc) is)
branch_form pc (forms.Jmp t) is = absurd (not_chosen (t == pc) SelfJump Jump Branch (λ e. cc) (λ e. cc) is)
branch_form pc (forms.InIo d a) is = absurd (not_io (is_stack_pointer a) (can_read (io_address a)) Branch (λ e. cc) (λ e. cc) (λ e. cc) is)
branch_form pc (forms.OutIo a r) is = absurd (not_io (is_stack_pointer a) (can_write (io_address a)) Branch (λ e. cc) (λ e. cc) (λ e. cc) is)
branch_form pc (forms.Cbi a b) is = absurd (not_chosen (can_modify (io_address a)) Native Fault Branch (λ e. cc) (λ e. cc) is)
branch_form pc (forms.Sbi a b) is = absurd (not_chosen (can_modify (io_address a)) Native Fault Branch (λ e. cc) (λ e. cc) is)
branch_form pc (forms.Sbic a b) is = absurd (not_chosen (can_read (io_address a)) Skip Fault Branch (λ e. cc) (λ e. cc) is)
branch_form pc (forms.Sbis a b) is = absurd (not_chosen (can_read (io_address a)) Skip Fault Branch (λ e. cc) (λ e. cc) is)
branch_form pc _ is = absurd (cc)

branch_cases : (links : Links) (x : State) (a v : ℕ) (form : Form) → IsSetting links x a v → shape_at (image_held x.kernel) a ≡ Branch → instruction_at (image_held x.kernel) a ≡ Some form
    → IsTrue (is_valid form) → IsBranch form → StepLaw links x a
unfolding is_executed ask_of finish_of size_of is_valid fields_in_range is_undefined second_word
branch_cases links x a v form s shape is valid (IsBranch.BySet b n same) =
    branch_by links x a v (forms.Brbs b n) (forms.Brbs b (pos 1)) (has_bit (mote_of x).cpu.sreg (2 ^ b)) (relative a n) s shape (is ∙ ap Some same) refl refl refl
    (short_valid (nat_lt b 8) _ (subst (λ (f : Form). IsTrue (is_valid f)) same valid)) refl refl refl refl refl refl (λ n. refl) (λ n. refl)
branch_cases links x a v form s shape is valid (IsBranch.ByClear b n same) =
    branch_by links x a v (forms.Brbc b n) (forms.Brbc b (pos 1)) (not (has_bit (mote_of x).cpu.sreg (2 ^ b))) (relative a n) s shape
    (is ∙ ap Some same) refl refl refl
    (short_valid (nat_lt b 8) _ (subst (λ (f : Form). IsTrue (is_valid f)) same valid)) refl refl refl refl refl refl (λ n. refl) (λ n. refl)

pub branch_law : ShapeLaw Branch
branch_law links x a v s shape =
    let some = form_of_shape Branch a (instruction_at (image_held x.kernel) a) shape (λ e. cc) in
    branch_cases links x a v some.0 s shape some.1 (valid_at (image_held x.kernel) a some.0 (image_words x.kernel s.ready.bounded) some.1) (branch_form a some.0 some.2)

-- a skip: what it asks, and by which test it passes
pub record Skips (form : Form) (core : Cpu) : Type 0 where
  pub runs : is_executed form ≡ true
  pub one : size_of form ≡ 1
  pub apart : (pc : ℕ) → jumps_to_itself pc form ≡ false
  pub transfers : is_transfer form ≡ true
  pub reads : is_device_ask (ask_of form core) ≡ true
  pub asks : (p q : ℕ) → ask_of form (placed core p q) ≡ ask_of form core
  pub passed : Answer → Bool
  pub finish : (p q n : ℕ) (answer : Answer) → finish_of form (placed core p q) n answer ≡ placed core (if passed answer then wrapping_sum p (1 + n) else wrapping_sum p 1) q

pub low_field : (a : ℕ) (q : Bool) → IsTrue ((nat_lt a 32 && q) && true) → is_own (a + 0x20) ≡ false
low_field a q valid = grind (arith, nat_tests)

loaded_by : (cpu : Cpu) (a v : ℕ) → is_own a ≡ false → loaded cpu a v ≡ v
unfolding loaded
loaded_by cpu a v own = ap (λ b. cond b (own_byte cpu a) v) own

tested : {form : Form} {core : Cpu} (passed : Answer → Bool) → is_executed form ≡ true → size_of form ≡ 1 → ((pc : ℕ) → jumps_to_itself pc form ≡ false) → is_transfer form ≡ true
    → is_device_ask (ask_of form core) ≡ true
    → ((p q : ℕ) → ask_of form (placed core p q) ≡ ask_of form core)
    → ((p q n : ℕ) (answer : Answer) → finish_of form (placed core p q) n answer ≡ placed core (if passed answer then wrapping_sum p (1 + n) else wrapping_sum p 1) q) → Skips form core
tested passed runs one apart transfers reads asks finish = record { runs = runs; one = one; apart = apart; transfers = transfers; reads = reads; asks = asks; passed = passed; finish = finish }

reads_low : (a : ℕ) → is_own (a + 0x20) ≡ false → can_read (io_address a) ≡ true → is_device_ask (load_of (a + 0x20)) ≡ true
unfolding is_device_ask load_of
reads_low a own can = ap (λ b. is_device_ask (cond b asks.Nothing (asks.Load (a + 0x20)))) own ∙ can

pub skip_form : (pc : ℕ) (form : Form) (core : Cpu) → IsTrue (is_valid form) → shape_of_form pc form ≡ Skip → Skips form core
unfolding shape_of_form is_transfer is_device_ask is_executed size_of ask_of load_of finish_of is_valid fields_in_range is_undefined
skip_form pc (forms.Cpse d r) core valid is = tested (λ answer. register core d == register core r) refl refl (λ pc. refl) refl refl (λ p q. refl) (λ p q n answer. refl)
skip_form pc (forms.Sbrc r b) core valid is = tested (λ answer. not (has_bit (register core r) (2 ^ b))) refl refl (λ pc. refl) refl refl (λ p q. refl) (λ p q n answer. refl)
skip_form pc (forms.Sbrs r b) core valid is = tested (λ answer. has_bit (register core r) (2 ^ b)) refl refl (λ pc. refl) refl refl (λ p q. refl) (λ p q n answer. refl)
skip_form pc (forms.Sbic a b) core valid is =
    let own : is_own (a + 0x20) ≡ false = low_field a _ valid in
    tested (λ answer. not (has_bit (number_of answer) (2 ^ b))) refl refl (λ pc. refl) refl (reads_low a own (chosen_one (can_read (io_address a)) Skip Fault Skip (λ e. cc) is)) (λ p q. refl)
    (λ p q n answer. ap (λ y. skip_if (not (has_bit y (2 ^ b))) n (placed core p q)) (loaded_by (placed core p q) (a + 0x20) (number_of answer) own))
skip_form pc (forms.Sbis a b) core valid is =
    let own : is_own (a + 0x20) ≡ false = low_field a _ valid in
    tested (λ answer. has_bit (number_of answer) (2 ^ b)) refl refl (λ pc. refl) refl (reads_low a own (chosen_one (can_read (io_address a)) Skip Fault Skip (λ e. cc) is)) (λ p q. refl)
    (λ p q n answer. ap (λ y. skip_if (has_bit y (2 ^ b)) n (placed core p q)) (loaded_by (placed core p q) (a + 0x20) (number_of answer) own))
skip_form pc (forms.Rjmp k) core valid is = absurd (not_chosen (relative pc k == pc) SelfJump Jump Skip (λ e. cc) (λ e. cc) is)
skip_form pc (forms.Jmp t) core valid is = absurd (not_chosen (t == pc) SelfJump Jump Skip (λ e. cc) (λ e. cc) is)
skip_form pc (forms.InIo d a) core valid is = absurd (not_io (is_stack_pointer a) (can_read (io_address a)) Skip (λ e. cc) (λ e. cc) (λ e. cc) is)
skip_form pc (forms.OutIo a r) core valid is = absurd (not_io (is_stack_pointer a) (can_write (io_address a)) Skip (λ e. cc) (λ e. cc) (λ e. cc) is)
skip_form pc (forms.Cbi a b) core valid is = absurd (not_chosen (can_modify (io_address a)) Native Fault Skip (λ e. cc) (λ e. cc) is)
skip_form pc (forms.Sbi a b) core valid is = absurd (not_chosen (can_modify (io_address a)) Native Fault Skip (λ e. cc) (λ e. cc) is)
skip_form pc _ core valid is = absurd (cc)

short_word : (c : Bool) → is_long (0xC000 + cond c 22 3) ≡ false
unfolding is_long
short_word true = refl
short_word false = refl

skip_by : (links : Links) (x : State) (a v : ℕ) (form : Form) → IsSetting links x a v → shape_at (image_held x.kernel) a ≡ Skip → instruction_at (image_held x.kernel) a ≡ Some form
    → Skips form (core_of x.kernel a) → StepLaw links x a
unfolding template_by can_step stepped
skip_by links x a v form s shape is skips =
    let k = x.kernel in
    let m = k.mote in
    let image = image_held k in
    let words = m.flash.words in
    let core = core_of k a in
    let inside = s.code.inside in
    let short' = setting_short x s.ready.bounded.right in
    let instr : instruction_at image a ≡ Some form = is in
    let t = wrapping_sum a (1 + size_at image (a + 1)) in
    let template : template_at image a ≡ passing (word image a) (stub a t) = by_shape image a _ shape in
    let stands = (template_here links x a v _ s template).stands in
    let row = stretch_of links k.layout image words a v s.ready.bounded.right s.code in
    let low = row.low in
    let at = s.at in
    let long : size_of form ≡ size_at image a = the_form-size (word image a) (word image ((a + 1) % 65536)) form ((image_words x.kernel s.ready.bounded) a) is in
    let alone : is_long (word image a) ≡ false = one_by (is_long (word image a)) (sym long ∙ skips.one) in
    let w : ℕ = word_at words (wrapping_sum m.cpu.pc 1) in
    let here : form_at_mote m ≡ Some form = ap (λ u. the_form u w) (ap (word_at words) s.at ∙ stands.0) ∙ the_form-second (word image a) w (word image ((a + 1) % 65536)) alone ∙ is in
    let there' : wrapping_sum m.cpu.pc 1 ≡ v + 1 = omega arith in
    let over : is_long w ≡ false = ap (λ p. is_long (word_at words p)) there' ∙ ap is_long (stands.1.0 ∙ ap (λ n. 0xC000 + n) (stub_size a t)) ∙ short_word (is_crossing a t) in
    let n : ℕ = next_size image a in
    let n' : ℕ = mote_next_size m in
    let one' : n' ≡ 1 = ap (λ b. if b then 2 else 1) over in
    let ag = answers_alike m.flash.words (memory_of k) (ask_of form core) skips.reads in
    let quiet : ag.line ≡ None = transfer_line form core (finish_of form core n ag.answer) (memory_of k)
    (record (memory_of k) { devices = ag.devices; line = ag.line }) n skips.transfers
    (exec_went guarded_calls form core (memory_of k) n ag.answer (record (memory_of k) { devices = ag.devices; line = ag.line }) ag.guarded) in
    let far : Bool = skips.passed ag.answer in
    let place : m.cpu ≡ placed core v 0x011F = ap₂ (λ p s. record m.cpu { pc = p; sp = s }) s.at s.ready.idle.top in
    let place' : m.cpu ≡ record m.cpu { pc = v; sp = 0x011F } = place in
    let physical : answer_of physical_calls (space_of m None) (ask_of form m.cpu) ≡ WentOn ag.answer (record (space_of m None) { devices = ag.devices }) =
    ap (λ c. answer_of physical_calls (space_of m None) (ask_of form c)) place ∙ ap (answer_of physical_calls (space_of m None)) (skips.asks v 0x011F) ∙ ag.physical
    ∙ ap (λ l. WentOn ag.answer (record (space_of m None) { devices = ag.devices; line = l })) quiet in
    let to : (if far then wrapping_sum v (1 + n') else wrapping_sum v 1) ≡ (if far then v + 2 else v + 1) = ap₂ (λ p q. if far then p else q) (let e = one' in omega arith) (omega arith) in
    let after : finish_of form m.cpu n' ag.answer ≡ record m.cpu { pc = if far then v + 2 else v + 1 } =
    ap (λ c. finish_of form c n' ag.answer) place ∙ skips.finish v 0x011F n' ag.answer ∙ ap (λ p. placed core p 0x011F) to
    ∙ ap (λ s. record m.cpu { pc = if far then v + 2 else v + 1; sp = s }) (sym s.ready.idle.top) in
    let executed : exec_of physical_calls form m.cpu (space_of m None) n' ≡ WentOn (record m.cpu { pc = if far then v + 2 else v + 1 }) (record (space_of m None) { devices = ag.devices }) =
    exec_went physical_calls form m.cpu (space_of m None) n' ag.answer (record (space_of m None) { devices = ag.devices }) physical
    ∙ ap (λ (c : Cpu). WentOn c (record (space_of m None) { devices = ag.devices })) after in
    let g : Guarded = record (memory_of k) { devices = ag.devices } in
    let guarded : answer_of guarded_calls (memory_of k) (ask_of form core) ≡ WentOn ag.answer g = ag.guarded
    ∙ ap (λ l. WentOn ag.answer (record (memory_of k) { devices = ag.devices; line = l })) quiet in
    let next : wrapping_sum a 1 ≡ a + 1 = omega arith in
    let whole : (if far then wrapping_sum a (1 + n) else wrapping_sum a 1) ≡ (if far then t else next_of image a) =
    ap₂ (λ p q. if far then p else q) (ap (λ b. wrapping_sum a (1 + size_by_first_word (word image b))) next) (next ∙ ap (λ b. a + (if b then 2 else 1)) (sym alone)) in
    let original : exec_of guarded_calls form core (memory_of k) n ≡ WentOn (core_of k (if far then t else next_of image a)) g =
    exec_went guarded_calls form core (memory_of k) n ag.answer g guarded ∙ ap (λ (c : Cpu). WentOn c g) (skips.finish a core.sp n ag.answer ∙ ap (core_of k) whole) in
    fork_law links x a v t far (word image a) s (ap is_closed shape) template (record {
      devices = ag.devices;
      can = can_step_device (form_at_mote m) form m.cpu here skips.runs (ap (λ c. is_device_ask (ask_of form c)) place ∙ ap is_device_ask (skips.asks v 0x011F) ∙ skips.reads);
      step = record {
        executed = ap (option_map (λ (f : Form). exec_of physical_calls f m.cpu (space_of m None) (mote_next_size m))) here ∙ ap Some executed;
        flash = refl;
        swap = refl;
      };
      polls = ag.polls;
      goes = λ s' c. guarded_goes _ _ (memory_of k) g core (core_of k (if far then t else next_of image a)) s' c form s.ready.paged refl instr skips.runs (device_owns k a form skips.reads)
          (ap (λ b. b && not (has_bit m.cpu.sreg interrupts)) (skips.apart a)) original;
    })

pub skip_law : ShapeLaw Skip
skip_law links x a v s shape =
    let some = form_of_shape Skip a (instruction_at (image_held x.kernel) a) shape (λ e. cc) in
    skip_by links x a v some.0 s shape some.1 (skip_form a some.0 (core_of x.kernel a) (valid_at (image_held x.kernel) a some.0 (image_words x.kernel s.ready.bounded) some.1) some.2)
