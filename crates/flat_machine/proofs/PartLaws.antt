-- A program in a part of an image doesn't depend on the words outside it.
use Rattle.std.proofs.Common.{◌≡◌, ℕ, zero, suc, ◌+◌, ◌*◌, ◌/◌, ◌%◌, Bool, true, false, not, ◌&&◌, ◌||◌, cond, List, [], ◌∷◌, refl, sym, ap, ap₂, ◌<◌, ◌≤◌, arith, inl, inr, ◌∙◌}
use Rattle.std.proofs.lemmas.Bool.{cases_lt}
use Rattle.std.proofs.lemmas.Bool.Decides.{nat_tests}
use Rattle.std.specs.Prelude.{Option, Some, None, ◌==◌}
use Rattle.avr_isa.specs.Image.{word, byte}
use Rattle.avr_isa.specs.declared.form.Form.{Form}
use Rattle.avr_isa.specs.declared.form.Form.TheVariants.{Sleep, Spm}
use Rattle.avr_decode.specs.Program.{instruction_at}
use Rattle.avr_decode.specs.Decoding.{the_form, size_by_first_word}
use Rattle.avr_decode.specs.Decoding as X
use Rattle.avr_flags.specs.Status.{has_bit, interrupts}
use Rattle.avr_exec.specs.declared.cpu.Cpu.{Cpu}
use Rattle.avr_exec.specs.declared.ask.Ask.{Ask}
use Rattle.avr_exec.specs.declared.ask.Ask.TheVariants as asks
use Rattle.avr_exec.specs.declared.answer.Answer.TheVariants.{Byte, Done, Address}
use Rattle.avr_exec.specs.declared.stop.BusStop.TheVariants.{Stack as StackStop, SwapFull as FullStop}
use Rattle.avr_isa.specs.Addresses.{wrapping_sum, wrapping_difference}
use Rattle.avr_exec.specs.Spaces.{Outcome, Went, Stopped}
use Rattle.avr_exec.specs.StackRules.{push_on, pop_from, push_return_on, pop_return_from}
use Rattle.avr_exec.specs.Asks.{ask_of}
use Rattle.avr_exec.specs.Likeness.{over}
use Rattle.avr_exec.specs.Execution.{answered_by, answer_of, exec_of, is_executed, extended, rampz_raised}
use Rattle.avr_exec.proofs.OneAnswer.{exec_alike}
use Rattle.flat_machine.specs.Addresses.{is_stack, is_heap}
use Rattle.mote_devices.specs.declared.line.Line.{Line}
use Rattle.mote_devices.specs.State.{stored, rampz_address}
use Rattle.mote_devices.specs.Accesses.{Asked, Gave, Refused, read, write, modify as modify_device}
use Rattle.flat_machine.specs.declared.part.Part.{Part}
use Rattle.flat_machine.specs.FlatSpace.{FlatSpace, flat_calls, flat_stack, store_to_heap, from_device, to_device, has_page, has_room, with_page, with_memory, memory_byte}
use Rattle.flat_machine.proofs.MachineLaws.{form_tried}
use Rattle.flat_machine.specs.FlatMachine.{Program, FlatState, Moment, Run, Stops, Halted, Wild, Next, Ends, On, is_own, is_inside, word_asked, if_foreign, foreign_word, read_or_executed, tried}
use Rattle.flat_machine.specs.FlatMachine.{tried_form, executed, stepped, space_of, next_size, jumps_to_itself, next_of, next_by, is_taken, interrupted, interrupted_by, lowest, followed, with_line}
use Rattle.flat_machine.specs.FlatMachine.{ended, run}
use Rattle.flat_machine.specs.Masked.{masked_from, masked, alone, IsFramed}
use Rattle.mote_devices.specs.Waking.{enabled}

-- the same space over another image
abbrev pub with_image : List ℕ → FlatSpace → FlatSpace
with_image other s = record s { image = other }

abbrev Alike : {A : Type 0} → List ℕ → Outcome FlatSpace A → Outcome FlatSpace A → Type 0
Alike other o o' = o' ≡ over (with_image other) o

from_alike : (other : List ℕ) (s : FlatSpace) (a : ℕ) (asked : Asked ℕ) → Alike other (from_device s a asked) (from_device (with_image other s) a asked)
from_alike other s a (Gave v next) = refl
from_alike other s a Refused = refl

to_alike : (other : List ℕ) (s : FlatSpace) (a : ℕ) (asked : Asked (Option Line)) → Alike other (to_device s a asked) (to_device (with_image other s) a asked)
to_alike other s a (Gave v next) = refl
to_alike other s a Refused = refl

either_alike : {A : Type 0} (other : List ℕ) (b : Bool) (o o' p p' : Outcome FlatSpace A) → Alike other o o' → Alike other p p' → Alike other (cond b o p) (cond b o' p')
either_alike other true o o' p p' h k = h
either_alike other false o o' p p' h k = k

heap_alike : (other : List ℕ) (s : FlatSpace) (a v : ℕ) → Alike other (store_to_heap s a v) (store_to_heap (with_image other s) a v)
heap_alike other s a v = either_alike other (has_page s a || has_room s) (Went tt (with_memory (with_page s a) a v)) _ (Stopped (FullStop a)) _ refl refl

-- what is read of the program is the same
abbrev pub ReadsAlike : (image other : List ℕ) → FlatSpace → Ask → Type 0
ReadsAlike image other s (asks.Program z) = byte other z ≡ byte image z
ReadsAlike image other s (asks.ExtendedProgram z) = byte other (extended (stored s.devices rampz_address) z) ≡ byte image (extended (stored s.devices rampz_address) z)
ReadsAlike image other s (asks.ExtendedProgramRaising z) = byte other (extended (stored s.devices rampz_address) z) ≡ byte image (extended (stored s.devices rampz_address) z)
ReadsAlike image other s _ = Unit {0}

told_alike : {A B : Type 0} (other : List ℕ) (f : A → B) (o o' : Outcome FlatSpace A) → Alike other o o' → Alike other (answered_by f o) (answered_by f o')
told_alike other f (Went answer next) o' same = ap (answered_by f) same
told_alike other f (Stopped stop) o' same = ap (answered_by f) same

pushed_alike : (other : List ℕ) (s : FlatSpace) (sp ret : ℕ) → Alike other (push_return_on flat_stack s sp ret) (push_return_on flat_stack (with_image other s) sp ret)
unfolding push_return_on
pushed_alike other s sp ret =
    let below = wrapping_difference sp 1 in
    either_alike other (is_stack sp) _ _ (Stopped (StackStop sp)) _
    (either_alike other (is_stack below) (Went tt (with_memory (with_memory s sp (ret % 256)) below (ret / 256))) _ (Stopped (StackStop below)) _ refl refl) refl

answers_alike : (other : List ℕ) (s : FlatSpace) (ask : Ask) → ReadsAlike s.image other s ask → Alike other (answer_of flat_calls s ask) (answer_of flat_calls (with_image other s) ask)
unfolding answer_of push_on pop_from push_return_on pop_return_from
answers_alike other s asks.Nothing reads = refl
answers_alike other s (asks.Load a) reads =
    told_alike other Byte (flat_calls.load s a) _
    (either_alike other (is_stack a || is_heap a) (Went (memory_byte s a) s) _ (from_device s a (read s.devices a)) _ refl (from_alike other s a (read s.devices a)))
answers_alike other s (asks.Store a v) reads =
    told_alike other (λ _. Done) (flat_calls.store s a v) _
    (either_alike other (is_stack a) (Went tt (with_memory s a v)) _ _ _ refl
    (either_alike other (is_heap a) (store_to_heap s a v) _ (to_device s a (write s.devices a v)) _ (heap_alike other s a v) (to_alike other s a (write s.devices a v))))
answers_alike other s (asks.Modify a clear set) reads = told_alike other (λ _. Done) (to_device s a (modify_device s.devices a clear set)) _ (to_alike other s a (modify_device s.devices a clear set))
answers_alike other s (asks.PushByte sp v) reads =
    told_alike other (λ _. Done) (push_on flat_stack s sp v) _
    (either_alike other (is_stack sp) (Went tt (with_memory s sp v)) _ (Stopped (StackStop sp)) _ refl refl)
answers_alike other s (asks.PopByte sp) reads =
    let a = wrapping_sum sp 1 in
    told_alike other Byte (pop_from flat_stack s sp) _ (either_alike other (is_stack a) (Went (memory_byte s a) s) _ (Stopped (StackStop a)) _ refl refl)
answers_alike other s (asks.PushReturn sp ret) reads = told_alike other (λ _. Done) (push_return_on flat_stack s sp ret) _ (pushed_alike other s sp ret)
answers_alike other s (asks.PopReturn sp) reads =
    let high = wrapping_sum sp 1 in
    let low = wrapping_sum sp 2 in
    told_alike other Address (pop_return_from flat_stack s sp) _
    (either_alike other (is_stack high) _ _ (Stopped (StackStop high)) _
    (either_alike other (is_stack low) (Went (memory_byte s high * 256 + memory_byte s low) s) _ (Stopped (StackStop low)) _ refl refl) refl)
answers_alike other s (asks.Program z) reads = ap (λ v. Went (Byte v) (with_image other s)) reads
answers_alike other s (asks.ExtendedProgram z) reads = ap (λ v. Went (Byte v) (with_image other s)) reads
answers_alike other s (asks.ExtendedProgramRaising z) reads =
    ap (λ v. Went (Byte v) (flat_calls.set_rampz (with_image other s) (rampz_raised (stored s.devices rampz_address) z))) reads

-- so an instruction's step is the same
stepped_alike : (other : List ℕ) (s : FlatState) (o : Outcome FlatSpace Cpu) → stepped s (over (with_image other) o) ≡ stepped s o
stepped_alike other s (Went cpu space) = refl
stepped_alike other s (Stopped stop) = refl

executed_alike : (program : Program) (other : List ℕ) (s : FlatState) (form : Form) → next_size other s.cpu.pc ≡ next_size program.image s.cpu.pc
    → ReadsAlike program.image other (space_of program s) (ask_of form s.cpu) → executed (record program { image = other }) s form ≡ executed program s form
executed_alike program other s form size reads =
    ap (cond (jumps_to_itself s.cpu.pc form && not (has_bit s.cpu.sreg interrupts)) (Stops (Halted s.cpu.pc)))
    (ap (λ n. stepped s (exec_of flat_calls form s.cpu (with_image other (space_of program s)) n)) size
    ∙ ap (stepped s) (exec_alike flat_calls flat_calls (with_image other) form s.cpu (space_of program s) (next_size program.image s.cpu.pc)
    (answers_alike other (space_of program s) (ask_of form s.cpu) reads))
    ∙ stepped_alike other s (exec_of flat_calls form s.cpu (space_of program s) (next_size program.image s.cpu.pc)))

stops_alike : (program : Program) (other : List ℕ) (s : FlatState) (form : Form) → is_executed form ≡ false
    → tried_form (record program { image = other }) s (Some form) ≡ tried_form program s (Some form)
unfolding is_executed
stops_alike program other s Sleep is = refl
stops_alike program other s Spm is = refl
stops_alike program other s _ is = absurd (cc)

-- what an instruction reads of the program is the same, where it may read it
abbrev ReadsSame : Program → List ℕ → FlatState → Form → Type 0
ReadsSame program other s form = foreign_word program s form ≡ None → ReadsAlike program.image other (space_of program s) (ask_of form s.cpu)

read_alike : (program : Program) (other : List ℕ) (s : FlatState) (form : Form) (foreign : Option ℕ) → next_size other s.cpu.pc ≡ next_size program.image s.cpu.pc
    → (foreign ≡ None → ReadsAlike program.image other (space_of program s) (ask_of form s.cpu))
    → read_or_executed (record program { image = other }) s form foreign ≡ read_or_executed program s form foreign
read_alike program other s form None size reads = executed_alike program other s form size (reads refl)
read_alike program other s form (Some a) size reads = refl

runs_alike : (program : Program) (other : List ℕ) (s : FlatState) (form : Form) (b : Bool) → is_executed form ≡ b → next_size other s.cpu.pc ≡ next_size program.image s.cpu.pc
    → ReadsSame program other s form → tried_form (record program { image = other }) s (Some form) ≡ tried_form program s (Some form)
runs_alike program other s form false is size reads = stops_alike program other s form is
runs_alike program other s form true is size reads =
    form_tried (record program { image = other }) s form is ∙ read_alike program other s form (foreign_word program s form) size reads ∙ sym (form_tried program s form is)

form_alike : (program : Program) (other : List ℕ) (s : FlatState) (o : Option Form) → next_size other s.cpu.pc ≡ next_size program.image s.cpu.pc → ((form : Form) → ReadsSame program other s form)
    → tried_form (record program { image = other }) s o ≡ tried_form program s o
form_alike program other s None size reads = refl
form_alike program other s (Some form) size reads = runs_alike program other s form (is_executed form) refl size (reads form)

-- where the instruction, the size of the next and what is read of the program are the same
tried_alike : (program : Program) (other : List ℕ) (s : FlatState) → instruction_at other s.cpu.pc ≡ instruction_at program.image s.cpu.pc → next_size other s.cpu.pc ≡ next_size program.image s.cpu.pc
    → ((form : Form) → ReadsSame program other s form) → tried (record program { image = other }) s ≡ tried program s
unfolding tried
tried_alike program other s is size reads = ap (tried_form (record program { image = other }) s) is ∙ form_alike program other s (instruction_at program.image s.cpu.pc) size reads

either_same : (b : Bool) (w : ℕ) → cond b w w ≡ w
either_same true w = refl
either_same false w = refl

-- a word of the masked image
masked_word : (part : Part) (b : ℕ) (image : List ℕ) (a : ℕ) → word (masked_from part b image) a ≡ cond (is_own part (b + a)) (word image a) 0xFFFF
masked_word part b [] a = sym (either_same (is_own part (b + a)) 0xFFFF)
masked_word part b (w ∷ words) zero = let here : b ≡ b + 0 = omega arith in ap (λ c. cond (is_own part c) w 0xFFFF) here
masked_word part b (w ∷ words) (suc a) =
    let there : b + 1 + a ≡ b + suc a = omega arith in
    masked_word part (b + 1) words a ∙ ap (λ c. cond (is_own part c) (word words a) 0xFFFF) there

own_word : (part : Part) (image : List ℕ) (a : ℕ) → is_own part a ≡ true → word (masked part image) a ≡ word image a
own_word part image a own =
    let here : 0 + a ≡ a = omega arith in
    masked_word part 0 image a ∙ ap (λ b. cond b (word image a) 0xFFFF) (ap (is_own part) here ∙ own)

own_byte : (part : Part) (image : List ℕ) (z : ℕ) → is_own part (z / 2) ≡ true → byte (masked part image) z ≡ byte image z
own_byte part image z own = ap (λ w. cond (z % 2 == 0) (w % 256) (w / 256)) (own_word part image (z / 2) own)

own_of : (shut own : Bool) (a : ℕ) → shut ≡ true → cond (shut && not own) (Some a) None ≡ None → own ≡ true
own_of shut true a is none = refl
own_of true false a is none = absurd (cc)
own_of false false a is none = absurd (cc)

own_reads : (part : Part) (image : List ℕ) (s : FlatSpace) (ask : Ask) → part.shut ≡ true → if_foreign part (word_asked (stored s.devices rampz_address) ask) ≡ None
    → ReadsAlike image (masked part image) s ask
own_reads part image s (asks.Program z) shut none = own_byte part image z (own_of part.shut (is_own part (z / 2)) (z / 2) shut none)
own_reads part image s (asks.ExtendedProgram z) shut none = own_byte part image _ (own_of part.shut _ _ shut none)
own_reads part image s (asks.ExtendedProgramRaising z) shut none = own_byte part image _ (own_of part.shut _ _ shut none)
own_reads part image s _ shut none = tt

-- an address of the part, and the one behind it
pub own_range : (part : Part) (a : ℕ) → is_own part a ≡ true → (part.first ≤ a) × (a < part.first + part.count)
own_range part a own = grind (arith, nat_tests)

own_behind : (part : Part) (a : ℕ) → part.first + part.count ≤ 65536 → is_own part a ≡ true → a + 2 < part.first + part.count → is_own part ((a + 1) % 65536) ≡ true
own_behind part a few own low =
    let range = own_range part a own in
    let next : (a + 1) % 65536 ≡ a + 1 = omega arith in
    ap (is_own part) next ∙ grind (arith, nat_tests)

erased_form : (image : List ℕ) (a : ℕ) → word image a ≡ 0xFFFF → instruction_at image a ≡ None
unfolding the_form X.if_defined X.is_long X.one_word_form X.form_1111 X.register_bit_form
erased_form image a is = ap (λ w. the_form w (word image ((a + 1) % 65536))) is

-- so the try of an instruction of the part is the same over the part's words alone
pub masked_tried : (program : Program) (s : FlatState) → IsFramed program.part program.image → is_inside program s.cpu.pc ≡ true → tried (alone program) s ≡ tried program s
unfolding tried
masked_tried program s framed here =
    let part = program.part in
    let pc = s.cpu.pc in
    let other = masked part program.image in
    elim (cases_lt (pc + 2) (part.first + part.count)) [
      | inl low ↦
          let behind = own_word part program.image ((pc + 1) % 65536) (own_behind part pc framed.few here low) in
          let is : instruction_at other pc ≡ instruction_at program.image pc = ap₂ the_form (own_word part program.image pc here) behind in
          let size : next_size other pc ≡ next_size program.image pc = ap size_by_first_word behind in
          tried_alike program other s is size (λ form none. own_reads part program.image (space_of program s) (ask_of form s.cpu) framed.shut none)
      | inr high ↦
          let blank = framed.erased pc here high in
          ap (tried_form (alone program) s) (erased_form other pc (own_word part program.image pc here ∙ blank)) ∙ sym (ap (tried_form program s) (erased_form program.image pc blank))
    ]

-- an interrupt reads no word of the program
interrupted_over : (part : Part) (other : List ℕ) (s : FlatState) (k : ℕ) (o : Outcome FlatSpace (Unit {0})) → interrupted_by part s k (over (with_image other) o) ≡ interrupted_by part s k o
interrupted_over part other s k (Went done space) = refl
interrupted_over part other s k (Stopped stop) = refl

masked_interrupted : (program : Program) (s : FlatState) → interrupted (alone program) s ≡ interrupted program s
masked_interrupted program s =
    let other = masked program.part program.image in
    let k = lowest (enabled s.devices) in
    ap (interrupted_by program.part s k) (pushed_alike other (space_of program s) s.cpu.sp s.cpu.pc)
    ∙ interrupted_over program.part other s k (push_return_on flat_stack (space_of program s) s.cpu.sp s.cpu.pc)

masked_next : (program : Program) (m : Moment) → IsFramed program.part program.image → is_inside program m.now.cpu.pc ≡ true → next_of (alone program) m ≡ next_of program m
unfolding next_of
masked_next program m framed here =
    ap₂ (λ taken goes. cond (is_taken m) taken (next_by program.quantum m.now goes)) (masked_interrupted program m.now) (masked_tried program m.now framed here)

followed_alike : (m : Moment) (next : Next) (rest rest' : Moment → Run) → ((moment : Moment) → rest moment ≡ rest' moment) → followed m next rest ≡ followed m next rest'
followed_alike m (Ends end) rest rest' same = refl
followed_alike m (On line moment) rest rest' same = ap (with_line line) (same moment)

-- and so is a whole run
pub masked_run : (program : Program) (m : Moment) (n : ℕ) → IsFramed program.part program.image → run (alone program) m n ≡ run program m n
unfolding run
masked_run program m zero framed = refl
masked_run program m (suc n) framed =
    let wild = ended (Wild m.now.cpu.pc) m in
    let Inside : Bool → Type 0 = λ b. is_inside program m.now.cpu.pc ≡ b
    → cond b (followed m (next_of (alone program) m) (λ next. run (alone program) next n)) wild ≡ cond b (followed m (next_of program m) (λ next. run program next n)) wild in
    (elim (is_inside program m.now.cpu.pc) as Inside [
      | true ↦ λ here. ap (λ next. followed m next (λ following. run (alone program) following n)) (masked_next program m framed here)
          ∙ followed_alike m (next_of program m) (λ following. run (alone program) following n) (λ following. run program following n) (λ moment. masked_run program moment n framed)
      | false ↦ λ out. refl
    ]) refl
