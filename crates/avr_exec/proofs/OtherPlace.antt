-- An instruction at another place of the program: the same registers, SREG and space, and the next pc.
use Rattle.std.proofs.Common.{◌≡◌, ℕ, true, false, not, refl, sym, ◌∙◌, ap}
use Rattle.std.proofs.lemmas.Bool.{false≢true}
use Rattle.avr_isa.specs.declared.form.Form.{Form}
use Rattle.avr_isa.specs.declared.form.Form.TheVariants.{Nop, Movw, Muls, Product, Two, Imm, Word, One, LoadOff, StoreOff, LoadAt, StoreAt, Lds, Sts, Pop, Push, Lpm0, Elpm0, Lpm, Elpm, InIo, OutIo}
use Rattle.avr_isa.specs.declared.form.Form.TheVariants.{Cbi, Sbi, Bld, Bst, Bset, Bclr, Rcall, Jmp, Call, Icall, Ret, Reti, Break, Wdr}
use Rattle.avr_isa.specs.Instruction.{size_of}
use Rattle.avr_exec.specs.declared.cpu.Cpu.{Cpu}
use Rattle.avr_exec.specs.declared.answer.Answer.{Answer}
use Rattle.avr_isa.specs.Addresses.{wrapping_sum}
use Rattle.avr_exec.specs.Registers.{register, with_register, own_byte, pair}
use Rattle.avr_exec.specs.Spaces.{Outcome, Went, Stopped, Calls}
use Rattle.avr_exec.specs.Asks.{ask_of, finish_of, number_of, displaced, target, pointer_value}
use Rattle.avr_isa.specs.IoTable.{io_address}
use Rattle.avr_exec.specs.Effects.{next, after_two_words, loaded, stored, with_pointer}
use Rattle.avr_exec.specs.Execution.{answered_by, answer_of, exec_of}
use Rattle.avr_exec.specs.Likeness.{is_straight, is_transfer, moved, placed}
use Rattle.avr_exec.proofs.OtherCounter.{changed, two_of-changed, immediate_of-changed, word_of-changed, one_of-changed, product_of-changed, with_pointer-changed, with_z_raised_if-changed}
use Rattle.avr_exec.proofs.OtherCounter.{loaded-changed, stored-changed, stored-moved}

-- ---- what is asked and what is done, by an instruction that reads neither the pc nor SP

-- it asks the same at another pc and with another SP
pub ask_of_straight : (form : Form) (cpu : Cpu) (p : ℕ) (s : ℕ → ℕ) → is_straight form ≡ true → ask_of form (changed cpu p s) ≡ ask_of form cpu
unfolding ask_of is_straight is_transfer
ask_of_straight (Pop d) cpu p s h = absurd (false≢true h)
ask_of_straight (Push r) cpu p s h = absurd (false≢true h)
ask_of_straight (Rcall k) cpu p s h = absurd (false≢true h)
ask_of_straight (Call a) cpu p s h = absurd (false≢true h)
ask_of_straight Icall cpu p s h = absurd (false≢true h)
ask_of_straight Ret cpu p s h = absurd (false≢true h)
ask_of_straight Reti cpu p s h = absurd (false≢true h)
ask_of_straight _ cpu p s h = refl

finish_of-straight : (form : Form) (cpu : Cpu) (p : ℕ) (s : ℕ → ℕ) (n m : ℕ) (answer : Answer) → is_straight form ≡ true
    → finish_of form (changed cpu p s) m answer ≡ changed (finish_of form cpu n answer) (wrapping_sum p 1) s
unfolding finish_of is_straight is_transfer
finish_of-straight Nop cpu p s n m answer h = refl
finish_of-straight (Movw d r) cpu p s n m answer h = refl
finish_of-straight (Muls d r) cpu p s n m answer h = refl
finish_of-straight (Product op d r) cpu p s n m answer h = ap next (product_of-changed op cpu p s d r)
finish_of-straight (Two op d r) cpu p s n m answer h = ap next (two_of-changed op cpu p s d r)
finish_of-straight (Imm op d k) cpu p s n m answer h = ap next (immediate_of-changed op cpu p s d k)
finish_of-straight (Word op l k) cpu p s n m answer h = ap next (word_of-changed op cpu p s l k)
finish_of-straight (One op d) cpu p s n m answer h = ap next (one_of-changed op cpu p s d)
finish_of-straight Lpm0 cpu p s n m answer h = refl
finish_of-straight Elpm0 cpu p s n m answer h = refl
finish_of-straight (Lpm d inc) cpu p s n m answer h = ap next (with_z_raised_if-changed (with_register cpu d (number_of answer)) inc p s (pair cpu 30))
finish_of-straight (Elpm d inc) cpu p s n m answer h = ap next (with_z_raised_if-changed (with_register cpu d (number_of answer)) inc p s (pair cpu 30))
finish_of-straight (InIo d a) cpu p s n m answer h = ap (λ v. next (with_register (changed cpu p s) d v)) (loaded-changed cpu p s (io_address a) (number_of answer) h)
finish_of-straight (OutIo a r) cpu p s n m answer h = ap next (stored-changed cpu p s (io_address a) (register cpu r) h)
finish_of-straight (Cbi a b) cpu p s n m answer h = refl
finish_of-straight (Sbi a b) cpu p s n m answer h = refl
finish_of-straight (Bld d b) cpu p s n m answer h = refl
finish_of-straight (Bst d b) cpu p s n m answer h = refl
finish_of-straight (Bset b) cpu p s n m answer h = refl
finish_of-straight (Bclr b) cpu p s n m answer h = refl
finish_of-straight Break cpu p s n m answer h = refl
finish_of-straight Wdr cpu p s n m answer h = refl
finish_of-straight _ cpu p s n m answer h = absurd (false≢true h)

-- ---- the same of an instruction that transfers no control, with SP as it is

-- it asks the same at another pc
pub ask_of_moved : (form : Form) (cpu : Cpu) (p : ℕ) → is_transfer form ≡ false → ask_of form (moved cpu p) ≡ ask_of form cpu
unfolding ask_of is_transfer
ask_of_moved (Rcall k) cpu p h = absurd (false≢true (sym h))
ask_of_moved (Call a) cpu p h = absurd (false≢true (sym h))
ask_of_moved Icall cpu p h = absurd (false≢true (sym h))
ask_of_moved _ cpu p h = refl

finish_of-moved : (form : Form) (cpu : Cpu) (p n m : ℕ) (answer : Answer) → is_transfer form ≡ false
    → finish_of form (moved cpu p) m answer ≡ moved (finish_of form cpu n answer) (wrapping_sum p (size_of form))
unfolding finish_of is_transfer is_straight size_of loaded own_byte
finish_of-moved (LoadOff d base q) cpu p n m answer h = refl
finish_of-moved (StoreOff base q r) cpu p n m answer h = ap next (stored-moved cpu p (displaced cpu base q) (register cpu r))
finish_of-moved (LoadAt d pointer) cpu p n m answer h =
    ap next (with_pointer-changed (with_register cpu d (loaded cpu (target cpu pointer) (number_of answer))) pointer p (λ x. x) (pointer_value cpu pointer))
finish_of-moved (StoreAt pointer r) cpu p n m answer h =
    ap (λ t. next (with_pointer t pointer (pointer_value cpu pointer))) (stored-moved cpu p (target cpu pointer) (register cpu r))
    ∙ ap next (with_pointer-changed (stored cpu (target cpu pointer) (register cpu r)) pointer p (λ x. x) (pointer_value cpu pointer))
finish_of-moved (Lds d a) cpu p n m answer h = refl
finish_of-moved (Sts a r) cpu p n m answer h = ap after_two_words (stored-moved cpu p a (register cpu r))
finish_of-moved (Pop d) cpu p n m answer h = refl
finish_of-moved (Push r) cpu p n m answer h = refl
finish_of-moved (InIo d a) cpu p n m answer h = refl
finish_of-moved (OutIo a r) cpu p n m answer h = ap next (stored-moved cpu p (io_address a) (register cpu r))
finish_of-moved (Jmp a) cpu p n m answer h = absurd (false≢true (sym h))
finish_of-moved (Call a) cpu p n m answer h = absurd (false≢true (sym h))
finish_of-moved form cpu p n m answer h = finish_of-straight form cpu p (λ x. x) n m answer (ap not h)

answered_by-then : {S A B C : Type 0} (f : A → C) (g : A → B) (h : B → C) (o : Outcome S A) → ((a : A) → f a ≡ h (g a))
    → answered_by f o ≡ answered_by h (answered_by g o)
answered_by-then f g h (Went answer next) e = ap (λ c. Went c next) (e answer)
answered_by-then f g h (Stopped stop) e = refl

-- ---- execution

-- execution is known by what is asked, and what the core becomes by the answer
executed : {S : Type 0} (calls : Calls S) (form : Form) (cpu other : Cpu) (f : Cpu → Cpu) (space : S) (n m : ℕ) → ask_of form other ≡ ask_of form cpu
    → ((answer : Answer) → finish_of form other m answer ≡ f (finish_of form cpu n answer))
    → exec_of calls form other space m ≡ answered_by f (exec_of calls form cpu space n)
unfolding exec_of
executed calls form cpu other f space n m asks finishes =
    ap (λ a. answered_by (finish_of form other m) (answer_of calls space a)) asks
    ∙ answered_by-then (finish_of form other m) (finish_of form cpu n) f (answer_of calls space (ask_of form cpu)) finishes

-- An instruction that neither transfers control nor may reach SP gives the same registers, SREG and space
-- at another pc, with another SP and before an instruction of another size.
pub exec_straight : {S : Type 0} (calls : Calls S) (form : Form) (cpu : Cpu) (space : S) (n m p q : ℕ) → is_straight form ≡ true
    → exec_of calls form (placed cpu p q) space m ≡ answered_by (λ t. placed t (wrapping_sum p 1) q) (exec_of calls form cpu space n)
exec_straight calls form cpu space n m p q h =
    executed calls form cpu _ _ space n m (ask_of_straight form cpu p (λ _. q) h) (λ a. finish_of-straight form cpu p (λ _. q) n m a h)

-- An instruction that transfers no control gives the same registers, SREG, SP and space at another pc and
-- before an instruction of another size.
pub exec_moved : {S : Type 0} (calls : Calls S) (form : Form) (cpu : Cpu) (space : S) (n m p : ℕ) → is_transfer form ≡ false
    → exec_of calls form (moved cpu p) space m ≡ answered_by (λ t. moved t (wrapping_sum p (size_of form))) (exec_of calls form cpu space n)
exec_moved calls form cpu space n m p h =
    executed calls form cpu _ _ space n m (ask_of_moved form cpu p h) (λ a. finish_of-moved form cpu p n m a h)
