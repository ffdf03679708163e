-- Execution leaves the number of registers.
use Rattle.std.proofs.Common.{◌≡◌, ℕ, ◌+◌, ◌*◌, ◌/◌, ◌%◌, ◌==◌, nat_lt, Bool, true, false, List, length, refl, sym, ap, ◌∙◌}
use Rattle.std.specs.Prelude.{slice_set, if◌then◌else◌}
use Rattle.std.proofs.lemmas.List.{length-set}
use Rattle.avr_isa.specs.declared.form.Form.{Form}
use Rattle.avr_isa.specs.declared.form.Form.TheVariants as forms
use Rattle.avr_isa.specs.declared.operation.TwoOp.{TwoOp}
use Rattle.avr_isa.specs.declared.operation.TwoOp.TheVariants as twos
use Rattle.avr_isa.specs.declared.operation.ImmOp.{ImmOp}
use Rattle.avr_isa.specs.declared.operation.ImmOp.TheVariants as imms
use Rattle.avr_isa.specs.declared.operation.WordOp.{WordOp}
use Rattle.avr_isa.specs.declared.operation.WordOp.TheVariants as words
use Rattle.avr_isa.specs.declared.operation.OneOp.{OneOp}
use Rattle.avr_isa.specs.declared.operation.OneOp.TheVariants as ones
use Rattle.avr_isa.specs.declared.operation.ProductOp.{ProductOp}
use Rattle.avr_isa.specs.declared.operation.ProductOp.TheVariants as products
use Rattle.avr_isa.specs.declared.operation.Ptr.{Ptr}
use Rattle.avr_isa.specs.declared.operation.Ptr.TheVariants as pointers
use Rattle.avr_exec.specs.declared.cpu.Cpu.{Cpu}
use Rattle.avr_exec.specs.declared.answer.Answer.{Answer}
use Rattle.avr_exec.specs.Registers.{is_own, with_own_byte}
use Rattle.avr_exec.specs.Arithmetic.{two_of, immediate_of, word_of, one_of, product_of}
use Rattle.avr_exec.specs.Asks.{ask_of, finish_of}
use Rattle.avr_exec.specs.Effects.{stored, with_pointer}
use Rattle.avr_exec.specs.Execution.{answered_by, answer_of, exec_of}
use Rattle.avr_exec.specs.Spaces.{Outcome, Went, Stopped, Calls}

-- how many registers the core has
abbrev count : Cpu → ℕ
count cpu = length cpu.r

set_pair : (r : List ℕ) (n a b : ℕ) → length (slice_set (slice_set r n a) (n + 1) b) ≡ length r
set_pair r n a b = length-set (slice_set r n a) (n + 1) b ∙ length-set r n a

two_kept : (op : TwoOp) (cpu : Cpu) (d r : ℕ) → count (two_of op cpu d r) ≡ count cpu
unfolding two_of
two_kept twos.Cpc cpu d r = refl
two_kept twos.Cp cpu d r = refl
two_kept twos.Mul cpu d r = set_pair cpu.r 0 _ _
two_kept _ cpu d r = length-set cpu.r d _

immediate_kept : (op : ImmOp) (cpu : Cpu) (d k : ℕ) → count (immediate_of op cpu d k) ≡ count cpu
unfolding immediate_of
immediate_kept imms.Cpi cpu d k = refl
immediate_kept _ cpu d k = length-set cpu.r d _

word_kept : (op : WordOp) (cpu : Cpu) (p k : ℕ) → count (word_of op cpu p k) ≡ count cpu
unfolding word_of
word_kept words.Adiw cpu p k = set_pair cpu.r p _ _
word_kept words.Sbiw cpu p k = set_pair cpu.r p _ _

one_kept : (op : OneOp) (cpu : Cpu) (d : ℕ) → count (one_of op cpu d) ≡ count cpu
unfolding one_of
one_kept ones.Com cpu d = length-set cpu.r d _
one_kept _ cpu d = length-set cpu.r d _

product_kept : (op : ProductOp) (cpu : Cpu) (d r : ℕ) → count (product_of op cpu d r) ≡ count cpu
unfolding product_of
product_kept products.Mulsu cpu d r = set_pair cpu.r 0 _ _
product_kept _ cpu d r = set_pair cpu.r 0 _ _

pointer_kept : (p : Ptr) (cpu : Cpu) (v : ℕ) → count (with_pointer cpu p v) ≡ count cpu
unfolding with_pointer
pointer_kept pointers.X cpu v = refl
pointer_kept _ cpu v = set_pair cpu.r _ _ _

own_by : (own stack_low stack_high : Bool) (cpu : Cpu) (r : List ℕ) (low high status : ℕ) → length r ≡ count cpu
    → count (if own then record cpu { r = r } else if stack_low then record cpu { sp = low } else if stack_high then record cpu { sp = high } else record cpu { sreg = status }) ≡ count cpu
own_by true stack_low stack_high cpu r low high status same = same
own_by false true stack_high cpu r low high status same = refl
own_by false false true cpu r low high status same = refl
own_by false false false cpu r low high status same = refl

stored_by : (b : Bool) (cpu cpu' : Cpu) → count cpu' ≡ count cpu → count (if b then cpu' else cpu) ≡ count cpu
stored_by true cpu cpu' same = same
stored_by false cpu cpu' same = refl

stored_kept : (cpu : Cpu) (a v : ℕ) → count (stored cpu a v) ≡ count cpu
unfolding stored with_own_byte
stored_kept cpu a v = stored_by (is_own a) cpu (with_own_byte cpu a v)
    (own_by (nat_lt a 0x20) (a == 0x5D) (a == 0x5E) cpu (slice_set cpu.r a v) (cpu.sp / 256 * 256 + v) (v * 256 + cpu.sp % 256) v (length-set cpu.r a v))

-- Z raised where the instruction says so
raised_kept : (inc : Bool) (cpu : Cpu) (a b : ℕ) → count (if inc then record cpu { r = slice_set (slice_set cpu.r 30 a) 31 b } else cpu) ≡ count cpu
raised_kept true cpu a b = length-set (slice_set cpu.r 30 a) 31 b ∙ length-set cpu.r 30 a
raised_kept false cpu a b = refl

-- what an instruction makes of the core at any answer has as many registers
pub finish_kept : (form : Form) (cpu : Cpu) (n : ℕ) (answer : Answer) → count (finish_of form cpu n answer) ≡ count cpu
unfolding finish_of
finish_kept (forms.Movw d r) cpu n answer = set_pair cpu.r d _ _
finish_kept (forms.Muls d r) cpu n answer = set_pair cpu.r 0 _ _
finish_kept (forms.Product op d r) cpu n answer = product_kept op cpu d r
finish_kept (forms.Two op d r) cpu n answer = two_kept op cpu d r
finish_kept (forms.Imm op d k) cpu n answer = immediate_kept op cpu d k
finish_kept (forms.Word op p k) cpu n answer = word_kept op cpu p k
finish_kept (forms.One op d) cpu n answer = one_kept op cpu d
finish_kept (forms.LoadOff d base q) cpu n answer = length-set cpu.r d _
finish_kept (forms.StoreOff base q r) cpu n answer = stored_kept cpu _ _
finish_kept (forms.LoadAt d pointer) cpu n answer = pointer_kept pointer _ _ ∙ length-set cpu.r d _
finish_kept (forms.StoreAt pointer r) cpu n answer = pointer_kept pointer _ _ ∙ stored_kept cpu _ _
finish_kept (forms.Lds d a) cpu n answer = length-set cpu.r d _
finish_kept (forms.Sts a r) cpu n answer = stored_kept cpu _ _
finish_kept (forms.Pop d) cpu n answer = length-set cpu.r d _
finish_kept forms.Lpm0 cpu n answer = length-set cpu.r 0 _
finish_kept forms.Elpm0 cpu n answer = length-set cpu.r 0 _
finish_kept (forms.Lpm d inc) cpu n answer = raised_kept inc _ _ _ ∙ length-set cpu.r d _
finish_kept (forms.Elpm d inc) cpu n answer = raised_kept inc _ _ _ ∙ length-set cpu.r d _
finish_kept (forms.InIo d a) cpu n answer = length-set cpu.r d _
finish_kept (forms.OutIo a r) cpu n answer = stored_kept cpu _ _
finish_kept (forms.Bld d b) cpu n answer = length-set cpu.r d _
finish_kept _ cpu n answer = refl

exec_by : {S : Type 0} (form : Form) (cpu cpu' : Cpu) (n : ℕ) (g' : S) (o : Outcome S Answer) → answered_by (finish_of form cpu n) o ≡ Went cpu' g' → count cpu' ≡ count cpu
exec_by form cpu cpu' n g' (Went answer next) is = let e : finish_of form cpu n answer ≡ cpu' = cc in ap count (sym e) ∙ finish_kept form cpu n answer
exec_by form cpu cpu' n g' (Stopped stop) is = absurd (cc)

-- execution over any space leaves the number of registers
pub exec_kept : {S : Type 0} (calls : Calls S) (form : Form) (cpu cpu' : Cpu) (g g' : S) (n : ℕ) → exec_of calls form cpu g n ≡ Went cpu' g' → count cpu' ≡ count cpu
unfolding exec_of
exec_kept calls form cpu cpu' g g' n is = exec_by form cpu cpu' n g' (answer_of calls g (ask_of form cpu)) is
