-- The same instruction with another pc and SP: what an instruction that doesn't read them does.
use Rattle.std.proofs.Common.{◌≡◌, ℕ, ◌+◌, ◌*◌, ◌/◌, ◌%◌, ◌==◌, nat_lt, Bool, true, false, not, ◌||◌, if◌then◌else◌, refl, sym, ◌∙◌, ap}
use Rattle.std.proofs.lemmas.Bool.{false≢true}
use Rattle.avr_isa.specs.declared.operation.TwoOp.{TwoOp}
use Rattle.avr_isa.specs.declared.operation.TwoOp.TheVariants.{Cpc}
use Rattle.avr_isa.specs.declared.operation.ImmOp.{ImmOp}
use Rattle.avr_isa.specs.declared.operation.ImmOp.TheVariants.{Cpi}
use Rattle.avr_isa.specs.declared.operation.WordOp.{WordOp}
use Rattle.avr_isa.specs.declared.operation.WordOp.TheVariants.{Adiw, Sbiw}
use Rattle.avr_isa.specs.declared.operation.OneOp.{OneOp}
use Rattle.avr_isa.specs.declared.operation.OneOp.TheVariants.{Com}
use Rattle.avr_isa.specs.declared.operation.ProductOp.{ProductOp}
use Rattle.avr_isa.specs.declared.operation.ProductOp.TheVariants.{Mulsu}
use Rattle.avr_isa.specs.declared.operation.Ptr.{Ptr}
use Rattle.avr_isa.specs.declared.operation.Ptr.TheVariants.{ZInc}
use Rattle.avr_exec.specs.declared.cpu.Cpu.{Cpu}
use Rattle.avr_exec.specs.Registers.{register, with_register, with_stack, with_status, own_byte, with_own_byte, is_own}
use Rattle.avr_exec.specs.Arithmetic.{two_of, immediate_of, word_of, one_of, product_of}
use Rattle.avr_exec.specs.Effects.{loaded, stored, with_pointer, with_z_raised_if}
use Rattle.avr_exec.specs.Likeness.{is_stack_pointer, moved}

-- the registers and SREG with another pc, and SP changed so
abbrev pub changed : Cpu → ℕ → (ℕ → ℕ) → Cpu
changed cpu p s = record cpu { pc = p; sp = s cpu.sp }

pub two_of-changed : (op : TwoOp) (cpu : Cpu) (p : ℕ) (s : ℕ → ℕ) (d r : ℕ) → two_of op (changed cpu p s) d r ≡ changed (two_of op cpu d r) p s
unfolding two_of
two_of-changed Cpc cpu p s d r = refl
two_of-changed _ cpu p s d r = refl

pub immediate_of-changed : (op : ImmOp) (cpu : Cpu) (p : ℕ) (s : ℕ → ℕ) (d k : ℕ) → immediate_of op (changed cpu p s) d k ≡ changed (immediate_of op cpu d k) p s
unfolding immediate_of
immediate_of-changed Cpi cpu p s d k = refl
immediate_of-changed _ cpu p s d k = refl

pub word_of-changed : (op : WordOp) (cpu : Cpu) (p : ℕ) (s : ℕ → ℕ) (l k : ℕ) → word_of op (changed cpu p s) l k ≡ changed (word_of op cpu l k) p s
unfolding word_of
word_of-changed Adiw cpu p s l k = refl
word_of-changed Sbiw cpu p s l k = refl

pub one_of-changed : (op : OneOp) (cpu : Cpu) (p : ℕ) (s : ℕ → ℕ) (d : ℕ) → one_of op (changed cpu p s) d ≡ changed (one_of op cpu d) p s
unfolding one_of
one_of-changed Com cpu p s d = refl
one_of-changed _ cpu p s d = refl

pub product_of-changed : (op : ProductOp) (cpu : Cpu) (p : ℕ) (s : ℕ → ℕ) (d r : ℕ) → product_of op (changed cpu p s) d r ≡ changed (product_of op cpu d r) p s
unfolding product_of
product_of-changed Mulsu cpu p s d r = refl
product_of-changed _ cpu p s d r = refl

pub with_pointer-changed : (cpu : Cpu) (pointer : Ptr) (p : ℕ) (s : ℕ → ℕ) (v : ℕ) → with_pointer (changed cpu p s) pointer v ≡ changed (with_pointer cpu pointer v) p s
unfolding with_pointer
with_pointer-changed cpu ZInc p s v = refl
with_pointer-changed cpu _ p s v = refl

pub with_z_raised_if-changed : (cpu : Cpu) (inc : Bool) (p : ℕ) (s : ℕ → ℕ) (z : ℕ) → with_z_raised_if (changed cpu p s) inc z ≡ changed (with_z_raised_if cpu inc z) p s
with_z_raised_if-changed cpu true p s z = refl
with_z_raised_if-changed cpu false p s z = refl

neither : (b c : Bool) → not (b || c) ≡ true → (b ≡ false) × (c ≡ false)
neither true c h = absurd (false≢true h)
neither false true h = absurd (false≢true h)
neither false false h = (refl, refl)

-- a chain of three tests of which the second and the third fail
byte_chain : (b c d : Bool) (u v w z v' w' : ℕ) → c ≡ false → d ≡ false
    → (if b then u else if c then v else if d then w else z) ≡ (if b then u else if c then v' else if d then w' else z)
byte_chain true c d u v w z v' w' hc hd = refl
byte_chain false true d u v w z v' w' hc hd = absurd (false≢true (sym hc))
byte_chain false false true u v w z v' w' hc hd = absurd (false≢true (sym hd))
byte_chain false false false u v w z v' w' hc hd = refl

own_byte-changed : (cpu : Cpu) (p : ℕ) (s : ℕ → ℕ) (a : ℕ) → not (is_stack_pointer a) ≡ true → own_byte (changed cpu p s) a ≡ own_byte cpu a
unfolding own_byte
own_byte-changed cpu p s a h =
    let n = neither (a == 0x5D) (a == 0x5E) h in
    byte_chain (nat_lt a 0x20) (a == 0x5D) (a == 0x5E) (register cpu a) (s cpu.sp % 256) (s cpu.sp / 256) cpu.sreg (cpu.sp % 256) (cpu.sp / 256) n.0 n.1

pub loaded-changed : (cpu : Cpu) (p : ℕ) (s : ℕ → ℕ) (a answer : ℕ) → not (is_stack_pointer a) ≡ true → loaded (changed cpu p s) a answer ≡ loaded cpu a answer
unfolding loaded
loaded-changed cpu p s a answer h = ap (λ v. if is_own a then v else answer) (own_byte-changed cpu p s a h)

-- the same of registers, where the second and the third case change alike if they come
cpu_chain : (b c d : Bool) (A B C D B' C' : Cpu) (p : ℕ) (s : ℕ → ℕ) → (c ≡ true → B' ≡ changed B p s) → (d ≡ true → C' ≡ changed C p s)
    → (if b then changed A p s else if c then B' else if d then C' else changed D p s) ≡ changed (if b then A else if c then B else if d then C else D) p s
cpu_chain true c d A B C D B' C' p s second third = refl
cpu_chain false true d A B C D B' C' p s second third = second refl
cpu_chain false false true A B C D B' C' p s second third = third refl
cpu_chain false false false A B C D B' C' p s second third = refl

stored_if : (b : Bool) (W W' cpu : Cpu) (p : ℕ) (s : ℕ → ℕ) → W' ≡ changed W p s → (if b then W' else changed cpu p s) ≡ changed (if b then W else cpu) p s
stored_if true W W' cpu p s h = h
stored_if false W W' cpu p s h = refl

with_own_byte-changed : (cpu : Cpu) (p : ℕ) (s : ℕ → ℕ) (a v : ℕ) → not (is_stack_pointer a) ≡ true → with_own_byte (changed cpu p s) a v ≡ changed (with_own_byte cpu a v) p s
unfolding with_own_byte
with_own_byte-changed cpu p s a v h =
    let n = neither (a == 0x5D) (a == 0x5E) h in
    let low = with_stack cpu (cpu.sp / 256 * 256 + v) in
    let high = with_stack cpu (v * 256 + cpu.sp % 256) in
    let low' = with_stack (changed cpu p s) (s cpu.sp / 256 * 256 + v) in
    let high' = with_stack (changed cpu p s) (v * 256 + s cpu.sp % 256) in
    cpu_chain (nat_lt a 0x20) (a == 0x5D) (a == 0x5E) (with_register cpu a v) low high (with_status cpu v) low' high' p s
    (λ e. absurd (false≢true (sym n.0 ∙ e))) (λ e. absurd (false≢true (sym n.1 ∙ e)))

pub stored-changed : (cpu : Cpu) (p : ℕ) (s : ℕ → ℕ) (a v : ℕ) → not (is_stack_pointer a) ≡ true → stored (changed cpu p s) a v ≡ changed (stored cpu a v) p s
unfolding stored
stored-changed cpu p s a v h = stored_if (is_own a) (with_own_byte cpu a v) (with_own_byte (changed cpu p s) a v) cpu p s (with_own_byte-changed cpu p s a v h)

-- with SP as it is, every address stores alike
with_own_byte-moved : (cpu : Cpu) (p a v : ℕ) → with_own_byte (moved cpu p) a v ≡ moved (with_own_byte cpu a v) p
unfolding with_own_byte
with_own_byte-moved cpu p a v =
    let low = with_stack cpu (cpu.sp / 256 * 256 + v) in
    let high = with_stack cpu (v * 256 + cpu.sp % 256) in
    cpu_chain (nat_lt a 0x20) (a == 0x5D) (a == 0x5E) (with_register cpu a v) low high (with_status cpu v) (moved low p) (moved high p) p (λ x. x) (λ _. refl) (λ _. refl)

pub stored-moved : (cpu : Cpu) (p a v : ℕ) → stored (moved cpu p) a v ≡ moved (stored cpu a v) p
unfolding stored
stored-moved cpu p a v = stored_if (is_own a) (with_own_byte cpu a v) (with_own_byte (moved cpu p) a v) cpu p (λ x. x) (with_own_byte-moved cpu p a v)
