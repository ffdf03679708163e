-- The instructions whose leading bits are their own, before their operands: what their words mean is by
-- arithmetic and not by computing all of them.
use Rattle.std.proofs.Common.{◌≡◌, ℕ, ℤ, pos, negsuc, ◌+◌, ◌-◌, ◌*◌, ◌/◌, ◌%◌, ◌<◌, Bool, true, false, ◌||◌, ◌==◌, Some, IsTrue, refl, arith}
use Rattle.std.proofs.lemmas.Bool.{and_parts, eqb-true}
use Rattle.std.proofs.lemmas.Bool.Decides.{nat_tests}
use Rattle.std.specs.Prelude.{nat_lt}
use Rattle.avr_isa.specs.declared.form.Form.{Form}
use Rattle.avr_isa.specs.declared.form.Form.TheVariants.{Brbs, Brbc, Cbi, Sbic, Sbi, Sbis, LoadOff, StoreOff, Cpse, Imm, InIo, OutIo, Rcall, Rjmp, Two}
use Rattle.avr_isa.specs.declared.operation.ImmOp.{ImmOp}
use Rattle.avr_isa.specs.declared.operation.ImmOp.TheVariants.{Cpi}
use Rattle.avr_isa.specs.declared.operation.TwoOp.{TwoOp}
use Rattle.avr_isa.specs.declared.operation.TwoOp.TheVariants.{Cpc}
use Rattle.avr_isa.specs.declared.operation.Base.{Base}
use Rattle.avr_isa.specs.declared.operation.Base.TheVariants.{Y, Z}
use Rattle.avr_isa.specs.InstructionTable.{imm_opcode, two_opcode, flag_and_branch, jump, io_and_bit, register_and_displacement, high_register_and_byte, two_registers, register_and_io}
use Rattle.avr_isa.specs.Instruction.{is_valid, fields_in_range}
use Rattle.avr_isa.specs.UndefinedPairs.{is_undefined}
use Rattle.avr_isa.specs.Encoding.{first_word}
use Rattle.avr_decode.specs.Decoding.{form_1111, branch_of, io_bit_form, low_io_of, bit_of, displaced_form, displacement_of, the_form, is_long, one_word_form, form_0000, form_0001, form_0010}
use Rattle.avr_decode.specs.Decoding.{form_1001, io_form, defined_form, if_defined, immediate_of, high_destination_of, constant_of, destination_of, source_of, io_of, jump_of}
use Rattle.decode_laws.proofs.Bounds.{both_below, fields_fit, is_below}

-- a word of one word's instruction means what it begins
means : (first w : ℕ) (f : Form) → is_long first ≡ false → one_word_form first ≡ Some f → is_undefined f ≡ false → the_form first w ≡ Some f
unfolding the_form if_defined defined_form
means first w f short one defined = rw (short, one, defined) refl

-- Two registers, after six bits. -------------------------------------------------------------------

registers_of : (n d r : ℕ) → IsTrue (two_registers (1024 * n) d r).in_range
    → ((two_registers (1024 * n) d r).first / 1024 ≡ n) × (destination_of (two_registers (1024 * n) d r).first ≡ d) × (source_of (two_registers (1024 * n) d r).first ≡ r)
registers_of n d r fits =
    let ranges : (d < 32) × (r < 32) = both_below 32 32 d r fits in
    let leading : (two_registers (1024 * n) d r).first / 1024 ≡ n = omega arith in
    let destination : destination_of (two_registers (1024 * n) d r).first ≡ d = omega arith in
    let source : source_of (two_registers (1024 * n) d r).first ≡ r = omega arith in
    (leading, destination, source)

short_by_six : (n w : ℕ) → (n == 36) || (n == 37) ≡ false → w / 1024 ≡ n → is_long w ≡ false
unfolding is_long
short_by_six n w other leading = grind (arith, nat_tests)

-- the words of the form begin with `n`
abbrev pub Registers : (ℕ → ℕ → Form) → ℕ → Type 0
Registers form n = (w : ℕ) → w / 1024 ≡ n → one_word_form w ≡ Some (form (destination_of w) (source_of w))

by_six : (n : ℕ) (form : ℕ → ℕ → Form) (d r w : ℕ) → (n == 36) || (n == 37) ≡ false → Registers form n → is_undefined (form d r) ≡ false → IsTrue (two_registers (1024 * n) d r).in_range
    → the_form (two_registers (1024 * n) d r).first w ≡ Some (form d r)
by_six n form d r w other begins defined fits =
    let fields = registers_of n d r fits in
    let one : one_word_form (two_registers (1024 * n) d r).first ≡ Some (form d r) = rw (begins (two_registers (1024 * n) d r).first fields.0, fields.1, fields.2) refl in
    means (two_registers (1024 * n) d r).first w (form d r) (short_by_six n (two_registers (1024 * n) d r).first other fields.0) one defined

fourth : (n m w : ℕ) → n / 4 ≡ m → w / 1024 ≡ n → w / 4096 ≡ m
fourth n m w part leading = omega arith

-- the first word of the operation begins with the leading bits of its opcode
pub two_begins : (op : TwoOp) → Registers (λ d r. Two op d r) (two_opcode op / 1024)
unfolding one_word_form form_0000 form_0001 form_0010 form_1001
two_begins Cpc w leading = rw (fourth 1 0 w refl leading, leading) refl
two_begins op w leading = rw (fourth (two_opcode op / 1024) (two_opcode op / 4096) w refl leading, leading) refl

pub cpse_begins : Registers (λ d r. Cpse d r) 4
unfolding one_word_form form_0001
cpse_begins w leading = rw (fourth 4 1 w refl leading, leading) refl

pub two_complete : (op : TwoOp) (d r w : ℕ) → IsTrue (is_valid (Two op d r)) → the_form (first_word (Two op d r)) w ≡ Some (Two op d r)
unfolding first_word fields_in_range is_undefined
two_complete Cpc d r w valid = by_six 1 (λ d r. Two Cpc d r) d r w refl (two_begins Cpc) refl (fields_fit (Two Cpc d r) valid)
two_complete op d r w valid = by_six (two_opcode op / 1024) (λ d r. Two op d r) d r w refl (two_begins op) refl (fields_fit (Two op d r) valid)

pub cpse_complete : (d r w : ℕ) → IsTrue (is_valid (Cpse d r)) → the_form (first_word (Cpse d r)) w ≡ Some (Cpse d r)
unfolding first_word fields_in_range is_undefined
cpse_complete d r w valid = by_six 4 (λ d r. Cpse d r) d r w refl cpse_begins refl (fields_fit (Cpse d r) valid)

-- A register and a constant, after four bits. ------------------------------------------------------

fields_of : (n d k : ℕ) → IsTrue (high_register_and_byte (4096 * n) d k).in_range
    → ((high_register_and_byte (4096 * n) d k).first / 4096 ≡ n) × (high_destination_of (high_register_and_byte (4096 * n) d k).first ≡ d)
    × (constant_of (high_register_and_byte (4096 * n) d k).first ≡ k)
fields_of n d k fits =
    let ranges : (15 < d) × (d < 32) × (k < 256) = grind (arith, nat_tests) in
    let leading : (high_register_and_byte (4096 * n) d k).first / 4096 ≡ n = omega arith in
    let register : high_destination_of (high_register_and_byte (4096 * n) d k).first ≡ d = omega arith in
    let constant : constant_of (high_register_and_byte (4096 * n) d k).first ≡ k = omega arith in
    (leading, register, constant)

short_by_leading : (n w : ℕ) → (n == 9) ≡ false → w / 4096 ≡ n → is_long w ≡ false
unfolding is_long
short_by_leading n w other leading = grind (arith, nat_tests)

-- the words of the operation begin with `n`
abbrev pub Begins : ImmOp → ℕ → Type 0
Begins op n = (w : ℕ) → w / 4096 ≡ n → one_word_form w ≡ Some (immediate_of op w)

by_leading : (n : ℕ) (op : ImmOp) (d k w : ℕ) → (n == 9) ≡ false → Begins op n → IsTrue (high_register_and_byte (4096 * n) d k).in_range
    → the_form (high_register_and_byte (4096 * n) d k).first w ≡ Some (Imm op d k)
unfolding the_form if_defined defined_form is_undefined
by_leading n op d k w other begins fits =
    let fields = fields_of n d k fits in
    rw (short_by_leading n (high_register_and_byte (4096 * n) d k).first other fields.0, begins (high_register_and_byte (4096 * n) d k).first fields.0, fields.1, fields.2) refl

pub begins : (op : ImmOp) → Begins op (imm_opcode op / 4096)
unfolding one_word_form
begins Cpi w leading = rw leading refl
begins _ w leading = rw leading refl

pub immediate_complete : (op : ImmOp) (d k w : ℕ) → IsTrue (is_valid (Imm op d k)) → the_form (first_word (Imm op d k)) w ≡ Some (Imm op d k)
unfolding first_word fields_in_range
immediate_complete Cpi d k w valid = by_leading 3 Cpi d k w refl (begins Cpi) (fields_fit (Imm Cpi d k) valid)
immediate_complete op d k w valid = by_leading (imm_opcode op / 4096) op d k w refl (begins op) (fields_fit (Imm op d k) valid)

-- A distance, after four bits. ---------------------------------------------------------------------

distance_of : (n : ℕ) (k : ℤ) → IsTrue (jump 0 k).in_range → ((jump (4096 * n) k).first / 4096 ≡ n) × (jump_of (jump (4096 * n) k).first ≡ k)
distance_of n (pos k) fits =
    let bound : k < 2048 = grind (arith, nat_tests) in
    let low : (4096 * n + k) % 4096 ≡ k = omega arith in
    let sign : nat_lt k 2048 ≡ true = grind (arith, nat_tests) in
    (omega arith, rw (low, sign) refl)
distance_of n (negsuc k) fits =
    let bound : k < 2048 = grind (arith, nat_tests) in
    let low : (4096 * n + (4095 - k)) % 4096 ≡ 4095 - k = omega arith in
    let sign : nat_lt (4095 - k) 2048 ≡ false = grind (arith, nat_tests) in
    let back : 4095 - (4095 - k) ≡ k = omega arith in
    (omega arith, rw (low, sign, back) refl)

abbrev pub Jumps : (ℤ → Form) → ℕ → Type 0
Jumps form n = (w : ℕ) → w / 4096 ≡ n → one_word_form w ≡ Some (form (jump_of w))

by_jump : (n : ℕ) (k : ℤ) (form : ℤ → Form) (w : ℕ) → (n == 9) ≡ false → Jumps form n → is_undefined (form k) ≡ false → IsTrue (jump 0 k).in_range
    → the_form (jump (4096 * n) k).first w ≡ Some (form k)
by_jump n k form w other begins defined fits =
    let first : ℕ = (jump (4096 * n) k).first in
    let fields = distance_of n k fits in
    let one : one_word_form first ≡ Some (form k) = rw (begins first fields.0, fields.1) refl in
    means first w (form k) (short_by_leading n first other fields.0) one defined

pub rjmp_begins : Jumps (λ k. Rjmp k) 12
unfolding one_word_form
rjmp_begins w leading = rw leading refl

pub rcall_begins : Jumps (λ k. Rcall k) 13
unfolding one_word_form
rcall_begins w leading = rw leading refl

pub rjmp_complete : (k : ℤ) (w : ℕ) → IsTrue (is_valid (Rjmp k)) → the_form (first_word (Rjmp k)) w ≡ Some (Rjmp k)
unfolding first_word fields_in_range is_undefined
rjmp_complete k w valid = by_jump 12 k (λ k. Rjmp k) w refl rjmp_begins refl (fields_fit (Rjmp k) valid)

pub rcall_complete : (k : ℤ) (w : ℕ) → IsTrue (is_valid (Rcall k)) → the_form (first_word (Rcall k)) w ≡ Some (Rcall k)
unfolding first_word fields_in_range is_undefined
rcall_complete k w valid = by_jump 13 k (λ k. Rcall k) w refl rcall_begins refl (fields_fit (Rcall k) valid)

-- A register and a port, after five bits. ----------------------------------------------------------

port_of : (n d a : ℕ) → d < 32 → a < 64
    → ((register_and_io (2048 * n) d a).first / 2048 ≡ n) × (destination_of (register_and_io (2048 * n) d a).first ≡ d) × (io_of (register_and_io (2048 * n) d a).first ≡ a)
port_of n d a register port =
    let destination : destination_of (register_and_io (2048 * n) d a).first ≡ d = omega arith in
    let address : io_of (register_and_io (2048 * n) d a).first ≡ a = omega arith in
    (omega arith, destination, address)

half : (n m w : ℕ) → n / 2 ≡ m → w / 2048 ≡ n → w / 4096 ≡ m
half n m w part leading = omega arith

pub in_begins : (w : ℕ) → w / 2048 ≡ 22 → one_word_form w ≡ Some (InIo (destination_of w) (io_of w))
unfolding one_word_form io_form
in_begins w leading = rw (half 22 11 w refl leading, leading) refl

pub out_begins : (w : ℕ) → w / 2048 ≡ 23 → one_word_form w ≡ Some (OutIo (io_of w) (destination_of w))
unfolding one_word_form io_form
out_begins w leading = rw (half 23 11 w refl leading, leading) refl

by_port : (n : ℕ) (form : ℕ → ℕ → Form) (d a w : ℕ) → n / 2 ≡ 11 → ((w : ℕ) → w / 2048 ≡ n → one_word_form w ≡ Some (form (destination_of w) (io_of w)))
    → is_undefined (form d a) ≡ false → (d < 32) × (a < 64) → the_form (register_and_io (2048 * n) d a).first w ≡ Some (form d a)
by_port n form d a w part begins defined ranges =
    let first : ℕ = (register_and_io (2048 * n) d a).first in
    let fields = port_of n d a ranges.0 ranges.1 in
    let one : one_word_form first ≡ Some (form d a) = rw (begins first fields.0, fields.1, fields.2) refl in
    means first w (form d a) (short_by_leading 11 first refl (half n 11 first part fields.0)) one defined

pub in_complete : (d a w : ℕ) → IsTrue (is_valid (InIo d a)) → the_form (first_word (InIo d a)) w ≡ Some (InIo d a)
unfolding first_word fields_in_range is_undefined
in_complete d a w valid = by_port 22 (λ d a. InIo d a) d a w refl in_begins refl (both_below 32 64 d a (fields_fit (InIo d a) valid))

pub out_complete : (a r w : ℕ) → IsTrue (is_valid (OutIo a r)) → the_form (first_word (OutIo a r)) w ≡ Some (OutIo a r)
unfolding first_word fields_in_range is_undefined
out_complete a r w valid = by_port 23 (λ r a. OutIo a r) r a w refl out_begins refl (both_below 32 64 r a (fields_fit (OutIo a r) valid))

-- A register and a displacement, after bits apart. -------------------------------------------------

-- bits 15 and 14 are 10, bit 12 is 0, bits 9 and 3 are `s` and `y`
pub record Apart (s y w : ℕ) : Type 0 where
  pub high : w / 16384 ≡ 2
  pub middle : w / 4096 % 2 ≡ 0
  pub store : w / 512 % 2 ≡ s
  pub base : w / 8 % 2 ≡ y

displaced_of : (s y d q : ℕ) → s < 2 → y < 2 → d < 32 → q < 64
    → Apart s y (register_and_displacement (32768 + (512 * s + 8 * y)) d q).first × (destination_of (register_and_displacement (32768 + (512 * s + 8 * y)) d q).first ≡ d)
    × (displacement_of (register_and_displacement (32768 + (512 * s + 8 * y)) d q).first ≡ q)
displaced_of s y d q store base register displacement =
    let destination : destination_of (register_and_displacement (32768 + (512 * s + 8 * y)) d q).first ≡ d = omega arith in
    let distance : displacement_of (register_and_displacement (32768 + (512 * s + 8 * y)) d q).first ≡ q = omega arith in
    (record { high = omega arith; middle = omega arith; store = omega arith; base = omega arith }, destination, distance)

short_apart : (s y w : ℕ) → Apart s y w → is_long w ≡ false
unfolding is_long
short_apart s y w apart =
    grind (arith, nat_tests)

displaced_by_test : (w : ℕ) (low : Bool) → (w / 4096 == 8) ≡ low → w / 16384 ≡ 2 → w / 4096 % 2 ≡ 0 → one_word_form w ≡ displaced_form w
unfolding one_word_form
displaced_by_test w true test high middle =
    rw (eqb-true _ _ test) refl
displaced_by_test w false test high middle =
    let at : w / 4096 ≡ 10 = grind (arith, nat_tests) in
    rw at refl

abbrev pub Displaced : (ℕ → ℕ → Form) → ℕ → ℕ → Type 0
Displaced form s y = (w : ℕ) → Apart s y w → one_word_form w ≡ Some (form (destination_of w) (displacement_of w))

pub load_z_begins : Displaced (λ d q. LoadOff d Z q) 0 0
unfolding displaced_form
load_z_begins w apart = rw (displaced_by_test w (w / 4096 == 8) refl apart.high apart.middle, apart.store, apart.base) refl

pub load_y_begins : Displaced (λ d q. LoadOff d Y q) 0 1
unfolding displaced_form
load_y_begins w apart = rw (displaced_by_test w (w / 4096 == 8) refl apart.high apart.middle, apart.store, apart.base) refl

pub store_z_begins : Displaced (λ d q. StoreOff Z q d) 1 0
unfolding displaced_form
store_z_begins w apart = rw (displaced_by_test w (w / 4096 == 8) refl apart.high apart.middle, apart.store, apart.base) refl

pub store_y_begins : Displaced (λ d q. StoreOff Y q d) 1 1
unfolding displaced_form
store_y_begins w apart = rw (displaced_by_test w (w / 4096 == 8) refl apart.high apart.middle, apart.store, apart.base) refl

by_bits : (s y : ℕ) (form : ℕ → ℕ → Form) (d q w : ℕ) → s < 2 → y < 2 → Displaced form s y → is_undefined (form d q) ≡ false → (d < 32) × (q < 64)
    → the_form (register_and_displacement (32768 + (512 * s + 8 * y)) d q).first w ≡ Some (form d q)
by_bits s y form d q w store base begins defined ranges =
    let first : ℕ = (register_and_displacement (32768 + (512 * s + 8 * y)) d q).first in
    let fields = displaced_of s y d q store base ranges.0 ranges.1 in
    let one : one_word_form first ≡ Some (form d q) = rw (begins first fields.0, fields.1, fields.2) refl in
    means first w (form d q) (short_apart s y first fields.0) one defined

pub load_displaced_complete : (base : Base) (d q w : ℕ) → IsTrue (is_valid (LoadOff d base q)) → the_form (first_word (LoadOff d base q)) w ≡ Some (LoadOff d base q)
unfolding first_word fields_in_range is_undefined
load_displaced_complete Y d q w valid =
    by_bits 0 1 (λ d q. LoadOff d Y q) d q w (omega arith) (omega arith) load_y_begins refl (both_below 32 64 d q (fields_fit (LoadOff d Y q) valid))
load_displaced_complete Z d q w valid =
    by_bits 0 0 (λ d q. LoadOff d Z q) d q w (omega arith) (omega arith) load_z_begins refl (both_below 32 64 d q (fields_fit (LoadOff d Z q) valid))

pub store_displaced_complete : (base : Base) (q r w : ℕ) → IsTrue (is_valid (StoreOff base q r)) → the_form (first_word (StoreOff base q r)) w ≡ Some (StoreOff base q r)
unfolding first_word fields_in_range is_undefined
store_displaced_complete Y q r w valid =
    by_bits 1 1 (λ d q. StoreOff Y q d) r q w (omega arith) (omega arith) store_y_begins refl (both_below 32 64 r q (fields_fit (StoreOff Y q r) valid))
store_displaced_complete Z q r w valid =
    by_bits 1 0 (λ d q. StoreOff Z q d) r q w (omega arith) (omega arith) store_z_begins refl (both_below 32 64 r q (fields_fit (StoreOff Z q r) valid))

-- A port and a bit, after eight bits. --------------------------------------------------------------

port_bit_of : (n a b : ℕ) → a < 32 → b < 8 → ((io_and_bit (256 * n) a b).first / 256 ≡ n) × (low_io_of (io_and_bit (256 * n) a b).first ≡ a) × (bit_of (io_and_bit (256 * n) a b).first ≡ b)
port_bit_of n a b port bit =
    let address : low_io_of (io_and_bit (256 * n) a b).first ≡ a = omega arith in
    let place : bit_of (io_and_bit (256 * n) a b).first ≡ b = omega arith in
    (omega arith, address, place)

eight_bits : (m w : ℕ) → m < 4 → w / 256 ≡ 152 + m → (w / 4096 ≡ 9) × (w / 1024 ≡ 38) × (w / 256 % 4 ≡ m)
eight_bits m w part leading =
    let six : w / 1024 ≡ 38 = omega arith in
    let two : w / 256 % 4 ≡ m = omega arith in
    (omega arith, six, two)

abbrev PortBits : (ℕ → ℕ → Form) → ℕ → Type 0
PortBits form m = (w : ℕ) → w / 4096 ≡ 9 → w / 1024 ≡ 38 → w / 256 % 4 ≡ m → one_word_form w ≡ Some (form (low_io_of w) (bit_of w))

by_eight : (m : ℕ) (form : ℕ → ℕ → Form) (a b w : ℕ) → m < 4 → PortBits form m → is_undefined (form a b) ≡ false → (a < 32) × (b < 8)
    → the_form (io_and_bit (256 * (152 + m)) a b).first w ≡ Some (form a b)
by_eight m form a b w part begins defined ranges =
    let first : ℕ = (io_and_bit (256 * (152 + m)) a b).first in
    let fields = port_bit_of (152 + m) a b ranges.0 ranges.1 in
    let bits = eight_bits m first part fields.0 in
    let one : one_word_form first ≡ Some (form a b) = rw (begins first bits.0 bits.1 bits.2, fields.1, fields.2) refl in
    means first w (form a b) (short_by_six 38 first refl bits.1) one defined

pub cbi_complete : (a b w : ℕ) → IsTrue (is_valid (Cbi a b)) → the_form (first_word (Cbi a b)) w ≡ Some (Cbi a b)
unfolding first_word fields_in_range is_undefined one_word_form form_1001 io_bit_form
cbi_complete a b w valid = by_eight 0 (λ a b. Cbi a b) a b w (omega arith) (λ _ four six two. rw (four, six, two) refl) refl (both_below 32 8 a b (fields_fit (Cbi a b) valid))

pub sbic_complete : (a b w : ℕ) → IsTrue (is_valid (Sbic a b)) → the_form (first_word (Sbic a b)) w ≡ Some (Sbic a b)
unfolding first_word fields_in_range is_undefined one_word_form form_1001 io_bit_form
sbic_complete a b w valid = by_eight 1 (λ a b. Sbic a b) a b w (omega arith) (λ _ four six two. rw (four, six, two) refl) refl (both_below 32 8 a b (fields_fit (Sbic a b) valid))

pub sbi_complete : (a b w : ℕ) → IsTrue (is_valid (Sbi a b)) → the_form (first_word (Sbi a b)) w ≡ Some (Sbi a b)
unfolding first_word fields_in_range is_undefined one_word_form form_1001 io_bit_form
sbi_complete a b w valid = by_eight 2 (λ a b. Sbi a b) a b w (omega arith) (λ _ four six two. rw (four, six, two) refl) refl (both_below 32 8 a b (fields_fit (Sbi a b) valid))

pub sbis_complete : (a b w : ℕ) → IsTrue (is_valid (Sbis a b)) → the_form (first_word (Sbis a b)) w ≡ Some (Sbis a b)
unfolding first_word fields_in_range is_undefined one_word_form form_1001 io_bit_form
sbis_complete a b w valid = by_eight 3 (λ a b. Sbis a b) a b w (omega arith) (λ _ four six two. rw (four, six, two) refl) refl (both_below 32 8 a b (fields_fit (Sbis a b) valid))

-- A flag and a distance, after six bits. -----------------------------------------------------------

branch_fields : (n s : ℕ) (k : ℤ) → IsTrue (flag_and_branch 0 s k).in_range
    → ((flag_and_branch (1024 * n) s k).first / 1024 ≡ n) × (bit_of (flag_and_branch (1024 * n) s k).first ≡ s) × (branch_of (flag_and_branch (1024 * n) s k).first ≡ k)
branch_fields n s (pos k) fits =
    let bounds : (s < 8) × (k < 64) = (is_below 8 s (and_parts _ _ fits).0, grind (arith, nat_tests)) in
    let bit : bit_of (1024 * n + (8 * k + s)) ≡ s = omega arith in
    let low : (1024 * n + (8 * k + s)) / 8 % 128 ≡ k = omega arith in
    let sign : nat_lt k 64 ≡ true = grind (arith, nat_tests) in
    (omega arith, bit, rw (low, sign) refl)
branch_fields n s (negsuc k) fits =
    let bounds : (s < 8) × (k < 64) = (is_below 8 s (and_parts _ _ fits).0, grind (arith, nat_tests)) in
    let bit : bit_of (1024 * n + (8 * (127 - k) + s)) ≡ s = omega arith in
    let low : (1024 * n + (8 * (127 - k) + s)) / 8 % 128 ≡ 127 - k = omega arith in
    let sign : nat_lt (127 - k) 64 ≡ false = grind (arith, nat_tests) in
    let back : 127 - (127 - k) ≡ k = omega arith in
    (omega arith, bit, rw (low, sign, back) refl)

abbrev Branches : (ℕ → ℤ → Form) → ℕ → Type 0
Branches form n = (w : ℕ) → w / 1024 ≡ n → one_word_form w ≡ Some (form (bit_of w) (branch_of w))

by_branch : (n s : ℕ) (k : ℤ) (form : ℕ → ℤ → Form) (w : ℕ) → (n == 36) || (n == 37) ≡ false → Branches form n → is_undefined (form s k) ≡ false
    → IsTrue (flag_and_branch 0 s k).in_range → the_form (flag_and_branch (1024 * n) s k).first w ≡ Some (form s k)
by_branch n s k form w other begins defined fits =
    let first : ℕ = (flag_and_branch (1024 * n) s k).first in
    let fields = branch_fields n s k fits in
    let one : one_word_form first ≡ Some (form s k) = rw (begins first fields.0, fields.1, fields.2) refl in
    means first w (form s k) (short_by_six n first other fields.0) one defined

pub brbs_complete : (s : ℕ) (k : ℤ) (w : ℕ) → IsTrue (is_valid (Brbs s k)) → the_form (first_word (Brbs s k)) w ≡ Some (Brbs s k)
unfolding first_word fields_in_range is_undefined one_word_form form_1111
brbs_complete s k w valid = by_branch 60 s k (λ s k. Brbs s k) w refl (λ v leading. rw (fourth 60 15 v refl leading, leading) refl) refl (fields_fit (Brbs s k) valid)

pub brbc_complete : (s : ℕ) (k : ℤ) (w : ℕ) → IsTrue (is_valid (Brbc s k)) → the_form (first_word (Brbc s k)) w ≡ Some (Brbc s k)
unfolding first_word fields_in_range is_undefined one_word_form form_1111
brbc_complete s k w valid = by_branch 61 s k (λ s k. Brbc s k) w refl (λ v leading. rw (fourth 61 15 v refl leading, leading) refl) refl (fields_fit (Brbc s k) valid)
