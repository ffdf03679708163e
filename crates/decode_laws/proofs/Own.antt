-- What words mean has these words, where the leading bits are the instruction's own: by arithmetic.
use Rattle.std.proofs.Common.{◌≡◌, ℕ, ℤ, pos, negsuc, ◌+◌, ◌-◌, ◌*◌, ◌/◌, ◌%◌, ◌<◌, Bool, true, false, cond, ◌&&◌, ◌||◌, ◌==◌, Option, Some, None, is_none, refl, arith}
use Rattle.std.specs.Prelude.{nat_lt}
use Rattle.std.proofs.lemmas.Bool.{and_parts, eqb-true}
use Rattle.std.proofs.lemmas.Bool.Decides.{nat_tests}
use Rattle.avr_isa.specs.declared.form.Form.{Form}
use Rattle.avr_isa.specs.declared.form.Form.TheVariants.{LoadOff, StoreOff, Cpse, Imm, Rcall, Rjmp, Two}
use Rattle.avr_isa.specs.declared.operation.ImmOp.{ImmOp}
use Rattle.avr_isa.specs.declared.operation.ImmOp.TheVariants.{Cpi, Sbci, Subi, Ori, Andi, Ldi}
use Rattle.avr_isa.specs.declared.operation.TwoOp.TheVariants.{Cpc, Sbc, Add, Cp, Sub, Adc, And, Eor, Or, Mov, Mul}
use Rattle.avr_isa.specs.declared.operation.Base.TheVariants.{Y, Z}
use Rattle.avr_isa.specs.InstructionTable.{register_and_displacement, high_register_and_byte, jump, two_registers}
use Rattle.avr_isa.specs.Instruction.{fields_in_range}
use Rattle.avr_isa.specs.Encoding.{first_word, second_word}
use Rattle.avr_decode.specs.Decoding.{displacement_of, one_word_form, constant_of, destination_of, high_destination_of, io_of, jump_of, source_of}
use Rattle.decode_laws.proofs.Leading.{Apart, Displaced, load_y_begins, load_z_begins, store_y_begins, store_z_begins, Begins, Jumps, Registers, begins, in_begins, out_begins, rcall_begins}
use Rattle.decode_laws.proofs.Leading.{rjmp_begins, cpse_begins, two_begins}

-- the form, if there is one, has one word, this one, and operands in range
unfoldable pub is_one_word : ℕ → Option Form → Bool
is_one_word w None = true
is_one_word w (Some f) = (first_word f == w) && fields_in_range f && is_none (second_word f)

-- the tests of two operands
fit : (x w a n b m : ℕ) → x ≡ w → a < n → b < m → ((x == w) && (nat_lt a n && nat_lt b m) && true) ≡ true
fit x w a n b m same first second = grind (arith, nat_tests)

registers_fit : (n : ℕ) (form : ℕ → ℕ → Form) (w : ℕ) → Registers form n
    → ((d r w : ℕ) → is_one_word w (Some (form d r)) ≡ (((two_registers (1024 * n) d r).first == w) && (two_registers (1024 * n) d r).in_range && true))
    → w / 1024 ≡ n → is_one_word w (one_word_form w) ≡ true
registers_fit n form w begins tests leading =
    rw (begins w leading, tests (destination_of w) (source_of w) w) (fit _ w (destination_of w) 32 (source_of w) 32 (omega arith) (omega arith) (omega arith))

immediate_tests : (x w d k : ℕ) → x ≡ w → 15 < d → d < 32 → k < 256 → ((x == w) && (high_register_and_byte 0 d k).in_range && true) ≡ true
immediate_tests x w d k same low high constant = grind (arith, nat_tests)

immediate_fits : (n : ℕ) (op : ImmOp) (w : ℕ) → Begins op n
    → ((d k w : ℕ) → is_one_word w (Some (Imm op d k)) ≡ (((high_register_and_byte (4096 * n) d k).first == w) && (high_register_and_byte (4096 * n) d k).in_range && true))
    → w / 4096 ≡ n → is_one_word w (one_word_form w) ≡ true
immediate_fits n op w means tests leading =
    rw (means w leading, tests (high_destination_of w) (constant_of w) w) (immediate_tests _ w (high_destination_of w) (constant_of w) (omega arith) (omega arith) (omega arith) (omega arith))

jump_tests : (n w k : ℕ) (low : Bool) → nat_lt k 2048 ≡ low → k < 4096 → 4096 * n + k ≡ w
    → (((jump (4096 * n) (cond low (pos k) (negsuc (4095 - k)))).first == w) && (jump (4096 * n) (cond low (pos k) (negsuc (4095 - k)))).in_range && true) ≡ true
jump_tests n w k true low fits whole = grind (arith, nat_tests)
jump_tests n w k false low fits whole = grind (arith, nat_tests)

jump_fits : (n : ℕ) (form : ℤ → Form) (w : ℕ) → Jumps form n
    → ((k : ℤ) (w : ℕ) → is_one_word w (Some (form k)) ≡ (((jump (4096 * n) k).first == w) && (jump (4096 * n) k).in_range && true))
    → w / 4096 ≡ n → is_one_word w (one_word_form w) ≡ true
jump_fits n form w begins tests leading =
    rw (begins w leading, tests (jump_of w) w) (jump_tests n w (w % 4096) (nat_lt (w % 4096) 2048) refl (omega arith) (omega arith))

in_fits : (w : ℕ) → w / 2048 ≡ 22 → is_one_word w (one_word_form w) ≡ true
unfolding is_one_word first_word fields_in_range second_word
in_fits w leading =
    rw (in_begins w leading) (fit _ w (destination_of w) 32 (io_of w) 64 (omega arith) (omega arith) (omega arith))

out_fits : (w : ℕ) → w / 2048 ≡ 23 → is_one_word w (one_word_form w) ≡ true
unfolding is_one_word first_word fields_in_range second_word
out_fits w leading =
    rw (out_begins w leading) (fit _ w (destination_of w) 32 (io_of w) 64 (omega arith) (omega arith) (omega arith))

-- what the bits apart say of a word
whole_apart : (s y w : ℕ) → Apart s y w → (register_and_displacement (32768 + (512 * s + 8 * y)) (destination_of w) (displacement_of w)).first ≡ w
whole_apart s y w apart =
    omega arith

displaced_fits : (s y : ℕ) (form : ℕ → ℕ → Form) (w : ℕ) → Displaced form s y
    → ((d q w : ℕ) → is_one_word w (Some (form d q)) ≡ (((register_and_displacement (32768 + (512 * s + 8 * y)) d q).first == w) && (register_and_displacement 0 d q).in_range && true))
    → Apart s y w → is_one_word w (one_word_form w) ≡ true
displaced_fits s y form w means tests apart =
    rw (means w apart, tests (destination_of w) (displacement_of w) w) (fit _ w (destination_of w) 32 (displacement_of w) 64 (whole_apart s y w apart) (omega arith) (omega arith))

bit : (n : ℕ) → (n % 2 == 1) ≡ false → n % 2 ≡ 0
bit n h = grind (arith, nat_tests)

apart_fits : (store base : Bool) (w : ℕ) → (w / 512 % 2 == 1) ≡ store → (w / 8 % 2 == 1) ≡ base → w / 16384 ≡ 2 → w / 4096 % 2 ≡ 0 → is_one_word w (one_word_form w) ≡ true
unfolding is_one_word first_word fields_in_range second_word
apart_fits true true w s y high middle =
    displaced_fits 1 1 (λ d q. StoreOff Y q d) w store_y_begins (λ d q w. refl) (record { high = high; middle = middle; store = eqb-true _ _ s; base = eqb-true _ _ y })
apart_fits true false w s y high middle =
    displaced_fits 1 0 (λ d q. StoreOff Z q d) w store_z_begins (λ d q w. refl) (record { high = high; middle = middle; store = eqb-true _ _ s; base = bit (w / 8) y })
apart_fits false true w s y high middle =
    displaced_fits 0 1 (λ d q. LoadOff d Y q) w load_y_begins (λ d q w. refl) (record { high = high; middle = middle; store = bit (w / 512) s; base = eqb-true _ _ y })
apart_fits false false w s y high middle =
    displaced_fits 0 0 (λ d q. LoadOff d Z q) w load_z_begins (λ d q w. refl) (record { high = high; middle = middle; store = bit (w / 512) s; base = bit (w / 8) y })

pages_apart : (w : ℕ) → (w / 256 / 64 == 2) && (w / 256 / 16 % 2 == 0) ≡ true → is_one_word w (one_word_form w) ≡ true
pages_apart w h =
    let parts = and_parts _ _ h in
    let high : w / 256 / 64 ≡ 2 = eqb-true _ _ parts.0 in
    let middle : w / 256 / 16 % 2 ≡ 0 = eqb-true _ _ parts.1 in
    apart_fits (w / 512 % 2 == 1) (w / 8 % 2 == 1) w refl refl (omega arith) (omega arith)

choose : (b c : Bool) {P : Type 0} → (b ≡ true → P) → (c ≡ true → P) → b || c ≡ true → P
choose true c first second h = first refl
choose false c first second h = second h

six_bits : (n w : ℕ) → (w / 256 / 4 == n) ≡ true → w / 1024 ≡ n
six_bits n w h = let at : w / 256 / 4 ≡ n = eqb-true _ _ h in omega arith

five_bits : (n w : ℕ) → (w / 256 / 8 == n) ≡ true → w / 2048 ≡ n
five_bits n w h = let at : w / 256 / 8 ≡ n = eqb-true _ _ h in omega arith

four_bits : (n w : ℕ) → (w / 256 / 16 == n) ≡ true → w / 4096 ≡ n
four_bits n w h = let at : w / 256 / 16 ≡ n = eqb-true _ _ h in omega arith

-- the first bytes of these instructions
abbrev begins_wide : ℕ → Bool
begins_wide p = (p / 16 == 3) || ((p / 16 == 4) || ((p / 16 == 5) ||
    ((p / 16 == 6) || ((p / 16 == 7) || ((p / 16 == 14) || ((p / 16 == 12) || ((p / 16 == 13) || ((p / 8 == 22) || ((p / 8 == 23))))))))))

abbrev begins_registers : ℕ → Bool
begins_registers p = (p / 4 == 1) || ((p / 4 == 2) || ((p / 4 == 3) ||
    ((p / 4 == 5) || ((p / 4 == 6) || ((p / 4 == 7) || ((p / 4 == 8) || ((p / 4 == 9) || ((p / 4 == 10) || ((p / 4 == 11) || ((p / 4 == 39) || ((p / 4 == 4))))))))))))

wide_fit_all : (w : ℕ) → begins_wide (w / 256) ≡ true → is_one_word w (one_word_form w) ≡ true
unfolding is_one_word first_word fields_in_range second_word
wide_fit_all w =
    choose (w / 256 / 16 == 3) _ (λ h. immediate_fits 3 Cpi w (begins Cpi) (λ d k w. refl) (four_bits 3 w h)) (
    choose (w / 256 / 16 == 4) _ (λ h. immediate_fits 4 Sbci w (begins Sbci) (λ d k w. refl) (four_bits 4 w h)) (
    choose (w / 256 / 16 == 5) _ (λ h. immediate_fits 5 Subi w (begins Subi) (λ d k w. refl) (four_bits 5 w h)) (
    choose (w / 256 / 16 == 6) _ (λ h. immediate_fits 6 Ori w (begins Ori) (λ d k w. refl) (four_bits 6 w h)) (
    choose (w / 256 / 16 == 7) _ (λ h. immediate_fits 7 Andi w (begins Andi) (λ d k w. refl) (four_bits 7 w h)) (
    choose (w / 256 / 16 == 14) _ (λ h. immediate_fits 14 Ldi w (begins Ldi) (λ d k w. refl) (four_bits 14 w h)) (
    choose (w / 256 / 16 == 12) _ (λ h. jump_fits 12 (λ k. Rjmp k) w rjmp_begins (λ k w. refl) (four_bits 12 w h)) (
    choose (w / 256 / 16 == 13) _ (λ h. jump_fits 13 (λ k. Rcall k) w rcall_begins (λ k w. refl) (four_bits 13 w h)) (
    choose (w / 256 / 8 == 22) _ (λ h. in_fits w (five_bits 22 w h)) (
    λ h. out_fits w (five_bits 23 w h))))))))))

registers_fit_all : (w : ℕ) → begins_registers (w / 256) ≡ true → is_one_word w (one_word_form w) ≡ true
unfolding is_one_word first_word fields_in_range second_word
registers_fit_all w =
    choose (w / 256 / 4 == 1) _ (λ h. registers_fit 1 (λ d r. Two Cpc d r) w (two_begins Cpc) (λ d r w. refl) (six_bits 1 w h)) (
    choose (w / 256 / 4 == 2) _ (λ h. registers_fit 2 (λ d r. Two Sbc d r) w (two_begins Sbc) (λ d r w. refl) (six_bits 2 w h)) (
    choose (w / 256 / 4 == 3) _ (λ h. registers_fit 3 (λ d r. Two Add d r) w (two_begins Add) (λ d r w. refl) (six_bits 3 w h)) (
    choose (w / 256 / 4 == 5) _ (λ h. registers_fit 5 (λ d r. Two Cp d r) w (two_begins Cp) (λ d r w. refl) (six_bits 5 w h)) (
    choose (w / 256 / 4 == 6) _ (λ h. registers_fit 6 (λ d r. Two Sub d r) w (two_begins Sub) (λ d r w. refl) (six_bits 6 w h)) (
    choose (w / 256 / 4 == 7) _ (λ h. registers_fit 7 (λ d r. Two Adc d r) w (two_begins Adc) (λ d r w. refl) (six_bits 7 w h)) (
    choose (w / 256 / 4 == 8) _ (λ h. registers_fit 8 (λ d r. Two And d r) w (two_begins And) (λ d r w. refl) (six_bits 8 w h)) (
    choose (w / 256 / 4 == 9) _ (λ h. registers_fit 9 (λ d r. Two Eor d r) w (two_begins Eor) (λ d r w. refl) (six_bits 9 w h)) (
    choose (w / 256 / 4 == 10) _ (λ h. registers_fit 10 (λ d r. Two Or d r) w (two_begins Or) (λ d r w. refl) (six_bits 10 w h)) (
    choose (w / 256 / 4 == 11) _ (λ h. registers_fit 11 (λ d r. Two Mov d r) w (two_begins Mov) (λ d r w. refl) (six_bits 11 w h)) (
    choose (w / 256 / 4 == 39) _ (λ h. registers_fit 39 (λ d r. Two Mul d r) w (two_begins Mul) (λ d r w. refl) (six_bits 39 w h)) (
    λ h. registers_fit 4 (λ d r. Cpse d r) w cpse_begins (λ d r w. refl) (six_bits 4 w h))))))))))))

-- a first byte after which the words are told by arithmetic
abbrev pub begins_own : ℕ → Bool
begins_own p = (p / 64 == 2) && (p / 16 % 2 == 0) || (begins_wide p || begins_registers p)

pub own_fits : (w : ℕ) → begins_own (w / 256) ≡ true → is_one_word w (one_word_form w) ≡ true
own_fits w = choose ((w / 256 / 64 == 2) && (w / 256 / 16 % 2 == 0)) (begins_wide (w / 256) || begins_registers (w / 256)) (pages_apart w)
    (choose (begins_wide (w / 256)) (begins_registers (w / 256)) (wide_fit_all w) (registers_fit_all w))
