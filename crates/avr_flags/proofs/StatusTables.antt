-- The set's operations on one flag, compared with arithmetic on all bytes.
use Rattle.std.proofs.Common.{◌≡◌, ℕ, ◌<◌, ◌==◌, Bool, true, false, ◌&&◌, ◌⊎◌, if◌then◌else◌, bit_or, refl, arith}
use mathlib.Core.Logic.{⊎_elim}
use Rattle.std.proofs.lemmas.Bool.{agree_below, agree_below_at}
use Rattle.std.proofs.lemmas.Bool.Decides.{nat_tests}
use Rattle.bitflags.specs.Sets.{without}
use Rattle.avr_flags.specs.Status.{is_weight, with_bit}

-- whether inserting this flag into n and removing it make its bit so
abbrev is_set_by_arithmetic : ℕ → ℕ → Bool
is_set_by_arithmetic w n = (bit_or n w == with_bit n w true) && (without 8 n w == with_bit n w false)

each_weight : (w : ℕ) → is_weight w ≡ true → (w ≡ 1) ⊎ ((w ≡ 2) ⊎ ((w ≡ 4) ⊎ ((w ≡ 8) ⊎ ((w ≡ 16) ⊎ ((w ≡ 32) ⊎ ((w ≡ 64) ⊎ (w ≡ 128)))))))
each_weight w h = grind (arith, nat_tests)

-- the same over all bytes, one flag at a time
abbrev each_byte : ℕ → Bool
each_byte w = agree_below (is_set_by_arithmetic w) (λ _. true) 256

every_byte : (w : ℕ) → is_weight w ≡ true → each_byte w ≡ true
every_byte w h =
    let at : (v : ℕ) → each_byte v ≡ true → w ≡ v → each_byte w ≡ true = λ v all is. rw is all in
    ⊎_elim (at 1 refl) (⊎_elim (at 2 refl) (⊎_elim (at 4 refl) (⊎_elim (at 8 refl) (⊎_elim (at 16 refl) (⊎_elim (at 32 refl) (⊎_elim (at 64 refl) (at 128 refl)))))))
    (each_weight w h)

-- inserting or removing one flag makes its bit so
pub set_flag : (n w : ℕ) (v : Bool) → n < 256 → is_weight w ≡ true → (if v then bit_or n w else without 8 n w) ≡ with_bit n w v
set_flag n w true lt h =
    let p : is_set_by_arithmetic w n ≡ true = agree_below_at (is_set_by_arithmetic w) (λ _. true) 256 n (every_byte w h) lt in
    grind (arith, nat_tests)
set_flag n w false lt h =
    let p : is_set_by_arithmetic w n ≡ true = agree_below_at (is_set_by_arithmetic w) (λ _. true) 256 n (every_byte w h) lt in
    grind (arith, nat_tests)
