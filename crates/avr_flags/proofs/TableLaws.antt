-- What the tables of flags hold, and that SREG is put together of what they give.
use Rattle.std.proofs.Common.{◌≡◌, ℕ, ◌<◌, ◌+◌, ◌%◌, ◌==◌, Bool, true, false, ◌&&◌, slice_index_or, bit_and, bit_or, bit_xor, refl, ◌∙◌, arith}
use Rattle.std.proofs.lemmas.Bool.{agree_below, agree_below_at, and_parts, eqb-true}
use Rattle.std.proofs.lemmas.Bool.Decides.{nat_tests}
use Rattle.std.proofs.lemmas.Nat.{and_mask}
use Rattle.avr_flags.specs.Status.{has_bit, differ, with_bit, with_result_flags, with_arithmetic_flags, carry, zero_flag}
use Rattle.avr_flags.specs.Logic.{result_of}
use Rattle.avr_flags.specs.declared.tables.TheConstants.{FLAGS, COUNTED}

-- whether two functions give the same at each index below n
abbrev same_below : (ℕ → ℕ) → (ℕ → ℕ) → ℕ → Bool
same_below f g n = agree_below (λ k. f k == g k) (λ _. true) n

same_at : (f g : ℕ → ℕ) (n k : ℕ) → same_below f g n ≡ true → k < n → f k ≡ g k
same_at f g n k h lt = eqb-true _ _ (agree_below_at (λ k. f k == g k) (λ _. true) n k h lt)

-- the flags that the carries into each bit tell, in a byte that is else clear
abbrev pub carries_flags : ℕ → ℕ
carries_flags k = with_arithmetic_flags 0 (has_bit k 16) false false (differ (has_bit k 128) (has_bit k 256)) (has_bit k 256)

-- the flags that a result tells
pub of_result : (value : ℕ) → value < 256 → slice_index_or FLAGS value 0 ≡ (result_of 0 value false).1
unfolding with_result_flags
of_result value lt = same_at (λ k. slice_index_or FLAGS k 0) (λ k. (result_of 0 k false).1) 256 value refl lt

of_nine_bits : (k : ℕ) → k < 512 → slice_index_or FLAGS (256 + k) 0 ≡ carries_flags k
unfolding with_result_flags
of_nine_bits k lt = same_at (λ k. slice_index_or FLAGS (256 + k) 0) carries_flags 512 k refl lt

low_bits : (k : ℕ) → carries_flags (k % 512) ≡ carries_flags k
low_bits k =
    let h : has_bit (k % 512) 16 ≡ has_bit k 16 = grind (arith, nat_tests) in
    let v : has_bit (k % 512) 128 ≡ has_bit k 128 = grind (arith, nat_tests) in
    let c : has_bit (k % 512) 256 ≡ has_bit k 256 = grind (arith, nat_tests) in
    rw (h, v, c) refl

pub of_carries : (k : ℕ) → slice_index_or FLAGS (256 + bit_and k 511) 0 ≡ carries_flags k
of_carries k = rw (and_mask k 9) (of_nine_bits (k % 512) (omega arith) ∙ low_bits k)

-- the carries into bits 7 and 8 alone
pub of_top_carries : (k : ℕ) → k < 512
    → carries_flags (bit_and k 384) ≡ with_arithmetic_flags 0 false false false (differ (has_bit k 128) (has_bit k 256)) (has_bit k 256)
unfolding with_result_flags
of_top_carries k lt =
    same_at (λ k. carries_flags (bit_and k 384)) (λ k. with_arithmetic_flags 0 false false false (differ (has_bit k 128) (has_bit k 256)) (has_bit k 256)) 512 k refl lt

-- the flags after INC and DEC of each byte
pub of_inc : (d : ℕ) → d < 256 → slice_index_or COUNTED d 0 ≡ (result_of 0 ((d + 1) % 256) (d == 0x7F)).1
unfolding with_result_flags
of_inc d lt = same_at (λ k. slice_index_or COUNTED k 0) (λ k. (result_of 0 ((k + 1) % 256) (k == 0x7F)).1) 256 d refl lt

pub of_dec : (d : ℕ) → d < 256 → slice_index_or COUNTED (256 + d) 0 ≡ (result_of 0 ((d + 255) % 256) (d == 0x80)).1
unfolding with_result_flags
of_dec d lt = same_at (λ k. slice_index_or COUNTED (256 + k) 0) (λ k. (result_of 0 ((k + 255) % 256) (k == 0x80)).1) 256 d refl lt

-- a test of a flag that holds whether it is set or clear
unfoldable both : (Bool → Bool) → Bool
both f = f true && f false

both_at : (f : Bool → Bool) (b : Bool) → both f ≡ true → f b ≡ true
unfolding both
both_at f true h = (and_parts (f true) (f false) h).0
both_at f false h = (and_parts (f true) (f false) h).1

-- SREG with T, I, H and C kept, and the flags of a result and V from a byte that is else clear
abbrev of_parts : Bool → Bool → Bool → ℕ → ℕ
of_parts n z v s = bit_or (bit_and s 225) (with_result_flags 0 n z v)

abbrev is_result : Bool → Bool → Bool → Bool
is_result n z v = same_below (of_parts n z v) (λ s. with_result_flags s n z v) 256

results : both (λ n. both (λ z. both (λ v. is_result n z v))) ≡ true
unfolding both with_result_flags
results = refl

pub with_result_made : (s : ℕ) (n z v : Bool) → s < 256 → of_parts n z v s ≡ with_result_flags s n z v
with_result_made s n z v lt =
    same_at (of_parts n z v) (λ s. with_result_flags s n z v) 256 s (both_at _ v (both_at _ z (both_at _ n results))) lt

-- SREG with T and I kept, from the flags of carries and of a result
abbrev of_both : Bool → Bool → Bool → Bool → Bool → ℕ → ℕ
of_both h n z v c s = bit_or (bit_and s 192) (bit_xor (with_arithmetic_flags 0 h false false v c) (with_result_flags 0 n z false))

-- that this is so, and that a mask then clears Z where it was clear
abbrev is_sum : Bool → Bool → Bool → Bool → Bool → Bool
is_sum h n z v c =
    same_below (of_both h n z v c) (λ s. with_arithmetic_flags s h n z v c) 256
    && same_below (λ s. bit_and (with_arithmetic_flags s h n z v c) (bit_or s 253)) (λ s. with_arithmetic_flags s h n (has_bit s zero_flag && z) v c) 256

sums : both (λ h. both (λ n. both (λ z. both (λ v. both (λ c. is_sum h n z v c))))) ≡ true
unfolding both with_result_flags
sums = refl

sum_at : (h n z v c : Bool) → is_sum h n z v c ≡ true
sum_at h n z v c = both_at _ c (both_at _ v (both_at _ z (both_at _ n (both_at _ h sums))))

pub with_sum_made : (s : ℕ) (h n z v c : Bool) → s < 256 → of_both h n z v c s ≡ with_arithmetic_flags s h n z v c
with_sum_made s h n z v c lt =
    same_at (of_both h n z v c) (λ s. with_arithmetic_flags s h n z v c) 256 s (and_parts _ _ (sum_at h n z v c)).0 lt

pub zero_kept : (s : ℕ) (h n z v c : Bool) → s < 256
    → bit_and (with_arithmetic_flags s h n z v c) (bit_or s 253) ≡ with_arithmetic_flags s h n (has_bit s zero_flag && z) v c
zero_kept s h n z v c lt =
    same_at (λ s. bit_and (with_arithmetic_flags s h n z v c) (bit_or s 253)) (λ s. with_arithmetic_flags s h n (has_bit s zero_flag && z) v c) 256 s (and_parts _ _ (sum_at h n z v c)).1 lt

-- SREG with T, I and H kept
abbrev of_top : Bool → Bool → Bool → Bool → ℕ → ℕ
of_top n z v c s = bit_or (bit_and s 224) (bit_xor (with_arithmetic_flags 0 false false false v c) (with_result_flags 0 n z false))

abbrev is_carried : Bool → Bool → Bool → Bool → Bool
is_carried n z v c = same_below (of_top n z v c) (λ s. with_result_flags (with_bit s carry c) n z v) 256

carried : both (λ n. both (λ z. both (λ v. both (λ c. is_carried n z v c)))) ≡ true
unfolding both with_result_flags
carried = refl

pub with_top_carries_made : (s : ℕ) (n z v c : Bool) → s < 256 → of_top n z v c s ≡ with_result_flags (with_bit s carry c) n z v
with_top_carries_made s n z v c lt =
    same_at (of_top n z v c) (λ s. with_result_flags (with_bit s carry c) n z v) 256 s (both_at _ c (both_at _ v (both_at _ z (both_at _ n carried)))) lt
