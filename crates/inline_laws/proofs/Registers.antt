-- The registers with other halves of Z, r31:r30, which inline templates use.
use Rattle.std.proofs.Common.{◌≡◌, ℕ, ◌+◌, ◌*◌, ◌<◌, List, length, arith, ap, ap₂, sym, ◌∙◌}
use Rattle.std.specs.Prelude.{◌≢◌, slice_index, slice_set}
use Rattle.std.proofs.lemmas.List.{get_or-set_same, get_or-set_other, length-set, set-get_or, set-set, set_comm}
use Rattle.mote_core.specs.QuietSteps.{z_of}

abbrev pub with_halves : List ℕ → (low high : ℕ) → List ℕ
with_halves r low high = slice_set (slice_set r 30 low) 31 high

-- what they hold
pub high_half : (r : List ℕ) (low high : ℕ) → 31 < length r → slice_index (with_halves r low high) 31 ≡ high
high_half r low high long = get_or-set_same (slice_set r 30 low) 31 high 0 (omega (arith, length-set r 30 low))

pub low_half : (r : List ℕ) (low high : ℕ) → 31 < length r → slice_index (with_halves r low high) 30 ≡ low
low_half r low high long = get_or-set_other (slice_set r 30 low) 31 30 high 0 (λ same. omega arith) ∙ get_or-set_same r 30 low 0 (omega arith)

pub other_register : (r : List ℕ) (low high k : ℕ) → k ≢ 30 → k ≢ 31 → slice_index (with_halves r low high) k ≡ slice_index r k
other_register r low high k apart apart' = get_or-set_other (slice_set r 30 low) 31 k high 0 apart' ∙ get_or-set_other r 30 k low 0 apart

pub z_of_halves : (r : List ℕ) (low high : ℕ) → 31 < length r → z_of (with_halves r low high) ≡ low + 256 * high
z_of_halves r low high long = ap₂ (λ x y. x + 256 * y) (low_half r low high long) (high_half r low high long)

-- one half written, both, and their own
pub set_low : (r : List ℕ) (low high x : ℕ) → slice_set (with_halves r low high) 30 x ≡ with_halves r x high
set_low r low high x = set_comm (slice_set r 30 low) 31 30 high x (λ same. omega arith) ∙ ap (λ l. slice_set l 31 high) (set-set r 30 low x)

pub set_high : (r : List ℕ) (low high y : ℕ) → slice_set (with_halves r low high) 31 y ≡ with_halves r low y
set_high r low high y = set-set (slice_set r 30 low) 31 high y

pub set_halves : (r : List ℕ) (low high x y : ℕ) → with_halves (with_halves r low high) x y ≡ with_halves r x y
set_halves r low high x y = ap (λ l. slice_set l 31 y) (set_low r low high x) ∙ set_high r x high y

pub set_first : (r : List ℕ) (x high : ℕ) → slice_index r 31 ≡ high → slice_set r 30 x ≡ with_halves r x high
set_first r x high is =
    let r' = slice_set r 30 x in
    sym (ap (slice_set r' 31) (sym (get_or-set_other r 30 31 x 0 (λ same. omega arith) ∙ is)) ∙ set-get_or r' 31 0)

pub own_halves : (r : List ℕ) (low high : ℕ) → slice_index r 30 ≡ low → slice_index r 31 ≡ high → with_halves r low high ≡ r
own_halves r low high is_low is_high = ap (λ x. with_halves r x high) (sym is_low) ∙ sym (set_first r (slice_index r 30) high is_high) ∙ set-get_or r 30 0

-- another register written
pub set_other : (r : List ℕ) (low high d x : ℕ) → d ≢ 30 → d ≢ 31 → slice_set (with_halves r low high) d x ≡ with_halves (slice_set r d x) low high
set_other r low high d x apart apart' =
    set_comm (slice_set r 30 low) 31 d high x (λ same. apart' (sym same)) ∙ ap (λ l. slice_set l 31 high) (set_comm r 30 d low x (λ same. apart (sym same)))
