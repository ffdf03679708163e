-- Quiet steps that ask nothing of the space: IN and OUT of SREG, CPI, DEC, ADIW, SBIW, MOVW, branches, RJMP and JMP. The
-- registers and SREG afterwards are arguments with equations, so that steps can be chained.
use Rattle.std.proofs.Common.{◌≡◌, ℕ, ◌+◌, ◌-◌, ◌*◌, ◌%◌, ◌<◌, ◌==◌, Bool, true, false, cond, List, refl, ap, ap₂, arith, ◌∙◌}
use Rattle.std.specs.Prelude.{Some, slice_index, slice_set, pos, not, ◌^◌}
use Rattle.avr_isa.specs.declared.form.Form.TheVariants.{Movw, Imm, Word, One, InIo, OutIo, Brbs, Brbc, Rjmp, Jmp}
use Rattle.avr_isa.specs.declared.operation.ImmOp.TheVariants.{Cpi}
use Rattle.avr_isa.specs.declared.operation.OneOp.TheVariants.{Dec}
use Rattle.avr_isa.specs.declared.operation.WordOp.TheVariants.{Adiw, Sbiw}
use Rattle.avr_flags.specs.Status.{has_bit, carry}
use Rattle.avr_flags.specs.Sums.{sub_of}
use Rattle.avr_flags.specs.Logic.{result_of}
use Rattle.avr_flags.specs.Pairs.{pair_result_of, adiw_of, sbiw_of}
use Rattle.avr_exec.specs.declared.answer.Answer.TheVariants.{Done}
use Rattle.avr_isa.specs.Addresses.{wrapping_sum, relative}
use Rattle.avr_exec.specs.Registers.{own_byte, with_own_byte}
use Rattle.avr_exec.specs.Arithmetic.{immediate_of, word_of, one_of}
use Rattle.avr_exec.specs.Asks.{ask_of, finish_of, load_of, store_of}
use Rattle.avr_exec.specs.Effects.{loaded, stored}
use Rattle.avr_exec.specs.Execution.{answer_of, is_executed}
use Rattle.mote_core.specs.declared.mote.Mote.{Mote}
use Rattle.mote_core.specs.Conditions.{is_mapped}
use Rattle.mote_core.specs.QuietSteps.{IsQuiet, core, held, flash_form, z_of, with_z}
use Rattle.mote_core.proofs.QuietMemory.{pc_one}
use Rattle.mote_core.proofs.StepsByAnswer.{quiet_by, keeps_same}

-- IN and OUT of SREG, whose field A is 0x3F
pub quiet_in_status : (m : Mote) (r r' : List ℕ) (s pc : ℕ) (sram : List ℕ) (d : ℕ) → flash_form m pc ≡ Some (InIo d 0x3F) → pc + 1 < 65536 → slice_set r d s ≡ r'
    → IsQuiet (held m r s pc sram) (held m r' s (pc + 1) sram)
unfolding is_executed ask_of finish_of is_mapped load_of answer_of loaded own_byte
quiet_in_status m r r' s pc sram d is below value =
    quiet_by (held m r s pc sram) (InIo d 0x3F) Done sram (core m r' s (pc + 1)) is refl refl refl (ap (λ x. core m x s (wrapping_sum pc 1)) value ∙ pc_one m r' s pc below) (keeps_same sram)

pub quiet_out_status : (m : Mote) (r : List ℕ) (s s' pc : ℕ) (sram : List ℕ) (d : ℕ) → flash_form m pc ≡ Some (OutIo 0x3F d) → pc + 1 < 65536 → slice_index r d ≡ s'
    → IsQuiet (held m r s pc sram) (held m r s' (pc + 1) sram)
unfolding is_executed ask_of finish_of is_mapped store_of answer_of stored with_own_byte
quiet_out_status m r s s' pc sram d is below value =
    quiet_by (held m r s pc sram) (OutIo 0x3F d) Done sram (core m r s' (pc + 1)) is refl refl refl (ap (λ x. core m r x (wrapping_sum pc 1)) value ∙ pc_one m r s' pc below) (keeps_same sram)

-- CPI
pub quiet_cpi : (m : Mote) (r : List ℕ) (s s' pc : ℕ) (sram : List ℕ) (d k : ℕ) → flash_form m pc ≡ Some (Imm Cpi d k) → pc + 1 < 65536 → (sub_of s (slice_index r d) k).1 ≡ s'
    → IsQuiet (held m r s pc sram) (held m r s' (pc + 1) sram)
unfolding is_executed ask_of finish_of is_mapped answer_of immediate_of
quiet_cpi m r s s' pc sram d k is below value =
    quiet_by (held m r s pc sram) (Imm Cpi d k) Done sram (core m r s' (pc + 1)) is refl refl refl (ap (λ x. core m r x (wrapping_sum pc 1)) value ∙ pc_one m r s' pc below) (keeps_same sram)

-- what DEC makes of a byte, and of SREG
abbrev pub lowered : ℕ → ℕ → ℕ × ℕ
lowered s x = result_of s ((x + 255) % 256) (x == 0x80)

-- DEC
pub quiet_dec : (m : Mote) (r r' : List ℕ) (s s' pc : ℕ) (sram : List ℕ) (d : ℕ) → flash_form m pc ≡ Some (One Dec d) → pc + 1 < 65536 → slice_set r d (lowered s (slice_index r d)).0 ≡ r'
    → (lowered s (slice_index r d)).1 ≡ s' → IsQuiet (held m r s pc sram) (held m r' s' (pc + 1) sram)
unfolding is_executed ask_of finish_of is_mapped answer_of one_of
quiet_dec m r r' s s' pc sram d is below value status =
    quiet_by (held m r s pc sram) (One Dec d) Done sram (core m r' s' (pc + 1)) is refl refl refl (ap₂ (λ x y. core m x y (wrapping_sum pc 1)) value status ∙ pc_one m r' s' pc below) (keeps_same sram)

-- ADIW and SBIW of Z, and MOVW of Y to Z
pub quiet_adiw : (m : Mote) (r r' : List ℕ) (s pc : ℕ) (sram : List ℕ) (k : ℕ) → flash_form m pc ≡ Some (Word Adiw 30 k) → pc + 1 < 65536 → with_z r ((z_of r + k) % 65536) ≡ r'
    → IsQuiet (held m r s pc sram) (held m r' (adiw_of s (z_of r) k).1 (pc + 1) sram)
unfolding is_executed ask_of finish_of is_mapped answer_of word_of pair_result_of
quiet_adiw m r r' s pc sram k is below value =
    let s' = (adiw_of s (z_of r) k).1 in
    quiet_by (held m r s pc sram) (Word Adiw 30 k) Done sram (core m r' s' (pc + 1)) is refl refl refl (ap (λ x. core m x s' (wrapping_sum pc 1)) value ∙ pc_one m r' s' pc below) (keeps_same sram)

pub quiet_sbiw : (m : Mote) (r r' : List ℕ) (s pc : ℕ) (sram : List ℕ) (k : ℕ) → flash_form m pc ≡ Some (Word Sbiw 30 k) → pc + 1 < 65536 → with_z r ((z_of r + 65536 - k) % 65536) ≡ r'
    → IsQuiet (held m r s pc sram) (held m r' (sbiw_of s (z_of r) k).1 (pc + 1) sram)
unfolding is_executed ask_of finish_of is_mapped answer_of word_of pair_result_of
quiet_sbiw m r r' s pc sram k is below value =
    let s' = (sbiw_of s (z_of r) k).1 in
    quiet_by (held m r s pc sram) (Word Sbiw 30 k) Done sram (core m r' s' (pc + 1)) is refl refl refl (ap (λ x. core m x s' (wrapping_sum pc 1)) value ∙ pc_one m r' s' pc below) (keeps_same sram)

pub quiet_movw : (m : Mote) (r r' : List ℕ) (s pc : ℕ) (sram : List ℕ) → flash_form m pc ≡ Some (Movw 30 28) → pc + 1 < 65536 → with_z r (slice_index r 28 + 256 * slice_index r 29) ≡ r'
    → IsQuiet (held m r s pc sram) (held m r' s (pc + 1) sram)
unfolding is_executed ask_of finish_of is_mapped answer_of
quiet_movw m r r' s pc sram is below value =
    quiet_by (held m r s pc sram) (Movw 30 28) Done sram (core m r' s (pc + 1)) is refl refl refl (ap (λ x. core m x s (wrapping_sum pc 1)) value ∙ pc_one m r' s pc below) (keeps_same sram)

-- BRBS and BRBC forward, by what the flag is and where that leads
pub quiet_branch : (m : Mote) (r : List ℕ) (s pc pc' : ℕ) (sram : List ℕ) (b n : ℕ) (taken : Bool) → flash_form m pc ≡ Some (Brbs b (pos n)) → has_bit s (2 ^ b) ≡ taken
    → cond taken (relative pc (pos n)) (wrapping_sum pc 1) ≡ pc' → IsQuiet (held m r s pc sram) (held m r s pc' sram)
unfolding is_executed ask_of finish_of is_mapped answer_of
quiet_branch m r s pc pc' sram b n taken is test goes =
    quiet_by (held m r s pc sram) (Brbs b (pos n)) Done sram (core m r s pc') is refl refl refl (ap (λ t. core m r s (cond t (relative pc (pos n)) (wrapping_sum pc 1))) test ∙ ap (core m r s) goes)
    (keeps_same sram)

pub quiet_branch_clear : (m : Mote) (r : List ℕ) (s pc pc' : ℕ) (sram : List ℕ) (b n : ℕ) (set : Bool) → flash_form m pc ≡ Some (Brbc b (pos n)) → has_bit s (2 ^ b) ≡ set
    → cond (not set) (relative pc (pos n)) (wrapping_sum pc 1) ≡ pc' → IsQuiet (held m r s pc sram) (held m r s pc' sram)
unfolding is_executed ask_of finish_of is_mapped answer_of
quiet_branch_clear m r s pc pc' sram b n set is test goes =
    quiet_by (held m r s pc sram) (Brbc b (pos n)) Done sram (core m r s pc') is refl refl refl
    (ap (λ t. core m r s (cond (not t) (relative pc (pos n)) (wrapping_sum pc 1))) test ∙ ap (core m r s) goes) (keeps_same sram)

-- the pc behind a branch that is taken, and one that is not
behind_taken : (pc n : ℕ) → pc + 1 + n < 65536 → relative pc (pos n) ≡ pc + 1 + n
unfolding relative
behind_taken pc n below = omega arith

behind : (pc : ℕ) → pc + 1 < 65536 → wrapping_sum pc 1 ≡ pc + 1
behind pc below = omega arith

-- BRLO (BRBS of C), taken and not
pub quiet_brlo : (m : Mote) (r : List ℕ) (s pc : ℕ) (sram : List ℕ) (n : ℕ) → flash_form m pc ≡ Some (Brbs 0 (pos n)) → has_bit s carry ≡ true → pc + 1 + n < 65536
    → IsQuiet (held m r s pc sram) (held m r s (pc + 1 + n) sram)
quiet_brlo m r s pc sram n is test below = quiet_branch m r s pc (pc + 1 + n) sram 0 n true is test (behind_taken pc n below)

pub quiet_brlo_on : (m : Mote) (r : List ℕ) (s pc : ℕ) (sram : List ℕ) (n : ℕ) → flash_form m pc ≡ Some (Brbs 0 (pos n)) → has_bit s carry ≡ false → pc + 1 < 65536
    → IsQuiet (held m r s pc sram) (held m r s (pc + 1) sram)
quiet_brlo_on m r s pc sram n is test below = quiet_branch m r s pc (pc + 1) sram 0 n false is test (behind pc below)

-- BRSH (BRBC of C), taken and not
pub quiet_brsh : (m : Mote) (r : List ℕ) (s pc : ℕ) (sram : List ℕ) (n : ℕ) → flash_form m pc ≡ Some (Brbc 0 (pos n)) → has_bit s carry ≡ false → pc + 1 + n < 65536
    → IsQuiet (held m r s pc sram) (held m r s (pc + 1 + n) sram)
quiet_brsh m r s pc sram n is test below = quiet_branch_clear m r s pc (pc + 1 + n) sram 0 n false is test (behind_taken pc n below)

pub quiet_brsh_on : (m : Mote) (r : List ℕ) (s pc : ℕ) (sram : List ℕ) (n : ℕ) → flash_form m pc ≡ Some (Brbc 0 (pos n)) → has_bit s carry ≡ true → pc + 1 < 65536
    → IsQuiet (held m r s pc sram) (held m r s (pc + 1) sram)
quiet_brsh_on m r s pc sram n is test below = quiet_branch_clear m r s pc (pc + 1) sram 0 n true is test (behind pc below)

-- RJMP forward, and JMP
pub quiet_rjmp : (m : Mote) (r : List ℕ) (s pc : ℕ) (sram : List ℕ) (n : ℕ) → flash_form m pc ≡ Some (Rjmp (pos n)) → pc + 1 + n < 65536
    → IsQuiet (held m r s pc sram) (held m r s (pc + 1 + n) sram)
unfolding is_executed ask_of finish_of is_mapped answer_of relative
quiet_rjmp m r s pc sram n is below =
    let e : (pc + 1 + n) % 65536 ≡ pc + 1 + n = omega arith in
    quiet_by (held m r s pc sram) (Rjmp (pos n)) Done sram (core m r s (pc + 1 + n)) is refl refl refl (ap (core m r s) e) (keeps_same sram)

pub quiet_jmp : (m : Mote) (r : List ℕ) (s pc : ℕ) (sram : List ℕ) (target : ℕ) → flash_form m pc ≡ Some (Jmp target)
    → IsQuiet (held m r s pc sram) (held m r s target sram)
unfolding is_executed ask_of finish_of is_mapped answer_of
quiet_jmp m r s pc sram target is = quiet_by (held m r s pc sram) (Jmp target) Done sram (core m r s target) is refl refl refl refl (keeps_same sram)
