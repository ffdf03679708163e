-- The instructions of a crossing stub before its link: r24 and SREG are put away, COUNT is lowered, and both are put back
-- unless the quantum is over.
use Rattle.std.proofs.Common.{ℕ, ◌≡◌, ◌+◌, ◌%◌, ◌<◌, ◌≤◌, ◌∙◌, Bool, true, false, List, length, suc, refl, ap, arith}
use Rattle.std.specs.Prelude.{◌==◌, slice_set}
use Rattle.std.proofs.lemmas.Bool.Decides.{nat_tests}
use Rattle.std.proofs.lemmas.List.{get_or-set_same, set-get_or, set-set}
use Rattle.avr_isa.specs.Addresses.{relative}
use Rattle.avr_isa.specs.Encoding.{second_word}
use Rattle.avr_flags.specs.Status.{has_bit, with_bit, with_result_flags}
use Rattle.avr_exec.specs.Registers.{register}
use Rattle.sram_layout.specs.Bytes.{byte_at, with_byte}
use Rattle.sram_layout.proofs.Laws.{byte_same, length-with_byte}
use Rattle.sram_layout.specs.Cells.{count_cell, r24_cell, sreg_cell, vsp_cell}
use Rattle.nat_template.specs.Stubs.{count_down}
use Rattle.mote_core.specs.declared.mote.Mote.{Mote}
use Rattle.mote_core.specs.QuietSteps.{IsQuiet, held}
use Rattle.mote_core.proofs.StepsByAnswer.{keeps_cell}
use Rattle.mote_core.proofs.QuietMemory.{quiet_lds, quiet_sts}
use Rattle.mote_core.proofs.QuietCore.{lowered, quiet_branch, quiet_dec, quiet_in_status, quiet_out_status}
use Rattle.inline_laws.specs.InlineWays.{Passes, placed}
use Rattle.inline_laws.specs.Rows.{Row}
use Rattle.inline_laws.proofs.Steps.{then_step}
use Rattle.inline_laws.proofs.Cells.{byte_apart}

-- the bytes with r24 in its cell, and SREG too; then r24 and SREG behind the DEC, and the bytes with COUNT lowered
abbrev pub r24_away : Mote → List ℕ
r24_away m = with_byte m.sram r24_cell (register m.cpu 24)

abbrev pub put_away : Mote → List ℕ
put_away m = with_byte (r24_away m) sreg_cell m.cpu.sreg

abbrev count_of : Mote → ℕ
count_of m = byte_at (put_away m) count_cell

abbrev pub lowered_of : Mote → ℕ × ℕ
lowered_of m = lowered m.cpu.sreg (count_of m)

abbrev pub counted_down : Mote → List ℕ
counted_down m = with_byte (put_away m) count_cell (lowered_of m).0

-- COUNT before, and r24 and SREG in their cells
pub count_read : (m : Mote) → count_of m ≡ byte_at m.sram count_cell
count_read m = byte_apart (r24_away m) sreg_cell count_cell m.cpu.sreg (omega arith) ∙ byte_apart m.sram r24_cell count_cell (register m.cpu 24) (omega arith)

pub sreg_read : (m : Mote) → length m.sram ≡ 4096 → byte_at (counted_down m) sreg_cell ≡ m.cpu.sreg
sreg_read m whole =
    byte_apart (put_away m) count_cell sreg_cell (lowered_of m).0 (omega arith)
    ∙ byte_same (r24_away m) sreg_cell m.cpu.sreg (omega arith) (omega (arith, length-with_byte m.sram r24_cell (register m.cpu 24)))

pub r24_read : (m : Mote) → length m.sram ≡ 4096 → byte_at (counted_down m) r24_cell ≡ register m.cpu 24
r24_read m whole =
    byte_apart (put_away m) count_cell r24_cell (lowered_of m).0 (omega arith) ∙ byte_apart (r24_away m) sreg_cell r24_cell m.cpu.sreg (omega arith)
    ∙ byte_same m.sram r24_cell (register m.cpu 24) (omega arith) (omega arith)

-- the bytes behind the cells stay
pub down_kept : (m : Mote) (b : ℕ) → vsp_cell ≤ b → byte_at (counted_down m) b ≡ byte_at m.sram b
down_kept m b low =
    byte_apart (put_away m) count_cell b (lowered_of m).0 (omega arith) ∙ byte_apart (r24_away m) sreg_cell b m.cpu.sreg (omega arith)
    ∙ byte_apart m.sram r24_cell b (register m.cpu 24) (omega arith)

pub away_size : (m : Mote) → length (put_away m) ≡ length m.sram
away_size m = length-with_byte (r24_away m) sreg_cell m.cpu.sreg ∙ length-with_byte m.sram r24_cell (register m.cpu 24)

pub down_size : (m : Mote) → length (counted_down m) ≡ length m.sram
down_size m = length-with_byte (put_away m) count_cell (lowered_of m).0 ∙ away_size m

-- the branch is taken where the quantum is over
zero_made : (n : ℕ) (z : Bool) → has_bit (with_bit n 2 z) 2 ≡ z
zero_made n true = grind (arith, nat_tests)
zero_made n false = grind (arith, nat_tests)

pub taken_is : (m : Mote) → has_bit (lowered_of m).1 2 ≡ ((byte_at m.sram count_cell + 255) % 256 == 0)
unfolding with_result_flags
taken_is m = zero_made _ ((count_of m + 255) % 256 == 0) ∙ ap (λ n. (n + 255) % 256 == 0) (count_read m)

module _ (m : Mote) (w : ℕ) (low : w + 22 ≤ 0xF000) (long : 24 < length m.cpu.r) (row : Row m.flash.words w count_down) where
  pub first_step : IsQuiet (placed m w) (held m m.cpu.r m.cpu.sreg (w + 2) (r24_away m))
  unfolding second_word
  first_step = quiet_sts m m.cpu.r m.cpu.sreg w m.sram r24_cell 24 (register m.cpu 24) row.0 refl (omega arith) refl (keeps_cell m.sram r24_cell (register m.cpu 24) (omega arith) (omega arith))

  -- up to the branch
  lowers : (n : ℕ) (last : Mote) → Passes (w + 1) (w + 22) n (held m (slice_set m.cpu.r 24 (lowered_of m).0) (lowered_of m).1 (w + 2 + 1 + 2 + 2 + 1 + 2) (counted_down m)) last
      → Passes (w + 1) (w + 22) (suc (suc (suc (suc (suc n))))) (held m m.cpu.r m.cpu.sreg (w + 2) (r24_away m)) last
  unfolding second_word
  lowers n last rest =
      let s = m.cpu.sreg in
      let c = count_of m in
      let d = lowered_of m in
      let with_r24 = slice_set m.cpu.r 24 in
      let r24 = λ (v : ℕ). get_or-set_same m.cpu.r 24 v 0 long in
      then_step (w + 1) (w + 22) (suc (suc (suc (suc n)))) last (quiet_in_status m m.cpu.r (with_r24 s) s (w + 2) (r24_away m) 24 row.1.0 (omega arith) refl) (omega arith)
      (then_step (w + 1) (w + 22) (suc (suc (suc n))) last (quiet_sts m (with_r24 s) s (w + 2 + 1) (r24_away m) sreg_cell 24 s row.1.1.0 refl (omega arith) (r24 s)
      (keeps_cell (r24_away m) sreg_cell s (omega arith) (omega arith))) (omega arith)
      (then_step (w + 1) (w + 22) (suc (suc n)) last (quiet_lds m (with_r24 s) (with_r24 c) s (w + 2 + 1 + 2) (put_away m) 24 count_cell row.1.1.1.0 refl (omega arith) (set-set m.cpu.r 24 s c))
      (omega arith)
      (then_step (w + 1) (w + 22) (suc n) last (quiet_dec m (with_r24 c) (with_r24 d.0) s d.1 (w + 2 + 1 + 2 + 2) (put_away m) 24 row.1.1.1.1.0 (omega arith)
      (ap (λ v. slice_set (with_r24 c) 24 (lowered s v).0) (r24 c) ∙ set-set m.cpu.r 24 c d.0) (ap (λ v. (lowered s v).1) (r24 c))) (omega arith)
      (then_step (w + 1) (w + 22) n last (quiet_sts m (with_r24 d.0) d.1 (w + 2 + 1 + 2 + 2 + 1) (put_away m) count_cell 24 d.0 row.1.1.1.1.1.0 refl (omega arith) (r24 d.0)
      (keeps_cell (put_away m) count_cell d.0 (omega arith) (omega arith))) (omega arith)
      rest))))

  -- it isn't taken
  pub on_passes : length m.sram ≡ 4096 → has_bit (lowered_of m).1 2 ≡ false
      → Passes (w + 1) (w + 22) 9 (held m m.cpu.r m.cpu.sreg (w + 2) (r24_away m)) (held m m.cpu.r m.cpu.sreg (w + 16) (counted_down m))
  unfolding second_word
  on_passes size on =
      let s = m.cpu.sreg in
      let d = lowered_of m in
      let ram = counted_down m in
      let v = w + 2 + 1 + 2 + 2 + 1 + 2 in
      let with_r24 = slice_set m.cpu.r 24 in
      let last = held m m.cpu.r s (w + 16) ram in
      lowers 4 last (then_step (w + 1) (w + 22) 3 last (quiet_branch m (with_r24 d.0) d.1 v (v + 1) ram 1 8 false row.1.1.1.1.1.1.0 on (omega arith)) (omega arith)
      (then_step (w + 1) (w + 22) 2 last (quiet_lds m (with_r24 d.0) (with_r24 s) d.1 (v + 1) ram 24 sreg_cell row.1.1.1.1.1.1.1.0 refl (omega arith)
      (set-set m.cpu.r 24 d.0 (byte_at ram sreg_cell) ∙ ap with_r24 (sreg_read m size))) (omega arith)
      (then_step (w + 1) (w + 22) 1 last (quiet_out_status m (with_r24 s) d.1 s (v + 1 + 2) ram 24 row.1.1.1.1.1.1.1.1.0 (omega arith) (get_or-set_same m.cpu.r 24 s 0 long)) (omega arith)
      (then_step (w + 1) (w + 22) 0 last (quiet_lds m (with_r24 s) m.cpu.r s (v + 1 + 2 + 1) ram 24 r24_cell row.1.1.1.1.1.1.1.1.1.0 refl (omega arith)
      (set-set m.cpu.r 24 s (byte_at ram r24_cell) ∙ ap with_r24 (r24_read m size) ∙ set-get_or m.cpu.r 24 0)) (omega arith) (ap (λ p. held m m.cpu.r s p ram) (omega arith))))))

  -- it is taken
  pub over_passes : has_bit (lowered_of m).1 2 ≡ true
      → Passes (w + 1) (w + 22) 6 (held m m.cpu.r m.cpu.sreg (w + 2) (r24_away m)) (held m (slice_set m.cpu.r 24 (lowered_of m).0) (lowered_of m).1 (w + 19) (counted_down m))
  unfolding second_word relative
  over_passes over =
      let r = slice_set m.cpu.r 24 (lowered_of m).0 in
      let s = (lowered_of m).1 in
      let branch = quiet_branch m r s (w + 2 + 1 + 2 + 2 + 1 + 2) (w + 19) (counted_down m) 1 8 true row.1.1.1.1.1.1.0 over (omega arith) in
      lowers 1 _ (then_step (w + 1) (w + 22) 0 _ branch (omega arith) refl)
