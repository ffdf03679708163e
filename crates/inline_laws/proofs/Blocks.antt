-- The parts of inline templates, each as so many quiet steps.
use Rattle.std.proofs.Common.{◌≡◌, ℕ, ◌+◌, ◌*◌, ◌/◌, ◌%◌, ◌<◌, ◌≤◌, true, List, ◌∷◌, ◌++◌, length, arith, refl, ap, ◌∙◌}
use Rattle.std.specs.Prelude.{Some, slice_index, pos, nat_lt}
use Rattle.std.proofs.lemmas.Bool.{lt-ltb, le-ltb}
use Rattle.avr_isa.specs.declared.form.Form.{Form}
use Rattle.avr_isa.specs.declared.form.Form.TheVariants.{Movw, Imm, Word, Lds, Rjmp, Call}
use Rattle.avr_isa.specs.declared.operation.ImmOp.TheVariants.{Cpi}
use Rattle.avr_isa.specs.declared.operation.WordOp.TheVariants.{Adiw}
use Rattle.avr_isa.specs.Encoding.{second_word}
use Rattle.avr_flags.specs.Status.{has_bit, carry}
use Rattle.avr_flags.specs.Sums.{sub_of}
use Rattle.avr_flags.specs.Pairs.{adiw_of}
use Rattle.avr_flags.proofs.StatusLaws.{carry-difference_of}
use Rattle.sram_layout.specs.Bytes.{byte_at, with_byte}
use Rattle.sram_layout.specs.Cells.{sreg_cell, vsp_cell, z_cell}
use Rattle.nat_template.specs.Inline.{save, restore, from_pointer, to_pointer, guard}
use Rattle.nat_template.specs.Stubs.{mem_entry}
use Rattle.mote_core.specs.declared.mote.Mote.{Mote}
use Rattle.mote_core.specs.QuietSteps.{IsQuiet, held, flash_form, z_of, with_z}
use Rattle.mote_core.specs.Physical.{is_sram}
use Rattle.mote_core.proofs.StepsByAnswer.{keeps_cell}
use Rattle.mote_core.proofs.QuietMemory.{quiet_lds, quiet_sts, quiet_call}
use Rattle.mote_core.proofs.QuietCore.{quiet_in_status, quiet_out_status, quiet_cpi, quiet_adiw, quiet_movw, quiet_brlo, quiet_brlo_on, quiet_brsh, quiet_brsh_on, quiet_rjmp}
use Rattle.inline_laws.specs.InlineWays.{Passes, saved}
use Rattle.inline_laws.proofs.Steps.{then_step, passes_join}
use Rattle.inline_laws.specs.Rows.{Row}
use Rattle.inline_laws.proofs.Registers.{with_halves, set_first, set_low, set_high, set_halves, low_half, high_half, own_halves, other_register, z_of_halves}
use Rattle.inline_laws.proofs.Cells.{Holds}

-- SREG after the comparison of Z's high half
abbrev pub compared : (s high k : ℕ) → ℕ
compared s high k = (sub_of s high k).1

less : (s high k : ℕ) → has_bit (compared s high k) carry ≡ nat_lt high k
less s high k = carry-difference_of s high k 0 true ∙ ap (nat_lt high) (omega arith)

-- at the entry of MEM, with the address behind the call on the kernel's stack
abbrev pub at_service : Mote → List ℕ → (s back : ℕ) → List ℕ → Mote
at_service m r s back sram = record m { cpu = record m.cpu { r = r; sreg = s; sp = 0x011D; pc = mem_entry }; sram = with_byte (with_byte sram 0x011F (back % 256)) 0x011E (back / 256) }

-- single steps
module _ (m : Mote) (r : List ℕ) where
  -- the template's first: the low half of Z into its cell
  pub save_first : (s v : ℕ) (sram : List ℕ) (a : ℕ) (rest : List Form) → slice_index r 30 ≡ a → v + 64 < 65536 → Row m.flash.words v (save ++ rest)
      → IsQuiet (held m r s v sram) (held m r s (v + 2) (with_byte sram z_cell a))
  save_first s v sram a rest low room row = quiet_sts m r s v sram z_cell 30 a row.0 refl (omega arith) low (keeps_cell sram z_cell a (omega arith) (omega arith))

  -- a half of Z from a cell
  load_low : (x y s v : ℕ) (sram : List ℕ) (cell a : ℕ) → flash_form m v ≡ Some (Lds 30 cell) → is_sram cell ≡ true → v + 2 < 65536 → byte_at sram cell ≡ a
      → IsQuiet (held m (with_halves r x y) s v sram) (held m (with_halves r a y) s (v + 2) sram)
  load_low x y s v sram cell a is ram room holds =
      quiet_lds m (with_halves r x y) (with_halves r a y) s v sram 30 cell is ram room (set_low r x y (byte_at sram cell) ∙ ap (λ n. with_halves r n y) holds)

  load_high : (x y s v : ℕ) (sram : List ℕ) (cell b : ℕ) → flash_form m v ≡ Some (Lds 31 cell) → is_sram cell ≡ true → v + 2 < 65536 → byte_at sram cell ≡ b
      → IsQuiet (held m (with_halves r x y) s v sram) (held m (with_halves r x b) s (v + 2) sram)
  load_high x y s v sram cell b is ram room holds =
      quiet_lds m (with_halves r x y) (with_halves r x b) s v sram 31 cell is ram room (set_high r x y (byte_at sram cell) ∙ ap (with_halves r x) holds)

  -- q added to Z, as its sum p
  pub raise_step : (low high s v : ℕ) (sram : List ℕ) (q p : ℕ) (rest : List Form) → 31 < length r → (low + 256 * high + q) % 65536 ≡ p → v + 8 < 65536 → Row m.flash.words v (Word Adiw 30 q ∷ rest)
      → IsQuiet (held m (with_halves r low high) s v sram) (held m (with_z r p) (adiw_of s (z_of (with_halves r low high)) q).1 (v + 1) sram)
  raise_step low high s v sram q p rest long is room row =
      let z = with_halves r low high in
      quiet_adiw m z (with_z r p) s v sram q row.0 (omega arith) (ap (with_z z) (ap (λ n. (n + q) % 65536) (z_of_halves r low high long) ∙ is) ∙ set_halves r low high (p % 256) (p / 256))

  -- Z's high half is compared with k
  compare_step : (low high s v : ℕ) (sram : List ℕ) (k : ℕ) → 31 < length r → v + 8 < 65536 → flash_form m v ≡ Some (Imm Cpi 31 k)
      → IsQuiet (held m (with_halves r low high) s v sram) (held m (with_halves r low high) (compared s high k) (v + 1) sram)
  compare_step low high s v sram k long room is = quiet_cpi m (with_halves r low high) s (compared s high k) v sram 31 k is (omega arith) (ap (λ h. (sub_of s h k).1) (high_half r low high long))

-- the parts, at words from `from` on and below `to`
module _ (m : Mote) (from to : ℕ) (r : List ℕ) (long : 31 < length r) where
  -- Z and SREG into their cells, behind the first step
  pub save_block : (s v : ℕ) (sram : List ℕ) (a b : ℕ) (rest : List Form) → slice_index r 31 ≡ b → from ≤ v + 2 → v + 7 ≤ to → v + 64 < 65536 → Row m.flash.words v (save ++ rest)
      → Passes from to 3 (held m r s (v + 2) (with_byte sram z_cell a)) (held m (with_halves r s b) s (v + 2 + 2 + 1 + 2) (saved sram a b s))
  unfolding second_word
  save_block s v sram a b rest high above below room row =
      let one = with_byte sram z_cell a in
      let two = with_byte one (z_cell + 1) b in
      let z = with_halves r s b in
      then_step from to 2 _ (quiet_sts m r s (v + 2) one (z_cell + 1) 31 b row.1.0 refl (omega arith) high (keeps_cell one (z_cell + 1) b (omega arith) (omega arith))) (omega arith)
      (then_step from to 1 _ (quiet_in_status m r z s (v + 2 + 2) two 30 row.1.1.0 (omega arith) (set_first r s b high)) (omega arith)
      (then_step from to 0 _ (quiet_sts m z s (v + 2 + 2 + 1) two sreg_cell 30 s row.1.1.1.0 refl (omega arith) (low_half r s b long) (keeps_cell two sreg_cell s (omega arith) (omega arith)))
      (omega arith) refl))

  -- the program's stack pointer into Z
  pub pointer_block : (x y s v : ℕ) (sram : List ℕ) (low high : ℕ) (rest : List Form) → byte_at sram vsp_cell ≡ low → byte_at sram (vsp_cell + 1) ≡ high
      → from ≤ v → v + 4 ≤ to → v + 8 < 65536 → Row m.flash.words v (from_pointer ++ rest)
      → Passes from to 2 (held m (with_halves r x y) s v sram) (held m (with_halves r low high) s (v + 2 + 2) sram)
  unfolding second_word
  pointer_block x y s v sram low high rest is_low is_high above below room row =
      then_step from to 1 _ (load_low m r x y s v sram vsp_cell low row.0 refl (omega arith) is_low) (omega arith)
      (then_step from to 0 _ (load_high m r low y s (v + 2) sram (vsp_cell + 1) high row.1.0 refl (omega arith) is_high) (omega arith) refl)

  -- Y into Z, and q added, as the sum p
  pub frame_block : (s x b v : ℕ) (sram : List ℕ) (q y p : ℕ) (rest : List Form) → slice_index r 28 + 256 * slice_index r 29 ≡ y → (y + q) % 65536 ≡ p
      → from ≤ v → v + 2 ≤ to → v + 16 < 65536 → Row m.flash.words v (Movw 30 28 ∷ Word Adiw 30 q ∷ rest)
      → Passes from to 2 (held m (with_halves r x b) s v sram) (held m (with_z r p) (adiw_of s (z_of (with_z r y)) q).1 (v + 1 + 1) sram)
  unfolding second_word
  frame_block s x b v sram q y p rest is_y is above below room row =
      let z = with_halves r x b in
      let from_y : slice_index z 28 + 256 * slice_index z 29 ≡ y =
      omega (arith, other_register r x b 28 (λ same. omega arith) (λ same. omega arith), other_register r x b 29 (λ same. omega arith) (λ same. omega arith)) in
      then_step from to 1 _ (quiet_movw m z (with_z r y) s v sram row.0 (omega arith) (ap (with_z z) from_y ∙ set_halves r x b (y % 256) (y / 256))) (omega arith)
      (then_step from to 0 _ (raise_step m r (y % 256) (y / 256) s (v + 1) sram q p rest long (omega arith) (omega arith) row.1) (omega arith) refl)

  -- Z into the program's stack pointer
  pub put_block : (low high s v : ℕ) (sram : List ℕ) (rest : List Form) → from ≤ v → v + 4 ≤ to → v + 8 < 65536 → Row m.flash.words v (to_pointer ++ rest)
      → Passes from to 2 (held m (with_halves r low high) s v sram) (held m (with_halves r low high) s (v + 2 + 2) (with_byte (with_byte sram vsp_cell low) (vsp_cell + 1) high))
  unfolding second_word
  put_block low high s v sram rest above below room row =
      let z = with_halves r low high in
      let one = with_byte sram vsp_cell low in
      then_step from to 1 _ (quiet_sts m z s v sram vsp_cell 30 low row.0 refl (omega arith) (low_half r low high long) (keeps_cell sram vsp_cell low (omega arith) (omega arith))) (omega arith)
      (then_step from to 0 _ (quiet_sts m z s (v + 2) one (vsp_cell + 1) 31 high row.1.0 refl (omega arith) (high_half r low high long)
      (keeps_cell one (vsp_cell + 1) high (omega arith) (omega arith))) (omega arith) refl)

  -- the guard, below the window: to the trap
  pub below_block : (low high s v : ℕ) (sram : List ℕ) (n k : ℕ) (rest : List Form) → high < 13 → from ≤ v → v + 4 ≤ to → v + 16 + n < 65536 → Row m.flash.words v (guard n k ++ rest)
      → Passes from to 2 (held m (with_halves r low high) s v sram) (held m (with_halves r low high) (compared s high 13) (v + 1 + 1 + n) sram)
  unfolding second_word
  below_block low high s v sram n k rest under above below room row =
      then_step from to 1 _ (compare_step m r low high s v sram 13 long (omega arith) row.0) (omega arith)
      (then_step from to 0 _ (quiet_brlo m (with_halves r low high) (compared s high 13) (v + 1) sram n row.1.0 (less s high 13 ∙ lt-ltb high 13 under) (omega arith)) (omega arith) refl)

  -- and not below it: to the place `to'`, where the last branch leads
  guard_steps : (low high s v v' : ℕ) (sram : List ℕ) (n k : ℕ) (rest : List Form) → 13 ≤ high → from ≤ v → v + 4 ≤ to → v + 16 < 65536 → Row m.flash.words v (guard n k ++ rest)
      → (let z = with_halves r low high in let s' = compared (compared s high 13) high 17 in IsQuiet (held m z s' (v + 1 + 1 + 1) sram) (held m z s' v' sram))
      → Passes from to 4 (held m (with_halves r low high) s v sram) (held m (with_halves r low high) (compared (compared s high 13) high 17) v' sram)
  unfolding second_word
  guard_steps low high s v v' sram n k rest bottom above below room row last =
      let one = compared s high 13 in
      then_step from to 3 _ (compare_step m r low high s v sram 13 long (omega arith) row.0) (omega arith)
      (then_step from to 2 _ (quiet_brlo_on m (with_halves r low high) one (v + 1) sram n row.1.0 (less s high 13 ∙ le-ltb high 13 bottom) (omega arith)) (omega arith)
      (then_step from to 1 _ (compare_step m r low high one (v + 1 + 1) sram 17 long (omega arith) row.1.1.0) (omega arith) (then_step from to 0 _ last (omega arith) refl)))

  -- inside it, and above it: to the trap
  pub guard_block : (low high s v : ℕ) (sram : List ℕ) (n k : ℕ) (rest : List Form) → 13 ≤ high → high < 17 → from ≤ v → v + 4 ≤ to → v + 16 < 65536 → Row m.flash.words v (guard n k ++ rest)
      → Passes from to 4 (held m (with_halves r low high) s v sram) (held m (with_halves r low high) (compared (compared s high 13) high 17) (v + 1 + 1 + 1 + 1) sram)
  unfolding second_word
  guard_block low high s v sram n k rest bottom top above below room row =
      let s' = compared (compared s high 13) high 17 in
      guard_steps low high s v (v + 1 + 1 + 1 + 1) sram n k rest bottom above below room row
      (quiet_brsh_on m (with_halves r low high) s' (v + 1 + 1 + 1) sram k row.1.1.1.0 (less (compared s high 13) high 17 ∙ lt-ltb high 17 top) (omega arith))

  pub above_block : (low high s v : ℕ) (sram : List ℕ) (n k : ℕ) (rest : List Form) → 17 ≤ high → from ≤ v → v + 4 ≤ to → v + 16 + k < 65536 → Row m.flash.words v (guard n k ++ rest)
      → Passes from to 4 (held m (with_halves r low high) s v sram) (held m (with_halves r low high) (compared (compared s high 13) high 17) (v + 1 + 1 + 1 + 1 + k) sram)
  unfolding second_word
  above_block low high s v sram n k rest over above below room row =
      let s' = compared (compared s high 13) high 17 in
      guard_steps low high s v (v + 1 + 1 + 1 + 1 + k) sram n k rest (omega arith) above below (omega arith) row
      (quiet_brsh m (with_halves r low high) s' (v + 1 + 1 + 1) sram k row.1.1.1.0 (less (compared s high 13) high 17 ∙ le-ltb high 17 over) (omega arith))

  -- Z and SREG back from their cells
  back_block : (x y s' v : ℕ) (sram : List ℕ) (a b s : ℕ) (rest : List Form) → slice_index r 30 ≡ a → slice_index r 31 ≡ b → Holds a b s sram → from ≤ v → v + 7 ≤ to → v + 16 < 65536
      → Row m.flash.words v (restore ++ rest)
      → Passes from to 4 (held m (with_halves r x y) s' v sram) (held m r s (v + 2 + 1 + 2 + 2) sram)
  unfolding second_word
  back_block x y s' v sram a b s rest low high holds above below room row =
      then_step from to 3 _ (load_low m r x y s' v sram sreg_cell s row.0 refl (omega arith) holds.status_held) (omega arith)
      (then_step from to 2 _ (quiet_out_status m (with_halves r s y) s' s (v + 2) sram 30 row.1.0 (omega arith) (low_half r s y long)) (omega arith)
      (then_step from to 1 _ (load_low m r s y s (v + 2 + 1) sram z_cell a row.1.1.0 refl (omega arith) holds.low_held) (omega arith)
      (then_step from to 0 _ (load_high m r a y s (v + 2 + 1 + 2) sram (z_cell + 1) b row.1.1.1.0 refl (omega arith) holds.high_held) (omega arith)
      (ap (λ q. held m q s (v + 2 + 1 + 2 + 2) sram) (own_halves r a b low high)))))

  -- and over the trap, which has n words with the pc behind it
  pub over_block : (x y s' v : ℕ) (sram : List ℕ) (a b s n : ℕ) (rest : List Form) → slice_index r 30 ≡ a → slice_index r 31 ≡ b → Holds a b s sram → from ≤ v → v + 8 ≤ to → v + n + 16 < 65536
      → Row m.flash.words v (restore ++ Rjmp (pos n) ∷ rest)
      → Passes from to 5 (held m (with_halves r x y) s' v sram) (held m r s (v + 2 + 1 + 2 + 2 + 1 + n) sram)
  unfolding second_word
  over_block x y s' v sram a b s n rest low high holds above below room row =
      let v' = v + 2 + 1 + 2 + 2 in
      passes_join from to 4 1 (held m (with_halves r x y) s' v sram) (held m r s v' sram) (held m r s (v' + 1 + n) sram)
      (back_block x y s' v sram a b s (Rjmp (pos n) ∷ rest) low high holds above (omega arith) (omega arith) row)
      (then_step from to 0 _ (quiet_rjmp m r s v' sram n row.1.1.1.1.0 (omega arith)) (omega arith) refl)

  -- the trap: back, and the call of MEM
  pub trap_block : (x y s' v : ℕ) (sram : List ℕ) (a b s : ℕ) (rest : List Form) → slice_index r 30 ≡ a → slice_index r 31 ≡ b → Holds a b s sram → m.cpu.sp ≡ 0x011F → from ≤ v → v + 8 ≤ to
      → v + 16 < 65536
      → Row m.flash.words v (restore ++ Call mem_entry ∷ rest)
      → Passes from to 5 (held m (with_halves r x y) s' v sram) (at_service m r s (v + 2 + 1 + 2 + 2 + 2) sram)
  unfolding second_word
  trap_block x y s' v sram a b s rest low high holds top above below room row =
      let v' = v + 2 + 1 + 2 + 2 in
      passes_join from to 4 1 (held m (with_halves r x y) s' v sram) (held m r s v' sram) (at_service m r s (v' + 2) sram)
      (back_block x y s' v sram a b s (Call mem_entry ∷ rest) low high holds above (omega arith) (omega arith) row)
      (then_step from to 0 _ (quiet_call m r s v' sram mem_entry row.1.1.1.1.0 top (omega arith)) (omega arith) refl)
