-- The template of POP, on motes: the way inside the stack window, below it and above it.
use Rattle.std.proofs.Common.{◌≡◌, ℕ, ◌+◌, ◌*◌, ◌/◌, ◌%◌, ◌<◌, ◌≤◌, List, [], ◌∷◌, ◌++◌, length, arith, refl, ap, sym, subst, ◌∙◌}
use Rattle.std.specs.Prelude.{Some, pos, slice_index, slice_set}
use Rattle.std.proofs.lemmas.List.{length-set, get_or-set_other}
use Rattle.avr_isa.specs.declared.form.Form.{Form}
use Rattle.avr_isa.specs.declared.form.Form.TheVariants.{LoadOff, Word, Rjmp}
use Rattle.avr_isa.specs.declared.operation.WordOp.TheVariants.{Adiw}
use Rattle.avr_isa.specs.declared.operation.Base.TheVariants.{Z}
use Rattle.avr_isa.specs.Encoding.{second_word}
use Rattle.avr_flags.specs.Pairs.{adiw_of}
use Rattle.sram_layout.specs.Bytes.{byte_at, data_word_at}
use Rattle.sram_layout.specs.Regions.{stack_window}
use Rattle.sram_layout.specs.Cells.{vsp_cell}
use Rattle.nat_template.specs.Inline.{restore, from_pointer, to_pointer, guarded, back, trap, pop_forms}
use Rattle.mote_core.specs.declared.mote.Mote.{Mote}
use Rattle.mote_core.specs.QuietSteps.{IsQuiet, held, flash_form, z_of, with_z}
use Rattle.mote_core.proofs.QuietMemory.{quiet_ld_z, stack_sram}
use Rattle.inline_laws.specs.InlineWays.{Passes, CanPass, PopPasses, IsOther, saved_of, with_pointer, above_pointer}
use Rattle.inline_laws.proofs.Steps.{then_step, passes_join}
use Rattle.inline_laws.specs.Rows.{Row}
use Rattle.inline_laws.proofs.Registers.{with_halves, set_other, z_of_halves}
use Rattle.inline_laws.proofs.Cells.{saved_holds, saved_of_same, pointer_holds, pointer_byte_of}
use Rattle.inline_laws.proofs.Blocks.{save_first, pointer_block, raise_step, put_block}
use Rattle.inline_laws.proofs.ThreeWays.{IsGuarded, prepared, pointing, guarded_status, inside_way, below_way, above_way}

-- the steps of the access: the byte is loaded, and the raised pointer put back
abbrev access : ℕ → List Form
access d = LoadOff d Z 0 ∷ to_pointer

-- LD d, Z, where Z is p, and x the byte there
pub load_step : (m : Mote) (r : List ℕ) (s v : ℕ) (sram : List ℕ) (d p x : ℕ) → 31 < length r → stack_window.first ≤ p → p < stack_window.behind → IsOther d → byte_at sram p ≡ x → v + 1 < 65536
    → flash_form m v ≡ Some (LoadOff d Z 0)
    → IsQuiet (held m (with_z r p) s v sram) (held m (with_z (slice_set r d x) p) s (v + 1) sram)
load_step m r s v sram d p x long bottom top other byte room is =
    let there : p % 256 + 256 * (p / 256) ≡ p = omega arith in
    quiet_ld_z m (with_z r p) (with_z (slice_set r d x) p) s v sram d p is (z_of_halves r (p % 256) (p / 256) long ∙ there) (stack_sram p bottom top) room
    (ap (slice_set (with_z r p) d) byte ∙ set_other r (p % 256) (p / 256) d x other.0 other.1)

pop_access : (m : Mote) (from to : ℕ) (r : List ℕ) (s v : ℕ) (sram : List ℕ) (d p x : ℕ) (rest : List Form) → 31 < length r → stack_window.first ≤ p → p < stack_window.behind → IsOther d
    → byte_at sram p ≡ x
    → from ≤ v → v + 5 ≤ to → v + 16 < 65536 → Row m.flash.words v (access d ++ rest)
    → Passes from to 3 (held m (with_z r p) s v sram) (held m (with_z (slice_set r d x) p) s (v + 1 + 2 + 2) (with_pointer sram p))
unfolding second_word
pop_access m from to r s v sram d p x rest long bottom top other byte above below room row =
    let long' : 31 < length (slice_set r d x) = omega (arith, length-set r d x) in
    then_step from to 2 _ (load_step m r s v sram d p x long bottom top other byte (omega arith) row.0) (omega arith)
    (put_block m from to (slice_set r d x) long' (p % 256) (p / 256) s (v + 1) sram rest (omega arith) (omega arith) (omega arith) row.1)

-- up to the guard: the pointer into Z, and one added
abbrev raised_status : Mote → ℕ
raised_status m = (adiw_of m.cpu.sreg (z_of (with_halves m.cpu.r (byte_at m.sram vsp_cell) (byte_at m.sram (vsp_cell + 1)))) 1).1

pop_guarded : (m : Mote) (v d p : ℕ) → CanPass m v → above_pointer m ≡ p → Row m.flash.words v (pop_forms d)
    → IsGuarded m v 39 (v + 2 + 2 + 1 + 2 + 2 + 2 + 1) 13 3 (p % 256) (p / 256) (raised_status m)
unfolding second_word pop_forms data_word_at
pop_guarded m v d p can is row =
    let b = slice_index m.cpu.r 31 in
    let s = m.cpu.sreg in
    let low = byte_at m.sram vsp_cell in
    let high = byte_at m.sram (vsp_cell + 1) in
    let v1 = v + 2 + 2 + 1 + 2 in
    let last = pointing m (p % 256) (p / 256) (raised_status m) (v1 + 2 + 2 + 1) in
    let pointer = pointer_block m (v + 1) (v + 39) m.cpu.r can.registers s b s v1 (saved_of m) low high (Word Adiw 30 1 ∷ guarded (access d))
    (pointer_byte_of m vsp_cell (omega arith)) (pointer_byte_of m (vsp_cell + 1) (omega arith)) (omega arith) (omega arith) (omega arith) row.1.1.1.1 in
    let raises = raise_step m m.cpu.r low high s (v1 + 2 + 2) (saved_of m) 1 p (guarded (access d)) can.registers is (omega arith) row.1.1.1.1.1.1 in
    record {
      can = can;
      after_save = omega arith;
      fits = omega arith;
      few = omega arith;
      rest = from_pointer ++ Word Adiw 30 1 ∷ guarded (access d);
      saves = row;
      guards = (access d ++ back) ++ trap;
      guarding = row.1.1.1.1.1.1.1;
      ends = [];
      trapping = subst (λ (t : ℕ). Row m.flash.words t trap) (omega arith) row.1.1.1.1.1.1.1.1.1.1.1.1.1.1.1.1.1.1.1;
      points = passes_join (v + 1) (v + 39) 2 1 (prepared m v) (pointing m low high s (v1 + 2 + 2)) last pointer (then_step (v + 1) (v + 39) 0 last raises (omega arith) refl);
    }

pub pop_passes : PopPasses
unfolding second_word pop_forms
pop_passes m v d can other row =
    let a = slice_index m.cpu.r 30 in
    let b = slice_index m.cpu.r 31 in
    let p = above_pointer m in
    let x = byte_at m.sram p in
    let w = v + 2 + 2 + 1 + 2 + 2 + 2 + 1 in
    let e = w + 1 + 1 + 1 + 1 + 1 + 2 + 2 in
    let s = guarded_status (raised_status m) (p / 256) in
    let g = pop_guarded m v d p can refl row in
    record {
      first = save_first m m.cpu.r m.cpu.sreg v m.sram a (from_pointer ++ Word Adiw 30 1 ∷ guarded (access d)) refl (omega arith) row;
      inside = λ bottom top.
          inside_way m v 39 w 13 3 (p % 256) (p / 256) (raised_status m) g e 3 (slice_set m.cpu.r d x) (p % 256) (p / 256) s (with_pointer (saved_of m) p) trap (omega arith) (omega arith)
          (let long = can.registers in omega (arith, length-set m.cpu.r d x)) (get_or-set_other m.cpu.r d 30 x 0 (λ e. other.0 (sym e))) (get_or-set_other m.cpu.r d 31 x 0 (λ e. other.1 (sym e)))
          (pointer_holds a b m.cpu.sreg (saved_of m) p (saved_holds m.sram a b m.cpu.sreg can.size)) (omega arith) (omega arith) row.1.1.1.1.1.1.1.1.1.1.1.1.1.1
          (pop_access m (v + 1) (v + 39) m.cpu.r s (w + 1 + 1 + 1 + 1) (saved_of m) d p x (restore ++ Rjmp (pos 10) ∷ trap) can.registers bottom top other
          ((saved_of_same m).bytes p (omega arith)) (omega arith) (omega arith) (omega arith) row.1.1.1.1.1.1.1.1.1.1.1);
      below = λ under. below_way m v 39 w 13 3 (p % 256) (p / 256) (raised_status m) g (omega arith);
      above = λ over. above_way m v 39 w 13 3 (p % 256) (p / 256) (raised_status m) g (omega arith);
    }
