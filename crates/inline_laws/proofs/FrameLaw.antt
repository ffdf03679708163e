-- The templates of LDD and STD with Y+q, on motes: the way inside the stack window, below it and above it.
use Rattle.std.proofs.Common.{◌≡◌, ℕ, ◌+◌, ◌*◌, ◌/◌, ◌%◌, ◌<◌, ◌≤◌, List, [], ◌∷◌, ◌++◌, length, arith, refl, sym, subst, ◌∙◌}
use Rattle.std.specs.Prelude.{Some, pos, slice_index, slice_set}
use Rattle.std.proofs.lemmas.List.{length-set, get_or-set_other}
use Rattle.avr_isa.specs.declared.form.Form.{Form}
use Rattle.avr_isa.specs.declared.form.Form.TheVariants.{LoadOff, StoreOff, Movw, Word, Rjmp}
use Rattle.avr_isa.specs.declared.operation.WordOp.TheVariants.{Adiw}
use Rattle.avr_isa.specs.declared.operation.Base.TheVariants.{Z}
use Rattle.avr_isa.specs.Encoding.{second_word}
use Rattle.avr_flags.specs.Pairs.{adiw_of}
use Rattle.sram_layout.specs.Bytes.{byte_at, with_byte}
use Rattle.sram_layout.specs.Regions.{stack_window}
use Rattle.nat_template.specs.Words.{width_of}
use Rattle.nat_template.specs.Inline.{save, restore, guard, trap, load_forms, store_forms}
use Rattle.mote_core.specs.declared.mote.Mote.{Mote}
use Rattle.mote_core.specs.QuietSteps.{IsQuiet, held, flash_form, z_of, with_z}
use Rattle.mote_core.proofs.StepsByAnswer.{keeps_above}
use Rattle.mote_core.proofs.QuietMemory.{quiet_st_z, stack_sram}
use Rattle.inline_laws.specs.InlineWays.{CanPass, Ways, LoadPasses, StorePasses, saved_of, from_frame}
use Rattle.inline_laws.proofs.Steps.{then_step}
use Rattle.inline_laws.specs.Rows.{Row}
use Rattle.inline_laws.proofs.Registers.{other_register, z_of_halves}
use Rattle.inline_laws.proofs.Cells.{Holds, saved_holds, saved_of_same, holds_still}
use Rattle.inline_laws.proofs.Blocks.{save_first, frame_block}
use Rattle.inline_laws.proofs.ThreeWays.{IsGuarded, guarded_status, inside_way, below_way, above_way}
use Rattle.inline_laws.proofs.PopLaw.{load_step}

-- Y, and the forms of an access of one step
abbrev pub y_of : Mote → ℕ
y_of m = slice_index m.cpu.r 28 + 256 * slice_index m.cpu.r 29

abbrev behind_guard : Form → List Form
behind_guard access = access ∷ restore ++ Rjmp (pos 10) ∷ trap

abbrev behind_save : (q : ℕ) → Form → List Form
behind_save q access = Movw 30 28 ∷ Word Adiw 30 q ∷ guard 11 9 ++ behind_guard access

abbrev frame_forms : (q : ℕ) → Form → List Form
frame_forms q access = save ++ behind_save q access

-- SREG at the guard
abbrev frame_status : Mote → ℕ → ℕ
frame_status m q = (adiw_of m.cpu.sreg (z_of (with_z m.cpu.r (y_of m))) q).1

-- up to the guard: Y into Z, and q added, as the sum p
frame_guarded : (m : Mote) (v q p : ℕ) (access : Form) → CanPass m v → width_of access ≡ 1 → from_frame m q ≡ p → Row m.flash.words v (frame_forms q access)
    → IsGuarded m v 32 (v + 2 + 2 + 1 + 2 + 1 + 1) 9 2 (p % 256) (p / 256) (frame_status m q)
unfolding second_word
frame_guarded m v q p access can one is row = record {
  can = can;
  after_save = omega arith;
  fits = omega arith;
  few = omega arith;
  rest = behind_save q access;
  saves = row;
  guards = behind_guard access;
  guarding = row.1.1.1.1.1.1;
  ends = [];
  trapping = subst (λ (t : ℕ). Row m.flash.words t trap) (omega arith) row.1.1.1.1.1.1.1.1.1.1.1.1.1.1.1.1;
  points = frame_block m (v + 1) (v + 32) m.cpu.r can.registers m.cpu.sreg m.cpu.sreg (slice_index m.cpu.r 31) (v + 2 + 2 + 1 + 2) (saved_of m) q (y_of m) p
      (guard 11 9 ++ behind_guard access) refl is (omega arith) (omega arith) (omega arith) row.1.1.1.1;
}

-- an access of one step, inside the window: to these registers and bytes
record IsAccess (m : Mote) (p : ℕ) (access : Form) (r sram : List ℕ) : Type 0 where
  low : slice_index r 30 ≡ slice_index m.cpu.r 30
  high : slice_index r 31 ≡ slice_index m.cpu.r 31
  long : 31 < length r
  holds : Holds (slice_index m.cpu.r 30) (slice_index m.cpu.r 31) m.cpu.sreg sram
  step : (s pc : ℕ) → pc + 1 < 65536 → flash_form m pc ≡ Some access → IsQuiet (held m (with_z m.cpu.r p) s pc (saved_of m)) (held m (with_z r p) s (pc + 1) sram)

frame_passes : (m : Mote) (v q : ℕ) (access : Form) (r sram : List ℕ) → CanPass m v → width_of access ≡ 1 → Row m.flash.words v (frame_forms q access)
    → (stack_window.first ≤ from_frame m q → from_frame m q < stack_window.behind → IsAccess m (from_frame m q) access r sram) → Ways m v 32 (from_frame m q) 15 12 14 r sram
unfolding second_word
frame_passes m v q access r sram can one row accesses =
    let p = from_frame m q in
    let w = v + 2 + 2 + 1 + 2 + 1 + 1 in
    let s = guarded_status (frame_status m q) (p / 256) in
    let g = frame_guarded m v q p access can one refl row in
    record {
      first = save_first m m.cpu.r m.cpu.sreg v m.sram (slice_index m.cpu.r 30) (behind_save q access) refl (omega arith) row;
      inside = λ bottom top.
          let a = accesses bottom top in
          inside_way m v 32 w 9 2 (p % 256) (p / 256) (frame_status m q) g (w + 1 + 1 + 1 + 1 + 1) 1 r (p % 256) (p / 256) s sram trap (omega arith) (omega arith) a.long a.low a.high a.holds
          (omega arith) (omega arith) (subst (λ (n : ℕ). Row m.flash.words (w + 1 + 1 + 1 + 1 + n) (restore ++ Rjmp (pos 10) ∷ trap)) one row.1.1.1.1.1.1.1.1.1.1.1)
          (then_step (v + 1) (v + 32) 0 _ (a.step s (w + 1 + 1 + 1 + 1) (omega arith) row.1.1.1.1.1.1.1.1.1.1.0) (omega arith) refl);
      below = λ under. below_way m v 32 w 9 2 (p % 256) (p / 256) (frame_status m q) g (omega arith);
      above = λ over. above_way m v 32 w 9 2 (p % 256) (p / 256) (frame_status m q) g (omega arith);
    }

-- LDD d, Y+q
pub load_passes : LoadPasses
unfolding second_word load_forms
load_passes m v d q can other row =
    let p = from_frame m q in
    let x = byte_at m.sram p in
    let a = slice_index m.cpu.r 30 in
    let b = slice_index m.cpu.r 31 in
    frame_passes m v q (LoadOff d Z 0) (slice_set m.cpu.r d x) (saved_of m) can refl row (λ bottom top. record {
      low = get_or-set_other m.cpu.r d 30 x 0 (λ e. other.0 (sym e));
      high = get_or-set_other m.cpu.r d 31 x 0 (λ e. other.1 (sym e));
      long = let long = can.registers in omega (arith, length-set m.cpu.r d x);
      holds = saved_holds m.sram a b m.cpu.sreg can.size;
      step = λ s pc room is. load_step m m.cpu.r s pc (saved_of m) d p x can.registers bottom top other ((saved_of_same m).bytes p (omega arith)) room is;
    })

-- STD Y+q, d
pub store_passes : StorePasses
unfolding second_word store_forms
store_passes m v d q can other row =
    let p = from_frame m q in
    let x = slice_index m.cpu.r d in
    let a = slice_index m.cpu.r 30 in
    let b = slice_index m.cpu.r 31 in
    let there : p % 256 + 256 * (p / 256) ≡ p = omega arith in
    frame_passes m v q (StoreOff Z 0 d) m.cpu.r (with_byte (saved_of m) p x) can refl row (λ bottom top. record {
      low = refl;
      high = refl;
      long = can.registers;
      holds = holds_still a b m.cpu.sreg (saved_of m) p x (omega arith) (saved_holds m.sram a b m.cpu.sreg can.size);
      step = λ s pc room is. quiet_st_z m (with_z m.cpu.r p) s pc (saved_of m) d p x is (z_of_halves m.cpu.r (p % 256) (p / 256) can.registers ∙ there) (stack_sram p bottom top) room
          (other_register m.cpu.r (p % 256) (p / 256) d other.0 other.1) (keeps_above (saved_of m) p x (omega arith));
    })
