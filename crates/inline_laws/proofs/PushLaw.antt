-- The template of PUSH, on motes: the way inside the stack window, below it and above it.
use Rattle.std.proofs.Common.{◌≡◌, ℕ, ◌+◌, ◌-◌, ◌*◌, ◌/◌, ◌%◌, ◌<◌, ◌≤◌, List, [], ◌∷◌, ◌++◌, length, arith, refl, ap, subst, ◌∙◌}
use Rattle.std.specs.Prelude.{pos, slice_index}
use Rattle.avr_isa.specs.declared.form.Form.{Form}
use Rattle.avr_isa.specs.declared.form.Form.TheVariants.{StoreOff, Word, Rjmp}
use Rattle.avr_isa.specs.declared.operation.WordOp.TheVariants.{Sbiw}
use Rattle.avr_isa.specs.declared.operation.Base.TheVariants.{Z}
use Rattle.avr_isa.specs.Encoding.{second_word}
use Rattle.avr_flags.specs.Pairs.{sbiw_of}
use Rattle.sram_layout.specs.Bytes.{byte_at, with_byte, data_word_at}
use Rattle.sram_layout.specs.Regions.{stack_window}
use Rattle.sram_layout.specs.Cells.{vsp_cell}
use Rattle.nat_template.specs.Inline.{restore, from_pointer, to_pointer, guarded, back, trap, push_forms}
use Rattle.mote_core.specs.declared.mote.Mote.{Mote}
use Rattle.mote_core.specs.QuietSteps.{held, z_of, with_z}
use Rattle.mote_core.proofs.StepsByAnswer.{keeps_above}
use Rattle.mote_core.proofs.QuietMemory.{quiet_st_z, stack_sram}
use Rattle.mote_core.proofs.QuietCore.{quiet_sbiw}
use Rattle.inline_laws.specs.InlineWays.{Passes, CanPass, PushPasses, IsOther, saved_of, with_pushed, pointer_of}
use Rattle.inline_laws.specs.Rows.{Row}
use Rattle.inline_laws.proofs.Registers.{with_halves, set_halves, other_register, z_of_halves}
use Rattle.inline_laws.proofs.Cells.{saved_holds, holds_still, pointer_holds, pointer_byte_of}
use Rattle.inline_laws.proofs.Steps.{then_step}
use Rattle.inline_laws.proofs.Blocks.{save_first, pointer_block, put_block}
use Rattle.inline_laws.proofs.ThreeWays.{IsGuarded, guarded_status, inside_way, below_way, above_way}

-- the steps of the access: the byte is stored, and the pointer lowered
abbrev access : ℕ → List Form
access d = StoreOff Z 0 d ∷ Word Sbiw 30 1 ∷ to_pointer

lowered_z : (r : List ℕ) (low high p : ℕ) → 31 < length r → low + 256 * high ≡ p → 1 ≤ p → p < 65536
    → with_z (with_halves r low high) ((z_of (with_halves r low high) + 65536 - 1) % 65536) ≡ with_z r (p - 1)
lowered_z r low high p long is some fits =
    ap (with_z (with_halves r low high)) (omega (arith, z_of_halves r low high long)) ∙ set_halves r low high ((p - 1) % 256) ((p - 1) / 256)

push_access : (m : Mote) (from to : ℕ) (r : List ℕ) (long : 31 < length r) (low high s v : ℕ) (sram : List ℕ) (d p : ℕ) (rest : List Form) → low + 256 * high ≡ p → stack_window.first ≤ p
    → p < stack_window.behind → IsOther d
    → from ≤ v → v + 6 ≤ to → v + 16 < 65536 → Row m.flash.words v (access d ++ rest)
    → Passes from to 4 (held m (with_halves r low high) s v sram) (held m (with_z r (p - 1)) (sbiw_of s (z_of (with_halves r low high)) 1).1 (v + 1 + 1 + 2 + 2) (with_pushed sram p (slice_index r d)))
unfolding second_word
push_access m from to r long low high s v sram d p rest is bottom top other above below room row =
    let z = with_halves r low high in
    let x = slice_index r d in
    let one = with_byte sram p x in
    let stored = quiet_st_z m z s v sram d p x row.0 (z_of_halves r low high long ∙ is) (stack_sram p bottom top) (omega arith) (other_register r low high d other.0 other.1)
    (keeps_above sram p x (omega arith)) in
    then_step from to 3 _ stored (omega arith)
    (then_step from to 2 _ (quiet_sbiw m z (with_z r (p - 1)) s (v + 1) one 1 row.1.0 (omega arith) (lowered_z r low high p long is (omega arith) (omega arith))) (omega arith)
    (put_block m from to r long ((p - 1) % 256) ((p - 1) / 256) (sbiw_of s (z_of z) 1).1 (v + 1 + 1) one rest (omega arith) (omega arith) (omega arith) row.1.1))

-- up to the guard: the pointer's halves into Z
push_guarded : (m : Mote) (v d : ℕ) → CanPass m v → Row m.flash.words v (push_forms d)
    → IsGuarded m v 39 (v + 2 + 2 + 1 + 2 + 2 + 2) 14 2 (byte_at m.sram vsp_cell) (byte_at m.sram (vsp_cell + 1)) m.cpu.sreg
unfolding second_word push_forms
push_guarded m v d can row =
    let b = slice_index m.cpu.r 31 in
    let s = m.cpu.sreg in
    record {
      can = can;
      after_save = omega arith;
      fits = omega arith;
      few = omega arith;
      rest = from_pointer ++ guarded (access d);
      saves = row;
      guards = (access d ++ back) ++ trap;
      guarding = row.1.1.1.1.1.1;
      ends = [];
      trapping = subst (λ (t : ℕ). Row m.flash.words t trap) (omega arith) row.1.1.1.1.1.1.1.1.1.1.1.1.1.1.1.1.1.1.1;
      points = pointer_block m (v + 1) (v + 39) m.cpu.r can.registers s b s (v + 2 + 2 + 1 + 2) (saved_of m) (byte_at m.sram vsp_cell) (byte_at m.sram (vsp_cell + 1)) (guarded (access d))
          (pointer_byte_of m vsp_cell (omega arith)) (pointer_byte_of m (vsp_cell + 1) (omega arith)) (omega arith) (omega arith) (omega arith) row.1.1.1.1;
    }

pub push_passes : PushPasses
unfolding second_word push_forms data_word_at
push_passes m v d can other row =
    let a = slice_index m.cpu.r 30 in
    let b = slice_index m.cpu.r 31 in
    let s = m.cpu.sreg in
    let x = slice_index m.cpu.r d in
    let p = pointer_of m in
    let low = byte_at m.sram vsp_cell in
    let high = byte_at m.sram (vsp_cell + 1) in
    let w = v + 2 + 2 + 1 + 2 + 2 + 2 in
    let e = w + 1 + 1 + 1 + 1 + 1 + 1 + 2 + 2 in
    let s' = (sbiw_of (guarded_status s high) (z_of (with_halves m.cpu.r low high)) 1).1 in
    let g = push_guarded m v d can row in
    record {
      first = save_first m m.cpu.r s v m.sram a (from_pointer ++ guarded (access d)) refl (omega arith) row;
      inside = λ bottom top.
          let holds = pointer_holds a b s (with_byte (saved_of m) p x) (p - 1) (holds_still a b s (saved_of m) p x (omega arith) (saved_holds m.sram a b s can.size)) in
          inside_way m v 39 w 14 2 low high s g e 4 m.cpu.r ((p - 1) % 256) ((p - 1) / 256) s' (with_pushed (saved_of m) p x) trap (omega arith) (omega arith)
          can.registers refl refl holds (omega arith) (omega arith) row.1.1.1.1.1.1.1.1.1.1.1.1.1.1
          (push_access m (v + 1) (v + 39) m.cpu.r can.registers low high (guarded_status s high) (w + 1 + 1 + 1 + 1) (saved_of m) d p (restore ++ Rjmp (pos 10) ∷ trap) refl bottom top other
          (omega arith) (omega arith) (omega arith) row.1.1.1.1.1.1.1.1.1.1);
      below = λ under. below_way m v 39 w 14 2 low high s g (omega arith);
      above = λ over. above_way m v 39 w 14 2 low high s g (omega arith);
    }
