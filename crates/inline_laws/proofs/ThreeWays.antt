-- The way through an inline template behind its first step: inside the window to the word behind it, and outside to MEM.
use Rattle.std.proofs.Common.{◌≡◌, ℕ, ◌+◌, ◌-◌, ◌<◌, ◌≤◌, List, ◌∷◌, ◌++◌, length, arith, refl}
use Rattle.std.specs.Prelude.{slice_index, pos}
use Rattle.avr_isa.specs.declared.form.Form.{Form}
use Rattle.avr_isa.specs.declared.form.Form.TheVariants.{Rjmp, Call}
use Rattle.nat_template.specs.Inline.{save, restore, guard}
use Rattle.nat_template.specs.Stubs.{mem_entry}
use Rattle.mote_core.specs.declared.mote.Mote.{Mote}
use Rattle.mote_core.specs.QuietSteps.{held}
use Rattle.inline_laws.specs.InlineWays.{Passes, CanPass, saved_of, begun, trapped}
use Rattle.inline_laws.proofs.Steps.{passes_join}
use Rattle.inline_laws.specs.Rows.{Row}
use Rattle.inline_laws.proofs.Registers.{with_halves}
use Rattle.inline_laws.proofs.Cells.{saved_holds, Holds}
use Rattle.inline_laws.proofs.Blocks.{save_block, guard_block, below_block, above_block, over_block, trap_block, compared}

-- the mote after the saving, and with these halves of Z where SREG is s
abbrev pub prepared : Mote → ℕ → Mote
prepared m v = held m (with_halves m.cpu.r m.cpu.sreg (slice_index m.cpu.r 31)) m.cpu.sreg (v + 2 + 2 + 1 + 2) (saved_of m)

abbrev pub pointing : Mote → (low high s pc : ℕ) → Mote
pointing m low high s pc = held m (with_halves m.cpu.r low high) s pc (saved_of m)

-- SREG behind the guard
abbrev pub guarded_status : (s high : ℕ) → ℕ
guarded_status s high = compared (compared s high 13) high 17

-- A template of `size` words at v: the saving; i steps that leave the address in Z, and s in SREG; at w the guard; and
-- behind the k words that it passes over, the trap.
pub record IsGuarded (m : Mote) (v size w k i low high s : ℕ) : Type 0 where
  pub can : CanPass m v
  pub after_save : v + 7 ≤ w
  pub fits : w + 4 + k + 10 ≡ v + size
  pub few : size ≤ 39
  pub rest : List Form
  pub saves : Row m.flash.words v (save ++ rest)
  pub guards : List Form
  pub guarding : Row m.flash.words w (guard (2 + k) k ++ guards)
  pub ends : List Form
  pub trapping : Row m.flash.words (w + 4 + k) (restore ++ Call mem_entry ∷ ends)
  pub points : Passes (v + 1) (v + size) i (prepared m v) (pointing m low high s w)

module _ (m : Mote) (v size w k i low high s : ℕ) (g : IsGuarded m v size w k i low high s) where
  -- on from the guard
  from_guard : (j : ℕ) (last : Mote) → Passes (v + 1) (v + size) j (pointing m low high s w) last → Passes (v + 1) (v + size) (3 + (i + j)) (begun m v) last
  from_guard j last on =
      let b = slice_index m.cpu.r 31 in
      let saves = save_block m (v + 1) (v + size) m.cpu.r g.can.registers m.cpu.sreg v m.sram (slice_index m.cpu.r 30) b g.rest refl (omega arith) (omega arith) (omega arith) g.saves in
      passes_join (v + 1) (v + size) 3 (i + j) (begun m v) (prepared m v) last saves (passes_join (v + 1) (v + size) i j (prepared m v) (pointing m low high s w) last g.points on)

  -- inside: the access leads to e, with these registers and bytes; what stands there leads over the trap
  pub inside_way : (e j : ℕ) (r : List ℕ) (x y s' : ℕ) (sram : List ℕ) (ends : List Form) → 13 ≤ high → high < 17
      → 31 < length r → slice_index r 30 ≡ slice_index m.cpu.r 30 → slice_index r 31 ≡ slice_index m.cpu.r 31 → Holds (slice_index m.cpu.r 30) (slice_index m.cpu.r 31) m.cpu.sreg sram
      → w + 4 ≤ e → e + 18 ≡ v + size → Row m.flash.words e (restore ++ Rjmp (pos 10) ∷ ends)
      → Passes (v + 1) (v + size) j (pointing m low high (guarded_status s high) (w + 1 + 1 + 1 + 1)) (held m (with_halves r x y) s' e sram)
      → Passes (v + 1) (v + size) (3 + (i + (4 + (j + 5)))) (begun m v) (held m r m.cpu.sreg (v + size) sram)
  inside_way e j r x y s' sram ends bottom top long low_same high_same holds behind is ending accesses =
      let from = v + 1 in
      let to = v + size in
      let there : e + 2 + 1 + 2 + 2 + 1 + 10 ≡ v + size = omega arith in
      let last = held m r m.cpu.sreg (v + size) sram in
      let access = pointing m low high (guarded_status s high) (w + 1 + 1 + 1 + 1) in
      let guards = guard_block m from to m.cpu.r g.can.registers low high s w (saved_of m) (2 + k) k g.guards bottom top (omega arith) (omega arith) (omega arith) g.guarding in
      let over = over_block m from to r long x y s' e sram (slice_index m.cpu.r 30) (slice_index m.cpu.r 31) m.cpu.sreg 10 ends low_same high_same holds (omega arith) (omega arith)
      (omega arith) ending in
      from_guard (4 + (j + 5)) last (passes_join from to 4 (j + 5) (pointing m low high s w) access last guards
      (passes_join from to j 5 access (held m (with_halves r x y) s' e sram) last accesses (rw there at over)))

  -- outside: the guard leads to the trap, with this SREG
  to_trap : (j s' : ℕ) → Passes (v + 1) (v + size) j (pointing m low high s w) (pointing m low high s' (w + 4 + k))
      → Passes (v + 1) (v + size) (3 + (i + (j + 5))) (begun m v) (trapped m (v + size - 1) (saved_of m))
  to_trap j s' on =
      let t = w + 4 + k in
      let a = slice_index m.cpu.r 30 in
      let b = slice_index m.cpu.r 31 in
      let there : t + 2 + 1 + 2 + 2 + 2 ≡ v + size - 1 = omega arith in
      let last = trapped m (v + size - 1) (saved_of m) in
      let holds = saved_holds m.sram a b m.cpu.sreg g.can.size in
      let traps = trap_block m (v + 1) (v + size) m.cpu.r g.can.registers low high s' t (saved_of m) a b m.cpu.sreg g.ends refl refl holds g.can.top (omega arith) (omega arith)
      (omega arith) g.trapping in
      from_guard (j + 5) last (passes_join (v + 1) (v + size) j 5 (pointing m low high s w) (pointing m low high s' t) last on (rw there at traps))

  pub below_way : high < 13 → Passes (v + 1) (v + size) (3 + (i + (2 + 5))) (begun m v) (trapped m (v + size - 1) (saved_of m))
  below_way under =
      let there : w + 1 + 1 + (2 + k) ≡ w + 4 + k = omega arith in
      to_trap 2 (compared s high 13) (rw there at (below_block m (v + 1) (v + size) m.cpu.r g.can.registers low high s w (saved_of m) (2 + k) k g.guards under (omega arith) (omega arith)
      (omega arith) g.guarding))

  pub above_way : 17 ≤ high → Passes (v + 1) (v + size) (3 + (i + (4 + 5))) (begun m v) (trapped m (v + size - 1) (saved_of m))
  above_way over =
      let there : w + 1 + 1 + 1 + 1 + k ≡ w + 4 + k = omega arith in
      to_trap 4 (guarded_status s high) (rw there at (above_block m (v + 1) (v + size) m.cpu.r g.can.registers low high s w (saved_of m) (2 + k) k g.guards over (omega arith) (omega arith)
      (omega arith) g.guarding))
