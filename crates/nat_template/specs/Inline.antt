-- Inline templates: instructions in the place of a call of MEM, for an address in the stack window 0x0D00 to
-- 0x10FF; every other address is left to the call (docs/LOADER.md, "Inline templates").
use Rattle.std.specs.Prelude.{ℕ, pos, ◌+◌, List, [], ◌∷◌, ◌++◌, length}
use Rattle.avr_isa.specs.declared.form.Form.{Form}
use Rattle.avr_isa.specs.declared.form.Form.TheVariants.{Movw, Imm, Word, LoadOff, StoreOff, Lds, Sts, InIo, OutIo, Brbs, Brbc, Rjmp, Call}
use Rattle.avr_isa.specs.declared.operation.ImmOp.TheVariants.{Cpi}
use Rattle.avr_isa.specs.declared.operation.WordOp.TheVariants.{Adiw, Sbiw}
use Rattle.avr_isa.specs.declared.operation.Base.TheVariants.{Z}
use Rattle.sram_layout.specs.Cells.{sreg_cell, vsp_cell, z_cell}
use Rattle.nat_template.specs.Words.{words_of_forms, sreg_field}
use Rattle.nat_template.specs.Stubs.{mem_entry}

-- The parts. --------------------------------------------------------------------------------------

-- Z and SREG into their cells: STS Z0, r30; STS Z1, r31; IN r30, SREG; STS SREG cell, r30
abbrev pub save : List Form
save = Sts z_cell 30 ∷ Sts (z_cell + 1) 31 ∷ InIo 30 sreg_field ∷ Sts sreg_cell 30 ∷ []

-- and back: LDS r30, SREG cell; OUT SREG, r30; LDS r30, Z0; LDS r31, Z1
abbrev pub restore : List Form
restore = Lds 30 sreg_cell ∷ OutIo sreg_field 30 ∷ Lds 30 z_cell ∷ Lds 31 (z_cell + 1) ∷ []

-- the program's stack pointer into Z: LDS r30, SPL; LDS r31, SPH
abbrev pub from_pointer : List Form
from_pointer = Lds 30 vsp_cell ∷ Lds 31 (vsp_cell + 1) ∷ []

-- and Z into it: STS SPL, r30; STS SPH, r31
abbrev pub to_pointer : List Form
to_pointer = Sts vsp_cell 30 ∷ Sts (vsp_cell + 1) 31 ∷ []

-- Is Z in the window? CPI r31, 0x0D; BRLO over `below` words; CPI r31, 0x11; BRSH over `above` words
abbrev pub guard : (below above : ℕ) → List Form
guard below above = Imm Cpi 31 0x0D ∷ Brbs 0 (pos below) ∷ Imm Cpi 31 0x11 ∷ Brbc 0 (pos above) ∷ []

-- Z and SREG back, and CALL MEM, behind which stands the pc
abbrev pub trap : List Form
trap = restore ++ Call mem_entry ∷ []

-- Z and SREG back, and RJMP over the trap and the pc behind it
abbrev pub back : List Form
back = restore ++ Rjmp (pos (length (words_of_forms trap) + 1)) ∷ []

-- the guard, whose branches lead to the trap; what is done inside the window; the trap
abbrev pub guarded : List Form → List Form
guarded access = let n = length (words_of_forms (access ++ back)) in guard (2 + n) n ++ access ++ back ++ trap

-- The templates, but for the pc at the end. -------------------------------------------------------

-- PUSH: ST Z, r; SBIW r31:r30, 1; and Z into the stack pointer
unfoldable pub push_forms : ℕ → List Form
push_forms r = save ++ from_pointer ++ guarded (StoreOff Z 0 r ∷ Word Sbiw 30 1 ∷ to_pointer)

-- POP: ADIW r31:r30, 1; LD d, Z; and Z into the stack pointer
unfoldable pub pop_forms : ℕ → List Form
pop_forms d = save ++ from_pointer ++ Word Adiw 30 1 ∷ guarded (LoadOff d Z 0 ∷ to_pointer)

-- LDD d, Y+q: MOVW r31:r30, r29:r28; ADIW r31:r30, q; LD d, Z
unfoldable pub load_forms : (d q : ℕ) → List Form
load_forms d q = save ++ Movw 30 28 ∷ Word Adiw 30 q ∷ guarded (LoadOff d Z 0 ∷ [])

-- STD Y+q, r: the same with ST Z, r
unfoldable pub store_forms : (q r : ℕ) → List Form
store_forms q r = save ++ Movw 30 28 ∷ Word Adiw 30 q ∷ guarded (StoreOff Z 0 r ∷ [])
