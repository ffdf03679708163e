-- The pairs of a register and a pointer that the manual leaves undefined.
use Rattle.std.specs.Prelude.{ℕ, ◌+◌, Bool, true, false, ◌&&◌, ◌||◌, ◌==◌}
use Rattle.avr_isa.specs.declared.form.Form.{Form}
use Rattle.avr_isa.specs.declared.form.Form.TheVariants.{LoadAt, StoreAt, Lpm, Elpm}
use Rattle.avr_isa.specs.declared.operation.Ptr.{Ptr}
use Rattle.avr_isa.specs.declared.operation.Ptr.TheVariants.{ZInc, ZDec, YInc, YDec, X}

-- the low register of a pointer's pair
abbrev pub low_register : Ptr → ℕ
low_register ZInc = 30
low_register ZDec = 30
low_register YInc = 28
low_register YDec = 28
low_register _ = 26

-- a pointer that the access raises or lowers
abbrev pub changes : Ptr → Bool
changes X = false
changes _ = true

-- the register is one of the pair that begins at `low`
abbrev pub is_in_pair : ℕ → ℕ → Bool
is_in_pair low n = (n == low) || (n == low + 1)

-- What LD, ST, LPM and ELPM leave undefined: a data register of the pointer's own pair, where the
-- access changes the pointer (AVR Instruction Set Manual, the notes at these instructions).
unfoldable pub is_undefined : Form → Bool
is_undefined (LoadAt d pointer) = changes pointer && is_in_pair (low_register pointer) d
is_undefined (StoreAt pointer r) = changes pointer && is_in_pair (low_register pointer) r
is_undefined (Lpm d inc) = inc && is_in_pair 30 d
is_undefined (Elpm d inc) = inc && is_in_pair 30 d
is_undefined _ = false
