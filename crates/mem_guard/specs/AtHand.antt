-- A byte of the program's memory at hand: in the stack window, or in a page that a frame holds. m is the list of SRAM's bytes;
-- whatever swap, devices and flash are, a load and a store of it move no page.
use Rattle.std.specs.Prelude.{◌≡◌, ℕ, false, List, if◌then◌else◌}
use Rattle.avr_exec.specs.Registers.{is_own}
use Rattle.avr_exec.specs.Spaces.{Went}
use Rattle.sram_layout.specs.Bytes.{with_byte}
use Rattle.flat_machine.specs.Addresses.{is_stack}
use Rattle.heap_frames.specs.Paged.{IsPaged}
use Rattle.heap_frames.specs.InFrame.{stored_in_frame}
use Rattle.mem_guard.specs.Guarded.{Guarded, load, store}

-- SRAM with v at this data address
unfoldable pub stored_at_hand : List ℕ → (a v : ℕ) → List ℕ
stored_at_hand m a v = if is_stack a then with_byte m a v else stored_in_frame m a v

-- a load of the byte gives this, and leaves all
pub record LoadsAtHand (m : List ℕ) (a byte : ℕ) : Type 0 where
  pub outside : is_own a ≡ false
  pub loads : (g : Guarded) → g.sram ≡ m → IsPaged g.sram g.swap → load g a ≡ Went byte g

-- a store of v changes SRAM alone
pub record StoresAtHand (m : List ℕ) (a v : ℕ) : Type 0 where
  pub outside : is_own a ≡ false
  pub stores : (g : Guarded) → g.sram ≡ m → IsPaged g.sram g.swap → store g a v ≡ Went tt (record g { sram = stored_at_hand m a v })
