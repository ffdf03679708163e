-- Serves `load_in_frame` and `store_in_frame`: a byte of the heap whose page is in a frame.
use Rattle.std.specs.Prelude.{ℕ, ◌/◌, ◌%◌, List}
use Rattle.heap_frames.specs.Paging.{frame_for, with_byte_in_frame}

-- SRAM with v at an address of the heap whose page is in a frame
unfoldable pub stored_in_frame : List ℕ → (a v : ℕ) → List ℕ
stored_in_frame m a v = with_byte_in_frame m (frame_for m (a / 256)) (a / 256) (a % 256) v
