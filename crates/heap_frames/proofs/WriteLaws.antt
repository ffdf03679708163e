-- The three writes of SRAM that paging is made of, byte by byte. m is the list of SRAM's bytes.
use Rattle.std.proofs.Common.{◌≡◌, ℕ, ◌+◌, ◌%◌, ◌<◌, ◌≤◌, ◌⊎◌, List, length, arith, ◌∙◌, inl}
use Rattle.std.specs.Prelude.{◌≢◌}
use Rattle.sram_layout.specs.Bytes.{byte_count, byte_at, with_byte, block_at, with_block}
use Rattle.sram_layout.specs.Cells.{frame_cell, victim_cell, given_cell, slot_cell, with_frame}
use Rattle.sram_layout.proofs.Laws.{length-with_byte, length-with_block, byte_same, byte_other, byte_out_of_block, block_same, block_out_of_byte}
use Rattle.sram_layout.proofs.CellLaws.{length-with_frame}
use Rattle.heap_frames.specs.Frames.{dirty, frame_bytes, page_held, state_of, victim, given, slot_of}
use Rattle.heap_frames.specs.Paging.{with_page_in_frame, with_slot_given, with_byte_in_frame}

-- the bytes of frame i and of its table entry, and the cell of the frame that is replaced next
pub record OutOfFrame (i b : ℕ) : Type 0 where
  pub bytes : (b < frame_bytes i) ⊎ (frame_bytes i + 256 ≤ b)
  pub page : b ≢ frame_cell i
  pub state : b ≢ frame_cell i + 1

-- a page put into a frame
module _ (m bytes : List ℕ) (i page state : ℕ) (size : length m ≡ byte_count) (fits : length bytes ≡ 256) (inside : i < 8) where
  abbrev block : List ℕ
  block = with_block m (frame_bytes i) bytes

  long : length block ≡ length m
  long = length-with_block m bytes (frame_bytes i) fits (omega arith) (omega arith)

  pub page_length : length (with_page_in_frame m i page bytes state) ≡ length m
  unfolding with_page_in_frame
  page_length = length-with_byte (with_frame block (frame_cell i) page state) victim_cell ((i + 1) % 8) ∙ length-with_frame block (frame_cell i) page state ∙ long

  pub page_victim : victim (with_page_in_frame m i page bytes state) ≡ (i + 1) % 8
  unfolding with_page_in_frame
  page_victim = byte_same (with_frame block (frame_cell i) page state) victim_cell ((i + 1) % 8) (omega arith) (omega (arith, length-with_frame block (frame_cell i) page state, long))

  pub page_names : page_held (with_page_in_frame m i page bytes state) i ≡ page
  unfolding with_page_in_frame
  page_names =
      byte_other (with_frame block (frame_cell i) page state) victim_cell (frame_cell i) ((i + 1) % 8) (omega arith) (omega arith) (λ same. omega arith)
      ∙ byte_other (with_byte block (frame_cell i) page) (frame_cell i + 1) (frame_cell i) state (omega arith) (omega arith) (λ same. omega arith)
      ∙ byte_same block (frame_cell i) page (omega arith) (omega (arith, long))

  pub page_state : state_of (with_page_in_frame m i page bytes state) i ≡ state
  unfolding with_page_in_frame
  page_state =
      byte_other (with_frame block (frame_cell i) page state) victim_cell (frame_cell i + 1) ((i + 1) % 8) (omega arith) (omega arith) (λ same. omega arith)
      ∙ byte_same (with_byte block (frame_cell i) page) (frame_cell i + 1) state (omega arith) (omega (arith, length-with_byte block (frame_cell i) page, long))

  pub page_elsewhere : (b : ℕ) → 0x0100 ≤ b → OutOfFrame i b → b ≢ victim_cell → byte_at (with_page_in_frame m i page bytes state) b ≡ byte_at m b
  unfolding with_page_in_frame
  page_elsewhere b from out apart =
      byte_other (with_frame block (frame_cell i) page state) victim_cell b ((i + 1) % 8) (omega arith) from apart
      ∙ byte_other (with_byte block (frame_cell i) page) (frame_cell i + 1) b state (omega arith) from out.state
      ∙ byte_other block (frame_cell i) b page (omega arith) from out.page
      ∙ byte_out_of_block m bytes (frame_bytes i) b fits (omega arith) (omega arith) from out.bytes

  pub page_block : block_at (with_page_in_frame m i page bytes state) (frame_bytes i) ≡ bytes
  unfolding with_page_in_frame
  page_block =
      block_out_of_byte (with_frame block (frame_cell i) page state) victim_cell (frame_bytes i) ((i + 1) % 8) (omega arith) (omega arith) (inl (omega arith))
      ∙ block_out_of_byte (with_byte block (frame_cell i) page) (frame_cell i + 1) (frame_bytes i) state (omega arith) (omega arith) (inl (omega arith))
      ∙ block_out_of_byte block (frame_cell i) (frame_bytes i) page (omega arith) (omega arith) (inl (omega arith))
      ∙ block_same m bytes (frame_bytes i) fits (omega arith) (omega arith)

-- a slot given to a page
pub given_length : (m : List ℕ) (page : ℕ) → length (with_slot_given m page) ≡ length m
unfolding with_slot_given
given_length m page = length-with_byte (with_byte m (slot_cell page) (given m)) given_cell (given m + 1) ∙ length-with_byte m (slot_cell page) (given m)

pub given_more : (m : List ℕ) (page : ℕ) → length m ≡ byte_count → given (with_slot_given m page) ≡ given m + 1
unfolding with_slot_given
given_more m page size = byte_same (with_byte m (slot_cell page) (given m)) given_cell (given m + 1) (omega arith) (omega (arith, length-with_byte m (slot_cell page) (given m)))

pub given_slot : (m : List ℕ) (page : ℕ) → length m ≡ byte_count → page < 256 → slot_of (with_slot_given m page) page ≡ given m
unfolding with_slot_given
given_slot m page size below =
    byte_other (with_byte m (slot_cell page) (given m)) given_cell (slot_cell page) (given m + 1) (omega arith) (omega arith) (λ same. omega arith)
    ∙ byte_same m (slot_cell page) (given m) (omega arith) (omega arith)

pub given_elsewhere : (m : List ℕ) (page b : ℕ) → 0x0100 ≤ b → b ≢ slot_cell page → b ≢ given_cell → byte_at (with_slot_given m page) b ≡ byte_at m b
unfolding with_slot_given
given_elsewhere m page b from apart apart' =
    byte_other (with_byte m (slot_cell page) (given m)) given_cell b (given m + 1) (omega arith) from apart'
    ∙ byte_other m (slot_cell page) b (given m) (omega arith) from apart

-- a byte of a page in a frame
module _ (m : List ℕ) (i page offset v : ℕ) where
  abbrev one : List ℕ
  one = with_byte m (frame_bytes i + offset) v

  pub byte_length : length (with_byte_in_frame m i page offset v) ≡ length m
  unfolding with_byte_in_frame
  byte_length = length-with_frame one (frame_cell i) page dirty ∙ length-with_byte m (frame_bytes i + offset) v

  pub byte_there : length m ≡ byte_count → i < 8 → offset < 256 → byte_at (with_byte_in_frame m i page offset v) (frame_bytes i + offset) ≡ v
  unfolding with_byte_in_frame
  byte_there size inside below =
      byte_other (with_byte one (frame_cell i) page) (frame_cell i + 1) (frame_bytes i + offset) dirty (omega arith) (omega arith) (λ same. omega arith)
      ∙ byte_other one (frame_cell i) (frame_bytes i + offset) page (omega arith) (omega arith) (λ same. omega arith)
      ∙ byte_same m (frame_bytes i + offset) v (omega arith) (omega arith)

  pub byte_names : length m ≡ byte_count → i < 8 → page_held (with_byte_in_frame m i page offset v) i ≡ page
  unfolding with_byte_in_frame
  byte_names size inside =
      byte_other (with_byte one (frame_cell i) page) (frame_cell i + 1) (frame_cell i) dirty (omega arith) (omega arith) (λ same. omega arith)
      ∙ byte_same one (frame_cell i) page (omega arith) (omega (arith, length-with_byte m (frame_bytes i + offset) v))

  pub byte_state : length m ≡ byte_count → i < 8 → state_of (with_byte_in_frame m i page offset v) i ≡ dirty
  unfolding with_byte_in_frame
  byte_state size inside =
      byte_same (with_byte one (frame_cell i) page) (frame_cell i + 1) dirty (omega arith) (omega (arith, length-with_byte one (frame_cell i) page, length-with_byte m (frame_bytes i + offset) v))

  pub byte_elsewhere : (b : ℕ) → 0x0100 ≤ b → b ≢ frame_bytes i + offset → b ≢ frame_cell i → b ≢ frame_cell i + 1 → byte_at (with_byte_in_frame m i page offset v) b ≡ byte_at m b
  unfolding with_byte_in_frame
  byte_elsewhere b from apart names states =
      byte_other (with_byte one (frame_cell i) page) (frame_cell i + 1) b dirty (omega arith) from states
      ∙ byte_other one (frame_cell i) b page (omega arith) from names
      ∙ byte_other m (frame_bytes i + offset) b v (omega arith) from apart
