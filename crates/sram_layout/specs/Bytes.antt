-- Bytes, words, blocks and parts of the internal SRAM, seen as the list of its 4,096 bytes, and what a write of each leaves.
-- An address is a data address (ATmega128 datasheet, "AVR ATmega128 Memories", SRAM data memory): the SRAM begins at 0x0100.
use Rattle.std.specs.Prelude.{ℕ, ◌+◌, ◌-◌, ◌*◌, ◌/◌, ◌%◌, List, ◌++◌, take, drop, length, slice_index, slice_set}

-- the data address of the first byte
abbrev pub first_address : ℕ
first_address = 0x0100

-- how many bytes there are
abbrev pub byte_count : ℕ
byte_count = 4096

-- the byte at address a
unfoldable pub byte_at : List ℕ → ℕ → ℕ
byte_at m a = slice_index m (a - first_address)

-- m with b at address a
unfoldable pub with_byte : List ℕ → ℕ → ℕ → List ℕ
with_byte m a b = slice_set m (a - first_address) b

-- the word at address a, its low byte first
unfoldable pub data_word_at : List ℕ → ℕ → ℕ
data_word_at m a = byte_at m a + 256 * byte_at m (a + 1)

-- m with the word w at address a, its low byte first
unfoldable pub with_word : List ℕ → ℕ → ℕ → List ℕ
with_word m a w = with_byte (with_byte m a (w % 256)) (a + 1) (w / 256)

-- the 256 bytes from address a on
unfoldable pub block_at : List ℕ → ℕ → List ℕ
block_at m a = take 256 (drop (a - first_address) m)

-- m with the 256 bytes bs from address a on
unfoldable pub with_block : List ℕ → ℕ → List ℕ → List ℕ
with_block m a bs = take (a - first_address) m ++ bs ++ drop (a - first_address + 256) m

-- the n bytes from address a on
unfoldable pub part_at : List ℕ → ℕ → ℕ → List ℕ
part_at m a n = take n (drop (a - first_address) m)

-- m with the bytes bs from address a on
unfoldable pub with_part : List ℕ → ℕ → List ℕ → List ℕ
with_part m a bs = take (a - first_address) m ++ bs ++ drop (a - first_address + length bs) m
