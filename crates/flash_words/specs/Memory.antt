-- The flash as contracts see it, and as it is first.
use Rattle.std.specs.Prelude.{◌≡◌, ℕ, ◌-◌, ◌<◌, List, [], ◌++◌, length, Option, None}
use Rattle.flash_words.specs.Pages.{word_count, page_count, word_at}
use Rattle.base.specs.Lists.{many}

-- the words from address 0 on, how often each page was erased, the numbers of the operations that are to fail,
-- how many operations were tried, and the page of the last one that was refused
pub record Memory : Type 0 where
  pub words : List ℕ
  pub erases : List ℕ
  pub failing : List ℕ
  pub ops : ℕ
  pub refused : Option ℕ

-- each word has 16 bits
abbrev pub AreWords : List ℕ → Type 0
AreWords words = (a : ℕ) → word_at words a < 65536

-- the part has 65,536 words in 512 pages, and a word has 16 bits
pub record IsWhole (memory : Memory) : Type 0 where
  pub words : length memory.words ≡ word_count
  pub words_fit : AreWords memory.words
  pub erases : length memory.erases ≡ page_count

-- the first word of the kernel's pages 480 to 511
abbrev pub kernel_first : ℕ
kernel_first = 0xF000

-- RET (AVR Instruction Set Manual, "RET")
abbrev pub return_word : ℕ
return_word = 0x9508

-- the image from word 0 on, erased words up to the kernel's pages, and RET in each word of these
unfoldable pub loaded : List ℕ → List ℕ
loaded image = image ++ many (kernel_first - length image) 0xFFFF ++ many (word_count - kernel_first) return_word

-- a new flash: no page was erased, and no operation was tried
abbrev pub new_flash : (image failing : List ℕ) → Memory
new_flash image failing = record { words = loaded image; erases = many page_count 0; failing = failing; ops = 0; refused = None }

-- a flash whose words are all erased, before any operation
abbrev pub erased_flash : Memory
erased_flash = record { words = many word_count 0xFFFF; erases = many page_count 0; failing = []; ops = 0; refused = None }
