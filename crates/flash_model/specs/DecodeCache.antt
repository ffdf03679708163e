-- Serves private functions and the contracts of `Flash::micro_ops` and `Flash::program_known`: what is decoded of the words of flash: what each of the first
-- word addresses has, and for every word address the micro-operation of what is decoded there, or none.
use Rattle.std.specs.Prelude.{ℕ, ◌≡◌, ◌+◌, ◌<◌, ◌≤◌, ◌⊎◌, List, length, slice_index_or}
use Rattle.flash_model.specs.declared.micro_ops.MicroOp.{MicroOp}
use Rattle.flash_model.specs.MicroOps.{CanStandFor}
use Rattle.flash_words.specs.Pages.{word_count, page_words, word_at}
use Rattle.flash_model.specs.declared.decoded.Decoded.{Decoded}
use Rattle.flash_model.specs.declared.decode_cache.DecodeCache.{DecodeCache}
use Rattle.flash_model.specs.Code.{behind, decoded_of, decoded_at}

-- the micro-operation may stand for what is decoded at word address a
abbrev pub StandsAt : List ℕ → ℕ → MicroOp → Type 0
StandsAt words a op = CanStandFor op (decoded_at words a).instr (decoded_at words a).next_size

-- at a stands what is decoded there
abbrev pub HasDecoded : List ℕ → List Decoded → ℕ → Type 0
HasDecoded words decoded a = (d : Decoded) → slice_index_or decoded a d ≡ decoded_at words a

-- at a stands a micro-operation that may stand for it
abbrev pub HasMicroOp : List ℕ → List MicroOp → ℕ → Type 0
HasMicroOp words micro_ops a = (op : MicroOp) → StandsAt words a (slice_index_or micro_ops a op)

-- a word address outside of a range
abbrev pub IsOutside : (a from to : ℕ) → Type 0
IsOutside a from to = (a < from) ⊎ (to ≤ a)

-- each of the first word addresses, which are not all, has what is decoded there
pub record AreDecoded (words : List ℕ) (decoded : List Decoded) : Type 0 where
  pub sized : length decoded < word_count
  pub each : (a : ℕ) → a < length decoded → HasDecoded words decoded a

-- .. each outside of a range
pub record AreDecodedOutside (words : List ℕ) (decoded : List Decoded) (from to : ℕ) : Type 0 where
  pub sized : length decoded < word_count
  pub each : (a : ℕ) → a < length decoded → IsOutside a from to → HasDecoded words decoded a

-- .. each whose two words are outside of a range
pub record AreDecodedBeside (words : List ℕ) (decoded : List Decoded) (from to : ℕ) : Type 0 where
  pub sized : length decoded < word_count
  pub each : (a : ℕ) → a < length decoded → IsOutside a from to → IsOutside (behind a) from to → HasDecoded words decoded a

-- each word address has a micro-operation that may stand for what is decoded there
pub record AreMicroOps (words : List ℕ) (micro_ops : List MicroOp) : Type 0 where
  pub sized : length micro_ops ≡ word_count
  pub each : (a : ℕ) → a < word_count → HasMicroOp words micro_ops a

-- .. each outside of a range
pub record AreMicroOpsOutside (words : List ℕ) (micro_ops : List MicroOp) (from to : ℕ) : Type 0 where
  pub sized : length micro_ops ≡ word_count
  pub each : (a : ℕ) → a < word_count → IsOutside a from to → HasMicroOp words micro_ops a

-- .. each whose two words are outside of a range
pub record AreMicroOpsBeside (words : List ℕ) (micro_ops : List MicroOp) (from to : ℕ) : Type 0 where
  pub sized : length micro_ops ≡ word_count
  pub each : (a : ℕ) → a < word_count → IsOutside a from to → IsOutside (behind a) from to → HasMicroOp words micro_ops a

-- for each of a page's words but the last, whose instruction may have its second word elsewhere, a micro-operation that may stand for it
abbrev pub StandForPage : List ℕ → List MicroOp → Type 0
StandForPage words micro_ops = (i : ℕ) (op : MicroOp) → i + 1 < page_words
    → CanStandFor (slice_index_or micro_ops i op) (decoded_of (word_at words i) (word_at words (i + 1))).instr (decoded_of (word_at words i) (word_at words (i + 1))).next_size

-- all of it is right for these words
pub record IsCache (words : List ℕ) (cache : DecodeCache) : Type 0 where
  pub decoded : AreDecoded words cache.decoded.items
  pub micro_ops : AreMicroOps words cache.micro_ops.items

-- .. at each address whose two words are outside of a range
pub record IsCacheBeside (words : List ℕ) (cache : DecodeCache) (from to : ℕ) : Type 0 where
  pub decoded : AreDecodedBeside words cache.decoded.items from to
  pub micro_ops : AreMicroOpsBeside words cache.micro_ops.items from to
